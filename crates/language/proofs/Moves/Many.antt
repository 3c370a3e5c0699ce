-- How many moves a reading has.
use Rattle.std.proofs.Common.{◌≡◌, ℕ, suc, ◌+◌, ◌*◌, length, refl, arith, length-append}
use Rattle.language.specs.Readings.{Children, none, key, part, yield}
use Rattle.language.specs.Moves.{inner, moves, below}

many_inner : (r : ℕ) (ks : Children) → length (inner r ks) ≡ 2 * below ks + length (yield ks)
many_inner r none = refl
many_inner r (key ks c) = simp length-append (omega (arith, many_inner r ks))
many_inner r (part ks s cs) = simp length-append (omega (arith, many_inner r ks, many_inner s cs))

-- two moves for each rule and one for each word
pub many_moves : (r : ℕ) (ks : Children) → length (moves r ks) ≡ 2 * suc (below ks) + length (yield ks)
many_moves r ks = simp length-append (omega (arith, many_inner r ks))
