-- How many symbols a set holds: the ones of its mask.
use Rattle.std.proofs.Common.{◌≡◌, ℕ, zero, suc, ◌/◌, ◌%◌, ◌^◌, ◌<◌, false, cond, eqb, map, sym, refl, ap, ◌∙◌, arith}
use Rattle.std.specs.Prelude.{count_ones}
use Rattle.std.specs.List.{range_with_len}
use lib.Lanes.{mask_l}
use Rattle.std.proofs.lemmas.List.FromFn.{get_or-map-range_with_len}
use Rattle.std.proofs.lemmas.Nat.Bits.{bit_at-lt, same_from_bits_below}
use Rattle.std.proofs.lemmas.Simd.{bit_mask_l, mask_l-lt, ones-mask_l}
use Rattle.language.specs.Masks.{bit}
use Rattle.rulebook.specs.Sets.{has, many}
use Rattle.rulebook.specs.declared.sets.SymbolSet.{SymbolSet}
use Rattle.rulebook.proofs.Holding.{holds_inside}

-- a number below 2 by whether it is 1
by_test : (x : ℕ) → x < 2 → x ≡ cond (eqb x 1) 1 0
by_test zero h = refl
by_test (suc zero) h = refl
by_test (suc (suc x)) h = absurd (omega arith)

-- the mask is that of what it holds, symbol by symbol
mask_is : (s : SymbolSet) → s.mask < 2 ^ 64 → s.mask ≡ mask_l (map (has s) (range_with_len 1 64))
unfolding bit
mask_is s fits = same_from_bits_below 64 s.mask (mask_l (map (has s) (range_with_len 1 64))) fits (mask_l-lt (map (has s) (range_with_len 1 64))) same
  where
    same : (i : ℕ) → i < 64 → s.mask / 2 ^ i % 2 ≡ mask_l (map (has s) (range_with_len 1 64)) / 2 ^ i % 2
    same i l =
        by_test (s.mask / 2 ^ i % 2) (bit_at-lt s.mask i)
        ∙ (ap (λ b. cond b 1 0) (holds_inside s.mask i (suc i) l (omega arith))
        ∙ (ap (λ b. cond b 1 0) (sym (get_or-map-range_with_len (has s) 1 64 i (suc i) false l (omega arith)))
        ∙ sym (bit_mask_l (map (has s) (range_with_len 1 64)) i)))

pub ones_many : (s : SymbolSet) → s.mask < 2 ^ 64 → count_ones s.mask ≡ many s
ones_many s fits = ap count_ones (mask_is s fits) ∙ ones-mask_l (has s) (range_with_len 1 64)
