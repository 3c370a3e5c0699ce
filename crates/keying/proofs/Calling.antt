-- The calls that key in words, by their numbers.
use Rattle.std.proofs.Common.{◌≡◌, ℕ, zero, suc, ◌+◌, ◌*◌, ◌<◌, List, [], ◌∷◌, length, map, get_or, refl, ap, ◌∙◌, arith}
use Rattle.std.proofs.lemmas.List.{length-map}
use Rattle.language.specs.Words.{Word}
use Rattle.dialogue.specs.Runs.{call_at}
use Rattle.dialogue.specs.declared.calls.Call.TheVariants.{Press, Lit, Reading}
use Rattle.keying.specs.Keyed.{keying}

-- two for each word, and one more
keying_long : (ws : List Word) → length (keying ws) ≡ 2 * length ws + 1
keying_long [] = refl
keying_long (w ∷ ws) = let rest = keying_long ws in omega (arith, rest)

module _ {X : Type 0} (f : X → Word) where
  pub keying_many : (xs : List X) → length (keying (map f xs)) ≡ 2 * length xs + 1
  keying_many xs = keying_long (map f xs) ∙ ap (λ n. 2 * n + 1) (length-map xs f)

  double : (i : ℕ) → 2 * suc i ≡ suc (suc (2 * i))
  double i = omega arith

  -- the press of a word
  pub keying_press : (xs : List X) (i : ℕ) (d : X) → i < length xs → call_at (keying (map f xs)) (2 * i) ≡ Press (f (get_or xs i d))
  keying_press [] i d inside = absurd (omega (arith, inside))
  keying_press (x ∷ xs) zero d inside = refl
  keying_press (x ∷ xs) (suc i) d inside = ap (call_at (keying (map f (x ∷ xs)))) (double i) ∙ keying_press xs i d (omega (arith, inside))

  -- the lit after it
  pub keying_lit : (xs : List X) (i : ℕ) → i < length xs → call_at (keying (map f xs)) (suc (2 * i)) ≡ Lit
  keying_lit [] i inside = absurd (omega (arith, inside))
  keying_lit (x ∷ xs) zero inside = refl
  keying_lit (x ∷ xs) (suc i) inside = ap (λ n. call_at (keying (map f (x ∷ xs))) (suc n)) (double i) ∙ keying_lit xs i (omega (arith, inside))

  -- the reading
  pub keying_reading : (xs : List X) → call_at (keying (map f xs)) (2 * length xs) ≡ Reading
  keying_reading [] = refl
  keying_reading (x ∷ xs) = ap (call_at (keying (map f (x ∷ xs)))) (double (length xs)) ∙ keying_reading xs
