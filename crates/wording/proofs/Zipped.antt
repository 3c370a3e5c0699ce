-- Two lists read side by side.
use Rattle.std.proofs.Common.{◌≡◌, ℕ, ◌<◌, ◌≤◌, Bool, true, false, List, length, get_or, zip, refl, sym, ap, ◌∙◌, subst, arith}
use Rattle.std.specs.Bool.{MatchBool}
use Rattle.std.specs.List.{range_with_len, AllWithin, HoldsAt}
use Rattle.std.proofs.lemmas.Bool.{false≢true}
use Rattle.std.proofs.lemmas.List.FromFn.{length-range_with_len, get_or-range_with_len}
use Rattle.std.proofs.lemmas.Slice.Zip.{length-zip, get_or-zip}
use Rattle.std.specs.Prelude.{IsTrue, ◌↔◌}

-- a test of each byte beside its place, of the first n places
module _ (n : ℕ) (xs : List ℕ) (fits : length xs ≤ n) (Yes : ℕ → ℕ → Type 0) where
  abbrev placed : List (ℕ × ℕ)
  placed = zip (range_with_len 0 n) xs

  long : length placed ≡ length xs
  long = omega (arith, length-zip (range_with_len 0 n) xs, length-range_with_len 0 n)

  read : (i : ℕ) → i < length xs → get_or placed i (0, 0) ≡ (i, get_or xs i 0)
  read i l = get_or-zip (range_with_len 0 n) xs i (0, 0) (omega (arith, length-range_with_len 0 n)) l ∙ ap (λ k. (k, get_or xs i 0)) (omega (arith, get_or-range_with_len 0 n i 0 (omega arith)))

  pub all_placed : (r : Bool) → MatchBool r (AllWithin (λ p. Yes p.0 p.1) placed 0 (length placed)) ((k : ℕ) × (k < length placed) × HoldsAt (λ p. Yes p.0 p.1 → ⊥) placed k)
      → IsTrue r ↔ ((i : ℕ) → i < length xs → Yes i (get_or xs i 0))
  all_placed true h = (λ t i l. subst (λ p. Yes p.0 p.1) (read i l) (h i (0, 0) (omega arith) (omega (arith, long))), λ k. refl)
  all_placed false h = (λ e. absurd (false≢true e), λ all. absurd (h.2 (0, 0) (subst (λ p. Yes p.0 p.1) (sym (read h.0 (omega (arith, long, h.1)))) (all h.0 (omega (arith, long, h.1))))))
