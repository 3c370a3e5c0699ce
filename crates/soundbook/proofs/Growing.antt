-- A set with one symbol more.
use Rattle.std.proofs.Common.{◌≡◌, ℕ, true, ◌||◌, ◌⊎◌, sym, refl, ◌∙◌, inl, inr, ⊎_elim}
use Rattle.std.proofs.lemmas.Bool.{and_from, and_parts, eq-eqb, eqb-true, or_cases, or_left, or_right}
use Rattle.rulebook.specs.Sets.{has, symbolic, is_symbol}
use Rattle.rulebook.specs.declared.sets.SymbolSet.{SymbolSet}

-- t is s with the symbol x
module _ (s t : SymbolSet) (x : ℕ) (with : (c : ℕ) → has t c ≡ (is_symbol x c || has s c)) where
  pub with_keeps : (c : ℕ) → has s c ≡ true → has t c ≡ true
  with_keeps c h = with c ∙ or_right _ _ h

  pub with_adds : symbolic x ≡ true → has t x ≡ true
  with_adds h = with x ∙ or_left _ _ (and_from _ _ h (eq-eqb x x refl))

  pub with_only : (c : ℕ) → has t c ≡ true → (x ≡ c) ⊎ (has s c ≡ true)
  with_only c h = ⊎_elim (λ e. inl (eqb-true x c (and_parts _ _ e).1)) inr (or_cases _ _ (sym (with c) ∙ h))
