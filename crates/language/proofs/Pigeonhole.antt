-- A list in which nothing stands twice is no longer than a list that holds all of it.
use Rattle.std.proofs.Common.{◌≡◌, suc, ◌≤◌, List, [], ◌∷◌, length, sym, refl, ◌∙◌, subst, inl, inr, arith}
use Rattle.language.specs.Columns.{Among, Apart}

module _ {A : Type 0} where
  -- the list without one occurrence of a member
  record Without (x : A) (xs : List A) : Type 0 where
    rest : List A
    shorter : suc (length rest) ≡ length xs
    others : (y : A) → Among y xs → (y ≡ x → ⊥) → Among y rest

  without : (x : A) (xs : List A) → Among x xs → Without x xs
  without x [] h = absurd h
  without x (y ∷ xs) (inl e) = record { rest = xs; shorter = refl; others = drop_head }
    where
      drop_head : (z : A) → Among z (y ∷ xs) → (z ≡ x → ⊥) → Among z xs
      drop_head z (inl p) n = absurd (n (p ∙ sym e))
      drop_head z (inr m) n = m
  without x (y ∷ xs) (inr h) = keep (without x xs h)
    where
      keep : Without x xs → Without x (y ∷ xs)
      keep w = record { rest = y ∷ w.rest; shorter = omega (arith, w.shorter); others = others }
        where
          others : (z : A) → Among z (y ∷ xs) → (z ≡ x → ⊥) → Among z (y ∷ w.rest)
          others z (inl p) n = inl p
          others z (inr m) n = inr (w.others z m n)

  pub no_more : (ts xs : List A) → Apart ts → ((t : A) → Among t ts → Among t xs) → length ts ≤ length xs
  no_more [] xs a h = omega arith
  no_more (t ∷ ts) xs a h =
      let w = without t xs (h t (inl refl)) in
      let n : length ts ≤ length w.rest = no_more ts w.rest a.1 (λ u m. w.others u (h u (inr m)) (λ e. a.0 (subst (λ x. Among x ts) e m))) in
      omega (arith, w.shorter)
