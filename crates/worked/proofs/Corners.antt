-- Left corners computed as a list.
use Rattle.std.proofs.Common.{◌≡◌, ℕ, zero, suc, ◌≤◌, Bool, true, cond, not, ◌&&◌, ◌||◌, List, [], ◌∷◌, length, sym, subst, inl, inr, ⊎_elim, arith}
use Rattle.std.proofs.lemmas.Bool.{and_parts, or_cases, cases_Bool, cases_order, cond-true, cond-false, not-true, both_ways}
use Rattle.language.specs.Book.{Grammar, left, symbol}
use Rattle.language.specs.Chart.{Corner, self, down}
use Rattle.language.specs.Columns.{Among}
use Rattle.worked.proofs.Check.{has, has_among}

module _ (g : Grammar) where
  -- the list with the first symbol of each of the rules 1 to n whose left side it holds
  unfoldable pub swept : ℕ → List ℕ → List ℕ
  swept zero xs = xs
  swept (suc r) xs = cond (has (left g (suc r)) xs && not (has (symbol g (suc r) 0) xs)) (symbol g (suc r) 0 ∷ swept r xs) (swept r xs)

  unfoldable pub sweeps : ℕ → List ℕ → List ℕ
  sweeps zero xs = xs
  sweeps (suc n) xs = sweeps n (swept (length g.rules) xs)

  -- the left corners of X: a sweep for each part is enough in a book of so few parts
  unfoldable pub corners : ℕ → List ℕ
  corners X = sweeps g.parts (X ∷ [])

  -- the rules 1 to n add nothing more
  unfoldable pub closed_under : ℕ → List ℕ → Bool
  closed_under zero xs = true
  closed_under (suc r) xs = (not (has (left g (suc r)) xs) || has (symbol g (suc r) 0) xs) && closed_under r xs

  -- the corners computed hold their own symbol and are closed
  unfoldable pub cornered : ℕ → Bool
  cornered X = has X (corners X) && closed_under (length g.rules) (corners X)

  swept_corners : (X n : ℕ) (xs : List ℕ) → n ≤ length g.rules → ((Y : ℕ) → Among Y xs → Corner g X Y) → (Y : ℕ) → Among Y (swept n xs) → Corner g X Y
  unfolding swept
  swept_corners X zero xs l h Y m = h Y m
  swept_corners X (suc r) xs l h Y m =
      let rest = swept_corners X r xs (omega arith) h in
      ⊎_elim
      (λ e. added e (subst (Among Y) (cond-true _ _ (swept r xs) e) m) rest)
      (λ e. rest Y (subst (Among Y) (cond-false _ (symbol g (suc r) 0 ∷ swept r xs) (swept r xs) e) m))
      (cases_Bool (has (left g (suc r)) xs && not (has (symbol g (suc r) 0) xs)))
    where
      added : (has (left g (suc r)) xs && not (has (symbol g (suc r) 0) xs)) ≡ true → Among Y (symbol g (suc r) 0 ∷ swept r xs) → ((Z : ℕ) → Among Z (swept r xs) → Corner g X Z)
          → Corner g X Y
      added e (inl p) rest =
          let under = h (left g (suc r)) (has_among (left g (suc r)) xs (and_parts (has (left g (suc r)) xs) _ e).0) in
          subst (Corner g X) (sym p) (down (suc r) (record { low = omega arith; high = l }) under)
      added e (inr p) rest = rest Y p

  sweeps_corners : (X n : ℕ) (xs : List ℕ) → ((Y : ℕ) → Among Y xs → Corner g X Y) → (Y : ℕ) → Among Y (sweeps n xs) → Corner g X Y
  unfolding sweeps
  sweeps_corners X zero xs h Y m = h Y m
  sweeps_corners X (suc n) xs h Y m = sweeps_corners X n (swept (length g.rules) xs) (swept_corners X (length g.rules) xs (omega arith) h) Y m

  -- what is computed is a left corner
  pub corners_sound : (X Y : ℕ) → has Y (corners X) ≡ true → Corner g X Y
  unfolding corners
  corners_sound X Y h = sweeps_corners X g.parts (X ∷ []) start Y (has_among Y _ h)
    where
      start : (Z : ℕ) → Among Z (X ∷ []) → Corner g X Z
      start Z (inl e) = subst (Corner g X) (sym e) self
      start Z (inr m) = absurd m

  closed_rule : (xs : List ℕ) (n r : ℕ) → closed_under n xs ≡ true → 1 ≤ r → r ≤ n → has (left g r) xs ≡ true → has (symbol g r 0) xs ≡ true
  unfolding closed_under
  closed_rule xs zero r c l u h = absurd (omega arith)
  closed_rule xs (suc n) r c l u h =
      let parts = and_parts (not (has (left g (suc n)) xs) || has (symbol g (suc n) 0) xs) (closed_under n xs) c in
      ⊎_elim (here parts.0) (⊎_elim (λ b. closed_rule xs n r parts.1 l (omega arith) h) (λ b. absurd (omega arith))) (cases_order r (suc n))
    where
      here : (not (has (left g (suc n)) xs) || has (symbol g (suc n) 0) xs) ≡ true → r ≡ suc n → has (symbol g r 0) xs ≡ true
      here t e = ⊎_elim
          (λ no_left. absurd (both_ways (has (left g (suc n)) xs) (not-true _ no_left) (subst (λ x. has (left g x) xs ≡ true) e h)))
          (λ in_List. subst (λ x. has (symbol g x 0) xs ≡ true) (sym e) in_List)
          (or_cases (not (has (left g (suc n)) xs)) (has (symbol g (suc n) 0) xs) t)

  -- every left corner is computed, where the list is closed
  pub corners_complete : (X Y : ℕ) → cornered X ≡ true → Corner g X Y → has Y (corners X) ≡ true
  unfolding cornered
  corners_complete X _ h self = (and_parts (has X (corners X)) _ h).0
  corners_complete X _ h (down r n c) =
      closed_rule (corners X) (length g.rules) r (and_parts (has X (corners X)) _ h).1 n.low n.high (corners_complete X (left g r) h c)
