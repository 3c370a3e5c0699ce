-- Tests over lists that compute.
use Rattle.std.proofs.Common.{◌≡◌, ℕ, Bool, true, false, ◌&&◌, ◌||◌, eqb, List, [], ◌∷◌, sym, refl, subst, inl, inr, ⊎_elim, arith}
use Rattle.std.proofs.lemmas.Bool.{and_parts, or_cases, or_left, or_right, eqb-true}
use Rattle.language.specs.Columns.{Among}

-- a test holds of some member, or of every member
module _ {X : Type 0} where
  unfoldable pub any : (X → Bool) → List X → Bool
  any f [] = false
  any f (x ∷ xs) = f x || any f xs

  unfoldable pub every : (X → Bool) → List X → Bool
  every f [] = true
  every f (x ∷ xs) = f x && every f xs

  -- some member of the list has P
  pub record Member (P : X → Type 0) (xs : List X) : Type 0 where
    pub the : X
    pub among : Among the xs
    pub has : P the

  pub any_member : (f : X → Bool) (xs : List X) → any f xs ≡ true → Member (λ x. f x ≡ true) xs
  unfolding any
  any_member f [] h = let z : ◌≡◌ {A = ℕ} 0 1 = cc in absurd (omega arith)
  any_member f (x ∷ xs) h = ⊎_elim
      (λ e. record { the = x; among = inl refl; has = e })
      (λ e. let m = any_member f xs e in record { the = m.the; among = inr m.among; has = m.has })
      (or_cases (f x) (any f xs) h)

  pub member_any : (f : X → Bool) (xs : List X) (x : X) → Among x xs → f x ≡ true → any f xs ≡ true
  unfolding any
  member_any f [] x m h = absurd m
  member_any f (y ∷ xs) x (inl e) h = or_left (f y) (any f xs) (subst (λ z. f z ≡ true) e h)
  member_any f (y ∷ xs) x (inr m) h = or_right (f y) (any f xs) (member_any f xs x m h)

  pub every_member : (f : X → Bool) (xs : List X) (x : X) → every f xs ≡ true → Among x xs → f x ≡ true
  unfolding every
  every_member f [] x h m = absurd m
  every_member f (y ∷ xs) x h (inl e) = subst (λ z. f z ≡ true) (sym e) (and_parts (f y) (every f xs) h).0
  every_member f (y ∷ xs) x h (inr m) = every_member f xs x (and_parts (f y) (every f xs) h).1 m

-- X stands in the list
unfoldable pub has : ℕ → List ℕ → Bool
has X ys = any (λ y. eqb X y) ys

pub has_among : (X : ℕ) (ys : List ℕ) → has X ys ≡ true → Among X ys
unfolding has
has_among X ys h = let m = any_member (λ y. eqb X y) ys h in subst (λ y. Among y ys) (sym (eqb-true X m.the m.has)) m.among
