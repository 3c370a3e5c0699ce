-- Members of lists that are put together, mapped or counted up.
use Rattle.std.proofs.Common.{◌≡◌, ℕ, zero, suc, ◌<◌, ◌≤◌, List, [], ◌∷◌, ◌++◌, map, length, get_or, sym, refl, ap, subst, inl, inr, ⊎_elim, arith}
use Rattle.std.specs.List.{AllByRecursion}
use Rattle.std.proofs.lemmas.Bool.{cases_order}
use Rattle.language.specs.Columns.{Among}

module _ {A : Type 0} where
  -- a member of either list is a member of the two put together
  pub among_front : (t : A) (xs ys : List A) → Among t xs → Among t (xs ++ ys)
  among_front t [] ys h = absurd h
  among_front t (x ∷ xs) ys (inl e) = inl e
  among_front t (x ∷ xs) ys (inr h) = inr (among_front t xs ys h)

  pub among_back : (t : A) (xs ys : List A) → Among t ys → Among t (xs ++ ys)
  among_back t [] ys h = h
  among_back t (x ∷ xs) ys h = inr (among_back t xs ys h)

  -- what f tells at 1 to n
  pub upto : (ℕ → A) → ℕ → List A
  upto f zero = []
  upto f (suc d) = f (suc d) ∷ upto f d

  -- they are n
  pub upto_length : (f : ℕ → A) (n : ℕ) → length (upto f n) ≡ n
  unfolding upto
  upto_length f zero = refl
  upto_length f (suc n) = ap suc (upto_length f n)

  -- each of them stands in the list
  pub upto_among : (f : ℕ → A) (n d : ℕ) → 1 ≤ d → d ≤ n → Among (f d) (upto f n)
  unfolding upto
  upto_among f zero d l h = absurd (omega arith)
  upto_among f (suc n) d l h = ⊎_elim (λ e. inl (ap f e)) (⊎_elim (λ b. inr (upto_among f n d l (omega arith))) (λ b. absurd (omega arith))) (cases_order d (suc n))

-- what is made of a member is a member of the list that is made so
pub among_map : {A B : Type 0} (f : A → B) (x : A) (xs : List A) → Among x xs → Among (f x) (map f xs)
among_map f x [] m = absurd m
among_map f x (y ∷ xs) (inl e) = inl (ap f e)
among_map f x (y ∷ xs) (inr m) = inr (among_map f x xs m)

-- what holds of each element holds of a member
pub all_among : {A : Type 0} (P : A → Type 0) (xs : List A) (x : A) → AllByRecursion P xs → Among x xs → P x
all_among P [] x a m = absurd m
all_among P (y ∷ xs) x a (inl e) = subst P (sym e) a.0
all_among P (y ∷ xs) x a (inr m) = all_among P xs x a.1 m

-- what stands at a place of a list is in it
pub among_get : {A : Type 0} (xs : List A) (q : ℕ) (past : A) → q < length xs → Among (get_or xs q past) xs
among_get [] q past l = absurd (omega arith)
among_get (x ∷ xs) zero past l = inl refl
among_get (x ∷ xs) (suc q) past l = inr (among_get xs q past (omega arith))

-- and what is made of the elements and is in the list that is made so is made of one at a place
pub made_at : {A B : Type 0} (f : A → B) (y : B) (xs : List A) (past : A) → Among y (map f xs) → (k : ℕ) × (k < length xs) × (f (get_or xs k past) ≡ y)
made_at f y [] past m = absurd m
made_at f y (x ∷ xs) past (inl e) = (0, omega arith, sym e)
made_at f y (x ∷ xs) past (inr m) = let (k, inside, is) = made_at f y xs past m in (suc k, omega (arith, inside), is)
