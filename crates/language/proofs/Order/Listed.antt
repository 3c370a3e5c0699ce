-- Properties whose examples can be listed, and the least of those examples.
use Rattle.std.proofs.Common.{◌≡◌, ℕ, zero, suc, ◌<◌, ◌⊎◌, List, [], ◌∷◌, ◌++◌, map, sym, refl, subst, inl, inr, ⊎_elim, arith}
use Rattle.std.specs.List.{flat_map, AllByRecursion}
use Rattle.language.specs.Columns.{Among}
use Rattle.language.proofs.Members.{among_front, among_back, among_map}
use Rattle.std.proofs.ByRecursion.{All-append, All-map, All-weaker}
use Rattle.std.proofs.lemmas.Bool.{cases_lt}

-- a list of all that have the property, and of nothing else
pub record Listed {A : Type 0} (P : A → Type 0) : Type 0 where
  pub list : List A
  pub each : AllByRecursion P list
  pub every : (a : A) → P a → Among a list

-- nothing has the property
pub listed_none : {A : Type 0} (P : A → Type 0) → ((a : A) → P a → ⊥) → Listed P
listed_none P never = record { list = []; each = tt; every = λ a p. absurd (never a p) }

-- one thing has it
pub listed_one : {A : Type 0} (x : A) → Listed (λ a. a ≡ x)
listed_one x = record { list = x ∷ []; each = (refl, tt); every = λ a e. inl e }

-- the same property said otherwise
pub listed_same : {A : Type 0} (P Q : A → Type 0) → ((a : A) → P a → Q a) → ((a : A) → Q a → P a) → Listed P → Listed Q
listed_same P Q to from l = record { list = l.list; each = All-weaker P Q to l.list l.each; every = λ a q. l.every a (from a q) }

-- one property or another
pub listed_or : {A : Type 0} (P Q : A → Type 0) → Listed P → Listed Q → Listed (λ a. P a ⊎ Q a)
listed_or P Q l k = record {
  list = l.list ++ k.list;
  each = All-append (λ a. P a ⊎ Q a) l.list k.list (All-weaker P (λ a. P a ⊎ Q a) (λ a p. inl p) l.list l.each) (All-weaker Q (λ a. P a ⊎ Q a) (λ a q. inr q) k.list k.each);
  every = λ a o. ⊎_elim (λ p. among_front a l.list k.list (l.every a p)) (λ q. among_back a l.list k.list (k.every a q)) o;
}

-- a property under a condition that is decided
pub listed_when : {A X : Type 0} (P : A → Type 0) → Dec X → Listed P → Listed (λ a. X × P a)
listed_when {A} {X} P (yes x) l = listed_same P (λ a. X × P a) (λ a p. (x, p)) (λ a p. p.1) l
listed_when {A} {X} P (no h) l = listed_none (λ a. X × P a) (λ a p. h p.0)

-- a property at some number below n
abbrev pub Below : {A : Type 0} → (ℕ → A → Type 0) → ℕ → A → Type 0
Below P n a = (i : ℕ) × (i < n) × P i a

below_more : {A : Type 0} (P : ℕ → A → Type 0) (n : ℕ) (a : A) → Below P n a ⊎ P n a → Below P (suc n) a
below_more P n a (inl p) = (p.0, omega (arith, p.1), p.2)
below_more P n a (inr p) = (n, omega arith, p)

below_cases : {A : Type 0} (P : ℕ → A → Type 0) (n : ℕ) (a : A) → Below P (suc n) a → Below P n a ⊎ P n a
below_cases P n a (i, h, p) = ⊎_elim (λ l. inl (i, l, p)) (λ l. let same : i ≡ n = omega arith in inr (subst (λ x. P x a) same p)) (cases_lt i n)

-- all that have it at some number below n
pub listed_below : {A : Type 0} (P : ℕ → A → Type 0) → ((i : ℕ) → Listed (P i)) → (n : ℕ) → Listed (Below P n)
listed_below P l zero = listed_none (Below P 0) (λ a p. omega (arith, p.1))
listed_below P l (suc n) =
    listed_same (λ a. Below P n a ⊎ P n a) (Below P (suc n)) (below_more P n) (below_cases P n) (listed_or (Below P n) (P n) (listed_below P l n) (l n))

-- what is made of two examples
module _ {A B C : Type 0} (f : A → B → C) (P : A → Type 0) (Q : B → Type 0) where
  abbrev pub Made : C → Type 0
  Made c = (a : A) × (b : B) × P a × Q b × (c ≡ f a b)

  made_each : (xs : List A) (ys : List B) → AllByRecursion P xs → AllByRecursion Q ys → AllByRecursion Made (flat_map (λ a. map (f a) ys) xs)
  made_each [] ys ps qs = tt
  made_each (x ∷ xs) ys ps qs =
      All-append Made (map (f x) ys) (flat_map (λ a. map (f a) ys) xs)
      (All-map Made (f x) ys (All-weaker Q (λ b. Made (f x b)) (λ b q. (x, b, ps.0, q, refl)) ys qs))
      (made_each xs ys ps.1 qs)

  made_every : (a : A) (b : B) (xs : List A) (ys : List B) → Among a xs → Among b ys → Among (f a b) (flat_map (λ x. map (f x) ys) xs)
  made_every a b [] ys l m = absurd l
  made_every a b (x ∷ xs) ys (inl e) m =
      let here = among_front (f x b) (map (f x) ys) (flat_map (λ z. map (f z) ys) xs) (among_map (f x) b ys m) in
      subst (λ z. Among (f z b) (flat_map (λ y. map (f y) ys) (x ∷ xs))) (sym e) here
  made_every a b (x ∷ xs) ys (inr l) m = among_back (f a b) (map (f x) ys) (flat_map (λ z. map (f z) ys) xs) (made_every a b xs ys l m)

  -- all that is made so
  pub listed_made : Listed P → Listed Q → Listed Made
  listed_made l k = record {
    list = flat_map (λ a. map (f a) k.list) l.list;
    each = made_each l.list k.list l.each k.each;
    every = λ c p. subst (λ x. Among x (flat_map (λ a. map (f a) k.list) l.list)) (sym p.4) (made_every p.0 p.1 l.list k.list (l.every p.0 p.2) (k.every p.1 p.3));
  }

-- the least example under an order that is transitive and, on the examples, total
module _ {A : Type 0} (R : A → A → Type 0) (trans : (a b c : A) → R a b → R b c → R a c) (P : A → Type 0) (total : (a b : A) → P a → P b → (a ≡ b) ⊎ (R a b ⊎ R b a)) where
  -- the same or before
  abbrev pub NotAfter : A → A → Type 0
  NotAfter a b = (a ≡ b) ⊎ R a b

  not_after_trans : (a b c : A) → NotAfter a b → NotAfter b c → NotAfter a c
  not_after_trans a b c (inl e) k = subst (λ x. NotAfter x c) (sym e) k
  not_after_trans a b c (inr h) (inl e) = inr (subst (R a) e h)
  not_after_trans a b c (inr h) (inr k) = inr (trans a b c h k)

  -- an example, the same as or before all that have the property Q
  pub record LeastOf (Q : A → Type 0) : Type 0 where
    pub one : A
    pub holds : P one
    pub least : (b : A) → Q b → NotAfter one b

  -- the lower of two
  lower : (a b : A) → P a → P b → (c : A) × P c × NotAfter c a × NotAfter c b
  lower a b p q = ⊎_elim (λ e. (a, p, inl refl, inl e)) (⊎_elim (λ h. (a, p, inl refl, inr h)) (λ h. (b, q, inr h, inl refl))) (total a b p q)

  least_among : (xs : List A) → AllByRecursion P xs → (a : A) → P a → LeastOf (λ b. (b ≡ a) ⊎ Among b xs)
  least_among [] ps a p = record { one = a; holds = p; least = λ b o. ⊎_elim (λ e. inl (sym e)) (λ m. absurd m) o }
  least_among (x ∷ xs) ps a p =
      let (c, q, ca, cx) = lower a x p ps.0 in
      let rest = least_among xs ps.1 c q in
      let first = rest.least c (inl refl) in
      let than : (d b : A) → NotAfter c d → b ≡ d → NotAfter rest.one b = λ d b h e. not_after_trans rest.one c b first (subst (NotAfter c) (sym e) h) in
      record {
        one = rest.one;
        holds = rest.holds;
        least = λ b o. ⊎_elim (than a b ca) (λ m. ⊎_elim (than x b cx) (λ n. rest.least b (inr n)) m) o;
      }

  -- the least of all examples, if there is one
  pub least_listed : Listed P → (a : A) → P a → LeastOf P
  least_listed l a p =
      let found = least_among l.list l.each a p in
      record { one = found.one; holds = found.holds; least = λ b q. found.least b (inr (l.every b q)) }
