-- The order of readings is transitive and irreflexive.
use Rattle.std.proofs.Common.{◌≡◌, ℕ, ◌⊎◌, List, [], ◌∷◌, sym, ◌∙◌, subst₂, inl, inr, arith}
use Rattle.language.specs.Readings.{Children, none, key, part}
use Rattle.language.specs.Order.{beginnings, Earlier, Top, Inner, Before}

earlier_trans : (xs ys zs : List ℕ) → Earlier xs ys → Earlier ys zs → Earlier xs zs
earlier_trans [] ys zs a b = absurd a
earlier_trans (x ∷ xs) [] zs a b = absurd a
earlier_trans (x ∷ xs) (y ∷ ys) [] a b = absurd b
earlier_trans (x ∷ xs) (y ∷ ys) (z ∷ zs) (inl a) (inl b) = inl (omega arith)
earlier_trans (x ∷ xs) (y ∷ ys) (z ∷ zs) (inl a) (inr b) = inl (omega (arith, b.0))
earlier_trans (x ∷ xs) (y ∷ ys) (z ∷ zs) (inr a) (inl b) = inl (omega (arith, a.0))
earlier_trans (x ∷ xs) (y ∷ ys) (z ∷ zs) (inr a) (inr b) = inr (a.0 ∙ b.0, earlier_trans xs ys zs a.1 b.1)

-- no beginnings are earlier than themselves
pub earlier_irreflexive : (xs : List ℕ) → Earlier xs xs → ⊥
earlier_irreflexive [] a = a
earlier_irreflexive (x ∷ xs) (inl a) = omega arith
earlier_irreflexive (x ∷ xs) (inr a) = earlier_irreflexive xs a.1

-- the beginnings, and what the children say where those are the same
module _ (xs ys zs : List ℕ) (I J K : Type 0) (below : I → J → K) where
  begun_trans : Earlier xs ys ⊎ ((xs ≡ ys) × I) → Earlier ys zs ⊎ ((ys ≡ zs) × J) → Earlier xs zs ⊎ ((xs ≡ zs) × K)
  begun_trans (inl a) (inl b) = inl (earlier_trans xs ys zs a b)
  begun_trans (inl a) (inr b) = inl (rw b.0 at a)
  begun_trans (inr a) (inl b) = inl (rw a.0 b)
  begun_trans (inr a) (inr b) = inr (a.0 ∙ b.0, below a.1 b.1)

  top_trans : (r q p : ℕ) → Top r xs q ys I → Top q ys p zs J → Top r xs p zs K
  top_trans r q p (inl a) (inl b) = inl (omega arith)
  top_trans r q p (inl a) (inr b) = inl (omega (arith, b.0))
  top_trans r q p (inr a) (inl b) = inl (omega (arith, a.0))
  top_trans r q p (inr a) (inr b) = inr (a.0 ∙ b.0, begun_trans a.1 b.1)

top_irreflexive : (r : ℕ) (xs : List ℕ) (I : Type 0) → (I → ⊥) → Top r xs r xs I → ⊥
top_irreflexive r xs I never (inl a) = omega arith
top_irreflexive r xs I never (inr a) = begun a.1
  where
    begun : Earlier xs xs ⊎ ((xs ≡ xs) × I) → ⊥
    begun (inl b) = earlier_irreflexive xs b
    begun (inr b) = never b.1

inner_trans : (ks ls ms : Children) → Inner ks ls → Inner ls ms → Inner ks ms
inner_trans none ls ms a b = absurd a
inner_trans (key ks c) none ms a b = absurd a
inner_trans (key ks c) (key ls d) none a b = absurd b
inner_trans (key ks c) (key ls d) (key ms e) a b = inner_trans ks ls ms a b
inner_trans (key ks c) (key ls d) (part ms u es) a b = absurd b
inner_trans (key ks c) (part ls t ds) ms a b = absurd a
inner_trans (part ks s cs) none ms a b = absurd a
inner_trans (part ks s cs) (key ls d) ms a b = absurd a
inner_trans (part ks s cs) (part ls t ds) none a b = absurd b
inner_trans (part ks s cs) (part ls t ds) (key ms e) a b = absurd b
inner_trans (part ks s cs) (part ls t ds) (part ms u es) (inl a) (inl b) =
    inl (top_trans (beginnings cs) (beginnings ds) (beginnings es) (Inner cs ds) (Inner ds es) (Inner cs es) (inner_trans cs ds es) s t u a b)
inner_trans (part ks s cs) (part ls t ds) (part ms u es) (inl a) (inr b) = inl (subst₂ (λ x y. Before s cs x y) b.0 b.1 a)
inner_trans (part ks s cs) (part ls t ds) (part ms u es) (inr a) (inl b) = inl (subst₂ (λ x y. Before x y u es) (sym a.0) (sym a.1) b)
inner_trans (part ks s cs) (part ls t ds) (part ms u es) (inr a) (inr b) = inr (a.0 ∙ b.0, a.1 ∙ b.1, inner_trans ks ls ms a.2 b.2)

inner_irreflexive : (ks : Children) → Inner ks ks → ⊥
inner_irreflexive none a = a
inner_irreflexive (key ks c) a = inner_irreflexive ks a
inner_irreflexive (part ks s cs) (inl a) = top_irreflexive s (beginnings cs) (Inner cs cs) (inner_irreflexive cs) a
inner_irreflexive (part ks s cs) (inr a) = inner_irreflexive ks a.2

-- what comes before something that comes before a third comes before the third
pub before_trans : (r q p : ℕ) (ks ls ms : Children) → Before r ks q ls → Before q ls p ms → Before r ks p ms
before_trans r q p ks ls ms =
    top_trans (beginnings ks) (beginnings ls) (beginnings ms) (Inner ks ls) (Inner ls ms) (Inner ks ms) (inner_trans ks ls ms) r q p

-- nothing comes before itself
pub before_irreflexive : (r : ℕ) (ks : Children) → Before r ks r ks → ⊥
before_irreflexive r ks = top_irreflexive r (beginnings ks) (Inner ks ks) (inner_irreflexive ks)
