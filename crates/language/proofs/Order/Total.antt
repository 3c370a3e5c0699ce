-- Of two readings one comes first, or they are the same.
use Rattle.std.proofs.Common.{◌≡◌, ℕ, suc, ◌⊎◌, List, [], ◌∷◌, length, sym, refl, ap, ◌∙◌, subst, ap₂, inl, inr, ⊎_elim, arith}
use Rattle.std.proofs.lemmas.Bool.{cases_order}
use Rattle.language.specs.Book.{Grammar, Meaning, Key, Numbered, left, size, symbol}
use Rattle.language.specs.Sound.{Sound}
use Rattle.language.specs.Readings.{Children, none, key, part, count, Fits}
use Rattle.language.specs.Order.{beginnings, Earlier, Inner, Before}
use Rattle.language.proofs.Fits.{fits_numbered}
use Rattle.language.proofs.Chart.Proper.{left_apart}

-- no key is the left side of a rule
abbrev pub KeysApart : Grammar → Type 0
KeysApart g = (c s : ℕ) → Key g c → Numbered g s → c ≡ left g s → ⊥

pub sound_apart : (m : Meaning) → Sound m → KeysApart m.grammar
sound_apart m sound c s k n e = left_apart m sound s n (subst (Key m.grammar) e k)

-- two things are the same, or one of them comes first
abbrev pub Ordered : Type 0 → Type 0 → Type 0 → Type 0
Ordered S A B = S ⊎ (A ⊎ B)

-- first by one order, and where that says the same, by another
both_ordered : {S T A B C D : Type 0} (R : Type 0) → (S → R) → Ordered S A B → (S → Ordered T C D) → Ordered (S × T) (A ⊎ (S × C)) (B ⊎ (R × D))
both_ordered R back (inl e) more = ⊎_elim (λ t. inl (e, t)) (λ o. inr (⊎_elim (λ c. inl (inr (e, c))) (λ d. inr (inr (back e, d))) o)) (more e)
both_ordered R back (inr (inl a)) more = inr (inl (inl a))
both_ordered R back (inr (inr b)) more = inr (inr (inl b))

map_ordered : {S T A B : Type 0} → (S → T) → Ordered S A B → Ordered T A B
map_ordered f (inl s) = inl (f s)
map_ordered f (inr o) = inr o

earlier_total : (xs ys : List ℕ) → length xs ≡ length ys → Ordered (xs ≡ ys) (Earlier xs ys) (Earlier ys xs)
earlier_total [] [] h = inl refl
earlier_total [] (y ∷ ys) h = absurd (omega (arith, h))
earlier_total (x ∷ xs) [] h = absurd (omega (arith, h))
earlier_total (x ∷ xs) (y ∷ ys) h =
    map_ordered (λ e. ap₂ ◌∷◌ e.0 e.1) (both_ordered (y ≡ x) sym (cases_order x y) (λ e. earlier_total xs ys (omega (arith, h))))

length_beginnings : (ks : Children) → length (beginnings ks) ≡ count ks
length_beginnings none = refl
length_beginnings (key ks c) = ap suc (length_beginnings ks)
length_beginnings (part ks s cs) = ap suc (length_beginnings ks)

-- readings by two rules, where the children of one rule are told apart
top_total : (r q : ℕ) (ks ls : Children) → (r ≡ q → count ks ≡ count ls) → (r ≡ q → Ordered (ks ≡ ls) (Inner ks ls) (Inner ls ks))
    → Ordered ((r ≡ q) × (ks ≡ ls)) (Before r ks q ls) (Before q ls r ks)
top_total r q ks ls many below = both_ordered (q ≡ r) sym (cases_order r q) (λ e.
    let long = length_beginnings ks ∙ (many e ∙ sym (length_beginnings ls)) in
    map_ordered (λ t. t.1) (both_ordered (beginnings ls ≡ beginnings ks) sym (earlier_total (beginnings ks) (beginnings ls) long) (λ b. below e)))

-- children whose last is a part
parts_total : (ks ls : Children) (s t : ℕ) (cs ds : Children)
    → Ordered ((s ≡ t) × (cs ≡ ds)) (Before s cs t ds) (Before t ds s cs)
    → Ordered (ks ≡ ls) (Inner ks ls) (Inner ls ks)
    → Ordered (part ks s cs ≡ part ls t ds) (Inner (part ks s cs) (part ls t ds)) (Inner (part ls t ds) (part ks s cs))
parts_total ks ls s t cs ds (inl e) (inl k) = inl (cc (e.0, e.1))
parts_total ks ls s t cs ds (inl e) (inr (inl a)) = inr (inl (inr (e.0, e.1, a)))
parts_total ks ls s t cs ds (inl e) (inr (inr b)) = inr (inr (inr (sym e.0, sym e.1, b)))
parts_total ks ls s t cs ds (inr (inl a)) k = inr (inl (inl a))
parts_total ks ls s t cs ds (inr (inr b)) k = inr (inr (inl b))

module _ (g : Grammar) where
  -- all the children of one rule are as many as all the children of the same rule
  pub whole_count : (r q : ℕ) (ks ls : Children) → count ks ≡ size g r → count ls ≡ size g q → r ≡ q → count ks ≡ count ls
  whole_count r q ks ls a b e = a ∙ (ap (size g) e ∙ sym b)

  -- one place of a rule holds one symbol
  pub same_symbol : (r a b c d : ℕ) → suc a ≡ suc b → symbol g r a ≡ c → symbol g r b ≡ d → c ≡ d
  same_symbol r a b c d e p q = let same : a ≡ b = omega arith in sym p ∙ (ap (symbol g r) same ∙ q)

module _ (g : Grammar) (apart : KeysApart g) where
  -- one place of a rule does not hold a key and a part
  pub not_both : (r a b c s : ℕ) (cs : Children) → suc a ≡ suc b → symbol g r a ≡ c → Key g c → symbol g r b ≡ left g s → Fits g s cs → ⊥
  not_both r a b c s cs e p k q f = apart c s k (fits_numbered g s cs f) (same_symbol g r a b c (left g s) e p q)

  children_total : (r : ℕ) (ks ls : Children) → Fits g r ks → Fits g r ls → count ks ≡ count ls → Ordered (ks ≡ ls) (Inner ks ls) (Inner ls ks)
  children_total r none none f h e = inl refl
  children_total r none (key ls d) f h e = absurd (omega (arith, e))
  children_total r none (part ls t ds) f h e = absurd (omega (arith, e))
  children_total r (key ks c) none f h e = absurd (omega (arith, e))
  children_total r (key ks c) (key ls d) f h e =
      map_ordered (λ same. ap₂ key same (same_symbol g r (count ks) (count ls) c d e f.2 h.2)) (children_total r ks ls f.0 h.0 (omega (arith, e)))
  children_total r (key ks c) (part ls t ds) f h e =
      absurd (not_both r (count ks) (count ls) c t ds e f.2 f.3 h.2 h.3)
  children_total r (part ks s cs) none f h e = absurd (omega (arith, e))
  children_total r (part ks s cs) (key ls d) f h e =
      absurd (not_both r (count ls) (count ks) d s cs (sym e) h.2 h.3 f.2 f.3)
  children_total r (part ks s cs) (part ls t ds) f h e =
      parts_total ks ls s t cs ds
      (top_total s t cs ds (whole_count g s t cs ds f.4 h.4) (λ same. children_total s cs ds f.3 (rw same h.3) (whole_count g s t cs ds f.4 h.4 same)))
      (children_total r ks ls f.0 h.0 (omega (arith, e)))

  -- of two whole readings one comes first, or they are the same
  pub before_total : (r q : ℕ) (ks ls : Children) → Fits g r ks → Fits g q ls → count ks ≡ size g r → count ls ≡ size g q
      → Ordered ((r ≡ q) × (ks ≡ ls)) (Before r ks q ls) (Before q ls r ks)
  before_total r q ks ls f h a b = top_total r q ks ls (whole_count g r q ks ls a b) (λ same. children_total r ks ls f (rw same h) (whole_count g r q ks ls a b same))
