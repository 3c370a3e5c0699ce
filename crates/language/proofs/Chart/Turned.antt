-- Symbols that can be turned into keys alone are keys or have a reading, and the other way round.
use Rattle.std.proofs.Common.{◌≡◌, ℕ, zero, suc, ◌+◌, ◌<◌, ◌⊎◌, List, [], ◌∷◌, ◌++◌, length, sym, refl, ap, ◌∙◌, subst, inl, inr, ⊎_elim, append_assoc, append-nil, arith}
use Rattle.std.proofs.lemmas.Bool.{cases_lt}
use Rattle.language.specs.Book.{Grammar, Key, Numbered, left, size, symbol}
use Rattle.language.specs.Closure.{Productive}
use Rattle.language.specs.Theorem.{TurnedTheorem}
use Rattle.language.proofs.Fits.{fits_numbered}
use Rattle.language.specs.Readings.{Children, none, key, part, yield, count, Fits, Reading, Item, Uses, reached}

-- what can stand under a symbol: the key that it is, or a reading of the part that it is
abbrev pub Tree : Grammar → ℕ → Type 0
Tree g X = Key g X ⊎ Reading g X

-- the keys at the leaves of a tree
abbrev pub leaves : (g : Grammar) (X : ℕ) → Tree g X → List ℕ
leaves g X (inl h) = X ∷ []
leaves g X (inr t) = yield t.children

-- the items that a tree uses that starts after i words
abbrev pub Below : (g : Grammar) (X i : ℕ) → Tree g X → Item → Type 0
Below g X i (inl h) u = ⊥
Below g X i (inr t) u = Uses t.by i t.children u

-- one more child
abbrev pub push : (g : Grammar) (X : ℕ) → Children → Tree g X → Children
push g X ks (inl h) = key ks X
push g X ks (inr t) = part ks t.by t.children

-- the item of all children is used, if there is any child
pub uses_last : (r i : ℕ) (ks : Children) → 0 < count ks → Uses r i ks (reached r i ks)
uses_last r i none h = absurd (omega arith)
uses_last r i (key ks c) h = inr refl
uses_last r i (part ks s cs) h = inr (inr refl)

module _ (g : Grammar) (X : ℕ) where
  -- one more child stands under the next symbol, is counted, and its keys come last
  pub push_fits : (r : ℕ) (ks : Children) (t : Tree g X) → Fits g r ks → count ks < size g r → symbol g r (count ks) ≡ X → Fits g r (push g X ks t)
  push_fits r ks (inl h) f l e = (f, l, e, h)
  push_fits r ks (inr t) f l e = (f, l, e ∙ sym t.heads, t.fits, t.whole)

  pub push_count : (ks : Children) (t : Tree g X) → count (push g X ks t) ≡ suc (count ks)
  push_count ks (inl h) = refl
  push_count ks (inr t) = refl

  pub push_yield : (ks : Children) (t : Tree g X) → yield (push g X ks t) ≡ yield ks ++ leaves g X t
  push_yield ks (inl h) = refl
  push_yield ks (inr t) = refl

  -- the items used before are used still, and so are those of the new child
  push_keeps : (r i : ℕ) (ks : Children) (t : Tree g X) (u : Item) → Uses r i ks u → Uses r i (push g X ks t) u
  push_keeps r i ks (inl h) u w = inl w
  push_keeps r i ks (inr t) u w = inl w

  pub push_below : (r i : ℕ) (ks : Children) (t : Tree g X) (u : Item) → Below g X (i + length (yield ks)) t u → Uses r i (push g X ks t) u
  push_below r i ks (inl h) u w = absurd w
  push_below r i ks (inr t) u w = inr (inl w)

-- the children ks of rule r, with more children for the symbols that were left
pub record Filled (g : Grammar) (r : ℕ) (ks : Children) : Type 0 where
  pub children : Children
  pub fits : Fits g r children
  pub whole : count children ≡ size g r
  pub rest : List ℕ
  pub yields : yield children ≡ yield ks ++ rest
  pub uses : (i : ℕ) (u : Item) → Uses r i ks u → Uses r i children u

-- children filled up are a reading
abbrev pub filled_reading : (g : Grammar) (r : ℕ) (ks : Children) → Filled g r ks → Reading g (left g r)
filled_reading g r ks all = record { by = r; children = all.children; heads = refl; fits = all.fits; whole = all.whole }

-- more children for one child more are more children
filled_push : (g : Grammar) (r X : ℕ) (ks : Children) (t : Tree g X) → Filled g r (push g X ks t) → Filled g r ks
filled_push g r X ks t more = record {
  children = more.children;
  fits = more.fits;
  whole = more.whole;
  rest = leaves g X t ++ more.rest;
  yields = more.yields ∙ (ap (λ p. p ++ more.rest) (push_yield g X ks t) ∙ append_assoc (yield ks) (leaves g X t) more.rest);
  uses = λ i u w. more.uses i u (push_keeps g X r i ks t u w);
}

-- a rule of whose symbols each has a tree
module _ (g : Grammar) (r : ℕ) (trees : (d : ℕ) → d < size g r → Tree g (symbol g r d)) where
  -- children can be filled up
  pub fill : (n : ℕ) (ks : Children) → Fits g r ks → count ks + n ≡ size g r → Filled g r ks
  fill zero ks f e = record {
    children = ks;
    fits = f;
    whole = omega arith;
    rest = [];
    yields = sym (append-nil (yield ks));
    uses = λ i u w. w;
  }
  fill (suc n) ks f e =
      let X = symbol g r (count ks) in
      let l : count ks < size g r = omega arith in
      let t = trees (count ks) l in
      filled_push g r X ks t (fill n (push g X ks t) (push_fits g X r ks t f l refl) (omega (arith, push_count g X ks t)))

  -- so its left side has a reading
  left_reading : Numbered g r → Reading g (left g r)
  left_reading n = filled_reading g r none (fill (size g r) none n (omega arith))

module _ (g : Grammar) where
  -- a symbol that can be turned into keys alone is a key or has a reading
  pub turned : (X : ℕ) → Productive g X → Key g X ⊎ Reading g X
  turned X (Productive.key c h) = inl h
  turned X (Productive.part r n kids) = inr (left_reading g r (λ d h. turned (symbol g r d) (kids d h)) n)

  last_productive : (r X d : ℕ) (ks : Children) → d ≡ count ks → symbol g r (count ks) ≡ X → Productive g X → Productive g (symbol g r d)
  last_productive r X d ks e same = subst (Productive g) (sym (ap (symbol g r) e ∙ same))

  -- a symbol with a child can be turned into keys alone
  children_productive : (r : ℕ) (ks : Children) → Fits g r ks → (d : ℕ) → d < count ks → Productive g (symbol g r d)
  children_productive r none f d h = absurd (omega arith)
  children_productive r (key ks c) f d h =
      ⊎_elim (children_productive r ks f.0 d) (λ l. last_productive r c d ks (omega arith) f.2 (Productive.key c f.3)) (cases_lt d (count ks))
  children_productive r (part ks s cs) f d h =
      let below = children_productive s cs f.3 in
      let turns = Productive.part s (fits_numbered g s cs f.3) (λ b l. below b (omega (arith, f.4))) in
      ⊎_elim (children_productive r ks f.0 d) (λ l. last_productive r (left g s) d ks (omega arith) f.2 turns) (cases_lt d (count ks))

  -- a part with a reading can be turned into keys alone
  reading_productive : (X : ℕ) → Reading g X → Productive g X
  reading_productive X t =
      let kids = children_productive t.by t.children t.fits in
      subst (Productive g) t.heads (Productive.part t.by (fits_numbered g t.by t.children t.fits) (λ d l. kids d (omega (arith, t.whole))))

pub turned_theorem : TurnedTheorem
turned_theorem g X = (turned g X, ⊎_elim (Productive.key X) (reading_productive g X))
