-- The first reading is chosen part by part: a choice that another reading does better would make that reading come first.
use Rattle.std.proofs.Common.{◌≡◌, ℕ, suc, ◌<◌, ◌≤◌, ◌⊎◌, List, [], ◌∷◌, ◌++◌, length, take, drop, sym, refl, ap, ◌∙◌, subst, inl, inr, arith, length-take}
use Rattle.std.proofs.lemmas.List.{take-append-drop}
use Rattle.language.specs.Book.{Grammar, left, size, symbol}
use Rattle.language.specs.Words.{Word, Is}
use Rattle.language.specs.Readings.{Children, none, key, part, yield, count, Fits, Reads}
use Rattle.language.specs.Order.{beginnings, Inner, Least}
use Rattle.language.specs.Choice.{Lowest, Earliest, Chosen, ChoiceTheorem}
use Rattle.language.proofs.Words.{is_append, is_front, is_back}
use Rattle.language.proofs.Chart.Done.{covers_tree}
use Rattle.language.proofs.Chart.Turned.{Tree, push, push_fits, push_count, push_yield}
use Rattle.language.proofs.Order.Choice.{Ahead, Within, Leads, chosen_least}
use Rattle.language.proofs.Order.Strict.{earlier_irreflexive, before_irreflexive}

-- what is ahead has no later first beginning
ahead_first : {S I : Type 0} (b j : ℕ) (xs ys : List ℕ) → Ahead (b ∷ xs) (j ∷ ys) S I → b ≤ j
ahead_first b j xs ys (inl (inl l)) = omega arith
ahead_first b j xs ys (inl (inr e)) = omega (arith, e.0)
ahead_first b j xs ys (inr e) = let same : b ≡ j = cc (e.0) in omega arith

-- behind the same first beginning
ahead_rest : {S I T J : Type 0} (b j : ℕ) (xs ys : List ℕ) → b ≡ j → (S ⊎ I → T ⊎ J) → Ahead (b ∷ xs) (j ∷ ys) S I → Ahead xs ys T J
ahead_rest b j xs ys same last (inl (inl l)) = absurd (omega arith)
ahead_rest b j xs ys same last (inl (inr e)) = inl e.1
ahead_rest b j xs ys same last (inr e) = let tails : xs ≡ ys = cc (e.0) in inr (tails, last e.1)

-- with the same beginnings
ahead_same : {S I : Type 0} (xs : List ℕ) → Ahead xs xs S I → S ⊎ I
ahead_same xs (inl a) = absurd (earlier_irreflexive xs a)
ahead_same xs (inr e) = e.1

-- what a reading that leads says of the rules, and of the children under one rule
leads_rule : (r q : ℕ) (ks ls : Children) → Leads r ks q ls → r ≤ q
leads_rule r q ks ls (inl e) = omega (arith, e.0)
leads_rule r q ks ls (inr (inl l)) = omega arith
leads_rule r q ks ls (inr (inr e)) = omega (arith, e.0)

leads_within : (r : ℕ) (ks ls : Children) → Leads r ks r ls → Within ks ls
leads_within r ks ls (inl e) = inr (ap beginnings e.1, inl e.1)
leads_within r ks ls (inr (inl l)) = absurd (omega arith)
leads_within r ks ls (inr (inr (e, inl a))) = inl a
leads_within r ks ls (inr (inr (e, inr i))) = inr (i.0, inr i.1)

-- children before the same last child
before_key : (ks ls : Children) (c : ℕ) → (key ks c ≡ key ls c) ⊎ Inner ks ls → (ks ≡ ls) ⊎ Inner ks ls
before_key ks ls c (inl e) = inl (cc)
before_key ks ls c (inr i) = inr i

before_part : (ks ls : Children) (s : ℕ) (cs : Children) → (part ks s cs ≡ part ls s cs) ⊎ Inner (part ks s cs) (part ls s cs) → (ks ≡ ls) ⊎ Inner ks ls
before_part ks ls s cs (inl e) = inl (cc)
before_part ks ls s cs (inr (inl b)) = absurd (before_irreflexive s cs b)
before_part ks ls s cs (inr (inr i)) = inr i.2

-- a last child behind the same children
last_leads : (ks : Children) (s t : ℕ) (cs ds : Children) → (part ks s cs ≡ part ks t ds) ⊎ Inner (part ks s cs) (part ks t ds) → Leads s cs t ds
last_leads ks s t cs ds (inl e) = inl (cc, cc)
last_leads ks s t cs ds (inr (inl b)) = inr b
last_leads ks s t cs ds (inr (inr i)) = inl (i.0, i.1)

-- where a child more begins
push_beginnings : (g : Grammar) (X : ℕ) (ks : Children) (t : Tree g X) → beginnings (push g X ks t) ≡ length (yield ks) ∷ beginnings ks
push_beginnings g X ks (inl h) = refl
push_beginnings g X ks (inr t) = refl

-- keys that are the words, cut after n words
is_cut : (n : ℕ) (p q : List ℕ) (ws : List Word) → Is p (take n ws) → Is q (drop n ws) → Is (p ++ q) ws
is_cut n p q ws h k = subst (Is (p ++ q)) (take-append-drop n ws) (is_append p (take n ws) q (drop n ws) h k)

module _ (g : Grammar) where
  -- no other children of the rule that read the words come first
  abbrev LeastChildren : ℕ → Children → List Word → Type 0
  LeastChildren r ks ws = (ls : Children) → Fits g r ls → count ls ≡ count ks → Is (yield ls) ws → Within ks ls

  -- no other reading of the words by the same part comes first
  abbrev LeastReading : ℕ → Children → List Word → Type 0
  LeastReading r ks ws = (q : ℕ) (ls : Children) → left g q ≡ left g r → Fits g q ls → count ls ≡ size g q → Is (yield ls) ws → Leads r ks q ls

  reading_lowest : (r : ℕ) (ks : Children) (ws : List Word) → LeastReading r ks ws → Lowest g r ws
  reading_lowest r ks ws least q e done = leads_rule r q ks done.children (least q done.children e done.fits done.many done.is)

  reading_children : (r : ℕ) (ks : Children) (ws : List Word) → count ks ≡ size g r → LeastReading r ks ws → LeastChildren r ks ws
  reading_children r ks ws whole least ls f e is = leads_within r ks ls (least r ls refl f (e ∙ whole) is)

  -- children ks and one more, which begins after b words: with an earlier beginning others would come first
  last_earliest : (r b : ℕ) (ks all : Children) (ws : List Word) → count ks < size g r → count all ≡ suc (count ks) → beginnings all ≡ b ∷ beginnings ks
      → LeastChildren r all ws → Earliest g r (count ks) b ws
  last_earliest r b ks all ws l many at least j done covers =
      let Y = symbol g r (count ks) in
      let t = covers_tree g Y (drop j ws) covers in
      let ls = push g Y done.children t.tree in
      let fits = push_fits g Y r done.children t.tree done.fits (omega (arith, done.many)) (ap (symbol g r) done.many) in
      let is = subst (λ p. Is p ws) (sym (push_yield g Y done.children t.tree)) (is_cut j (yield done.children) _ ws done.is t.is) in
      let within = least ls fits (push_count g Y done.children t.tree ∙ (ap suc done.many ∙ sym many)) is in
      let first = ahead_first b (length (yield done.children)) (beginnings ks) (beginnings done.children) (rw (at, push_beginnings g Y done.children t.tree) at within) in
      omega (arith, first, done.is.long, length-take j ws)

  -- children before a key, over the words before it
  key_children : (r : ℕ) (ks : Children) (c : ℕ) (ws : List Word) → Fits g r (key ks c) → Is (yield (key ks c)) ws → LeastChildren r (key ks c) ws
      → LeastChildren r ks (take (length (yield ks)) ws)
  key_children r ks c ws f is least ls h e k =
      let b = length (yield ks) in
      let same : b ≡ length (yield ls) = (is_front (yield ks) (c ∷ []) ws is).long ∙ sym k.long in
      let fits : Fits g r (key ls c) = (h, omega (arith, e, f.1), ap (symbol g r) e ∙ f.2, f.3) in
      let whole = is_cut b (yield ls) (c ∷ []) ws k (is_back (yield ks) (c ∷ []) ws is) in
      ahead_rest b (length (yield ls)) (beginnings ks) (beginnings ls) same (before_key ks ls c) (least (key ls c) fits (ap suc e) whole)

  -- children before a part
  part_children : (r : ℕ) (ks : Children) (s : ℕ) (cs : Children) (ws : List Word) → Fits g r (part ks s cs) → Is (yield (part ks s cs)) ws
      → LeastChildren r (part ks s cs) ws → LeastChildren r ks (take (length (yield ks)) ws)
  part_children r ks s cs ws f is least ls h e k =
      let b = length (yield ks) in
      let same : b ≡ length (yield ls) = (is_front (yield ks) (yield cs) ws is).long ∙ sym k.long in
      let fits : Fits g r (part ls s cs) = (h, omega (arith, e, f.1), ap (symbol g r) e ∙ f.2, f.3, f.4) in
      let whole = is_cut b (yield ls) (yield cs) ws k (is_back (yield ks) (yield cs) ws is) in
      ahead_rest b (length (yield ls)) (beginnings ks) (beginnings ls) same (before_part ks ls s cs) (least (part ls s cs) fits (ap suc e) whole)

  -- the part itself, over the words behind those children
  part_reading : (r : ℕ) (ks : Children) (s : ℕ) (cs : Children) (ws : List Word) → Fits g r (part ks s cs) → Is (yield (part ks s cs)) ws
      → LeastChildren r (part ks s cs) ws → LeastReading s cs (drop (length (yield ks)) ws)
  part_reading r ks s cs ws f is least t ds e h n k =
      let b = length (yield ks) in
      let fits : Fits g r (part ks t ds) = (f.0, f.1, f.2 ∙ sym e, h, n) in
      let whole = is_cut b (yield ks) (yield ds) ws (is_front (yield ks) (yield cs) ws is) k in
      last_leads ks s t cs ds (ahead_same (b ∷ beginnings ks) (least (part ks t ds) fits refl whole))

  children_chosen : (r : ℕ) (ks : Children) (ws : List Word) → Fits g r ks → Is (yield ks) ws → LeastChildren r ks ws → Chosen g r ks ws
  children_chosen r none ws f is least = tt
  children_chosen r (key ks c) ws f is least = (
    last_earliest r (length (yield ks)) ks (key ks c) ws f.1 refl refl least,
    children_chosen r ks (take (length (yield ks)) ws) f.0 (is_front (yield ks) (c ∷ []) ws is) (key_children r ks c ws f is least),
  )
  children_chosen r (part ks s cs) ws f is least =
      let vs = drop (length (yield ks)) ws in
      let below = part_reading r ks s cs ws f is least in (
        last_earliest r (length (yield ks)) ks (part ks s cs) ws f.1 refl refl least,
        children_chosen r ks (take (length (yield ks)) ws) f.0 (is_front (yield ks) (yield cs) ws is) (part_children r ks s cs ws f is least),
        reading_lowest s cs vs below,
        children_chosen s cs vs f.3 (is_back (yield ks) (yield cs) ws is) (reading_children s cs vs f.4 below),
      )

  -- the first reading is chosen part by part
  pub least_chosen : (X : ℕ) (ws : List Word) (t : Reads g X ws) → Least t → Lowest g t.reading.by ws × Chosen g t.reading.by t.reading.children ws
  least_chosen X ws t least =
      let r = t.reading.by in
      let ks = t.reading.children in
      let first : LeastReading r ks ws = λ q ls e f n is.
      least (record { reading = record { by = q; children = ls; heads = e ∙ t.reading.heads; fits = f; whole = n }; is = is }) in
      (reading_lowest r ks ws first, children_chosen r ks ws t.reading.fits t.is (reading_children r ks ws t.reading.whole first))

-- both ways
pub choice_theorem : ChoiceTheorem
choice_theorem m sound X ws t = (least_chosen m.grammar X ws t, λ c. chosen_least m sound X ws t c.0 c.1)
