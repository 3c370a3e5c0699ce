-- What may start after word k stands in a programme that begins with the first k words.
use Rattle.std.proofs.Common.{◌≡◌, ℕ, ◌+◌, ◌-◌, ◌<◌, ◌≤◌, List, [], ◌∷◌, ◌++◌, length, take, sym, refl, ◌∙◌, subst, inl, inr, append_assoc, append-nil, arith}
use lib.Dec.{eqb_refl}
use lib.Seq.{take-length}
use Rattle.language.specs.Book.{Grammar, Key, left, size, symbol}
use Rattle.language.specs.Words.{Word, Begins, Is, only, between}
use Rattle.language.specs.Readings.{Children, yield, count, Fits, Reading, Item, item, Uses, Begun, Used, Done}
use Rattle.language.specs.Chart.{Corner, self, down, Wanted, first, next, Held, begin, advance}
use Rattle.language.proofs.Words.{begins_append, is_begins}
use Rattle.language.proofs.Fits.{fits_numbered, fits_count}
use Rattle.language.proofs.Chart.Between.{length_between, between_none, is_between}
use Rattle.language.proofs.Columns.Bounds.{held_bounds}
use Rattle.language.proofs.Chart.Done.{held_done, done_none}
use Rattle.language.proofs.Chart.Proper.{Proper}
use Rattle.language.proofs.Chart.Turned.{Tree, leaves, Below, push, push_fits, push_yield, push_below, uses_last, Filled, filled_reading, fill}

-- a tree of the symbol X stands in a reading of the start part: before it the first k words, and its items are used
record Placed (g : Grammar) (ws : List Word) (k X : ℕ) (t : Tree g X) : Type 0 where
  pub reading : Reading g g.start
  pub before : List ℕ
  pub after : List ℕ
  pub yields : yield reading.children ≡ before ++ (leaves g X t ++ after)
  pub is : Is before (take k ws)
  pub uses : (u : Item) → Below g X k t u → Uses reading.by 0 reading.children u

-- every tree of the symbol X stands so
abbrev Context : Grammar → List Word → ℕ → ℕ → Type 0
Context g ws k X = (t : Tree g X) → Placed g ws k X t

module _ (g : Grammar) (proper : Proper g) (ws : List Word) where
  -- children filled up to a reading
  filled : (r : ℕ) (ks : Children) → Fits g r ks → Filled g r ks
  filled r ks f = fill g r (proper.trees r (fits_numbered g r ks f)) (size g r - count ks) ks f (omega (arith, fits_count g r ks f))

  -- the start part
  start_context : Context g ws 0 g.start
  start_context (inl h) = absurd (proper.start_apart h)
  start_context (inr t) = record {
    reading = t;
    before = [];
    after = [];
    yields = sym (append-nil (yield t.children));
    is = record { begins = tt; long = refl };
    uses = λ u w. w;
  }

  -- a rule that stands after i words, with children that are the words up to k: so the tree behind them stands after k words
  placed_next : (r i k X : ℕ) (ks : Children) (t : Tree g X) (all : Filled g r (push g X ks t)) → Placed g ws i (left g r) (inr (filled_reading g r (push g X ks t) all))
      → Is (yield ks) (between i k ws) → i + length (yield ks) ≡ k → Placed g ws k X t
  placed_next r i k X ks t all p is e = record {
    reading = p.reading;
    before = p.before ++ yield ks;
    after = all.rest ++ p.after;
    yields = p.yields ∙ simp (all.yields, push_yield, append_assoc);
    is = is_between ws p.before (yield ks) i k (omega arith) p.is is;
    uses = λ u w. p.uses u (all.uses i u (push_below g X r i ks t u (subst (λ n. Below g X n t u) (sym e) w)));
  }

  descend : (r i k : ℕ) (ks : Children) → Context g ws i (left g r) → Fits g r ks → count ks < size g r → Is (yield ks) (between i k ws)
      → i + length (yield ks) ≡ k → Context g ws k (symbol g r (count ks))
  descend r i k ks con f l is e t =
      let X = symbol g r (count ks) in
      let all = filled r (push g X ks t) (push_fits g X r ks t f l refl) in
      placed_next r i k X ks t all (con (inr (filled_reading g r (push g X ks t) all))) is e

  -- a rule that stands after i words, with d symbols done up to word k: its next symbol stands after k words
  next_context : (r d i k : ℕ) → Context g ws i (left g r) → Done g r d (between i k ws) → d < size g r → i ≤ k → k ≤ length ws → Context g ws k (symbol g r d)
  next_context r d i k con h l f ends = subst (λ n. Context g ws k (symbol g r n)) h.many
      (descend r i k h.children con h.fits (omega (arith, h.many)) h.is (omega (arith, h.is.long, length_between ws i k f ends)))

  -- the left corners of a symbol stand where it stands
  corner_context : (k X Y : ℕ) → k ≤ length ws → Context g ws k X → Corner g X Y → Context g ws k Y
  corner_context k X _ l con self = con
  corner_context k X _ l con (down r n c) =
      next_context r 0 k k (corner_context k X (left g r) l con c) (subst (Done g r 0) (sym (between_none ws k)) (done_none g r n)) (proper.filled r n) (omega arith) l

  -- what may start after word k stands there, and so does the left side of an item's rule where the item starts
  mutual
    wanted_context : (k Y : ℕ) → Wanted g ws k Y → Context g ws k Y
    wanted_context _ _ (first Y c) = corner_context 0 g.start Y (omega arith) start_context c
    wanted_context _ _ (next r d i k Y h l c) =
        let b = held_bounds g ws proper.filled r d i k h in
        corner_context k (symbol g r d) Y b.ends (next_context r d i k (held_context r d i k h) (held_done g proper ws r d i k h) l (omega (arith, b.forward)) b.ends) c

    held_context : (r d i k : ℕ) → Held g ws r d i k → Context g ws i (left g r)
    held_context _ _ _ _ (begin r i k n w s) = wanted_context i (left g r) w
    held_context _ _ _ _ (advance r d i j k h l s) = held_context r d i j h

  placed_used : (r i k : ℕ) (ks : Children) (all : Filled g r ks) → Placed g ws i (left g r) (inr (filled_reading g r ks all)) → 0 < count ks
      → Is (yield ks) (between i k ws) → i + length (yield ks) ≡ k → Used g (take k ws) (item r (count ks) i k)
  placed_used r i k ks all p l is e = record {
    reading = p.reading;
    begins =
        let q = all.rest ++ p.after in
        let same : yield p.reading.children ≡ (p.before ++ yield ks) ++ q = p.yields ∙ simp (all.yields, append_assoc) in
        subst (λ y. Begins y (take k ws)) (sym same) (is_begins (p.before ++ yield ks) q (take k ws) (is_between ws p.before (yield ks) i k (omega arith) p.is is));
    uses = p.uses (item r (count ks) i k) (all.uses i (item r (count ks) i k) (subst (λ n. Uses r i ks (item r (count ks) i n)) e (uses_last r i ks l)));
  }

  -- a held item is used by a programme that begins with the words up to its end
  pub held_used : (r d i k : ℕ) → Held g ws r d i k → Used g (take k ws) (item r d i k)
  held_used r d i k h =
      let b = held_bounds g ws proper.filled r d i k h in
      let done = held_done g proper ws r d i k h in
      let ks = done.children in
      let all = filled r ks done.fits in
      let p = held_context r d i k h (inr (filled_reading g r ks all)) in
      let forward : i ≤ k = omega (arith, b.forward) in
      let e : i + length (yield ks) ≡ k = omega (arith, done.is.long, length_between ws i k forward b.ends) in
      subst (λ n. Used g (take k ws) (item r n i k)) done.many (placed_used r i k ks all p (omega (arith, done.many, b.some_done)) done.is e)

  -- a key that may start after the last word goes on with the words to a programme
  pub wanted_begun : (c : ℕ) → Key g c → Wanted g ws (length ws) c → Begun g (ws ++ (only c ∷ []))
  wanted_begun c h w =
      let p = wanted_context (length ws) c w (inl h) in
      let is = subst (Is p.before) (take-length ws) p.is in
      record {
        reading = p.reading;
        begins = subst (λ y. Begins y (ws ++ (only c ∷ []))) (sym p.yields) (begins_append p.before ws (c ∷ p.after) (only c ∷ []) is (eqb_refl c, tt));
      }
