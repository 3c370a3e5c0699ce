-- Items and spans are told by where they may start and by what reads their own words.
use Rattle.std.proofs.Common.{◌≡◌, ℕ, suc, ◌+◌, ◌<◌, ◌≤◌, ◌↔◌, List, [], ◌∷◌, length, sym, subst, inl, inr, arith, length-append}
use Rattle.language.specs.Book.{Grammar, left, size}
use Rattle.language.specs.Words.{Word, Is, between}
use Rattle.language.specs.Readings.{Children, none, key, part, yield, count, Fits, Done, Reads}
use Rattle.language.specs.Chart.{Wanted, Held, Spans, finished}
use Rattle.language.specs.Choice.{Covers}
use Rattle.language.specs.Theorem.{Locally}
use Rattle.language.proofs.Words.{is_begins}
use Rattle.language.proofs.Chart.Between.{length_between, between_some, begins_match}
use Rattle.language.proofs.Chart.Complete.{dotted_held, children_dotted}
use Rattle.language.proofs.Columns.Bounds.{held_bounds}
use Rattle.language.proofs.Chart.Done.{covers_tree, held_done, held_wanted}
use Rattle.language.proofs.Chart.Proper.{Proper}
use Rattle.language.proofs.Chart.Turned.{Tree, leaves}
use Rattle.language.proofs.Fits.{fits_numbered}

module _ (g : Grammar) (proper : Proper g) where
  -- children have some keys, and so has a tree
  pub yield_some : (r : ℕ) (ks : Children) → Fits g r ks → 1 ≤ count ks → 1 ≤ length (yield ks)
  yield_some r none f l = l
  yield_some r (key ks c) f l = omega (arith, length-append (yield ks) (c ∷ []))
  yield_some r (part ks s cs) f l =
      let below = yield_some s cs f.3 (omega (arith, f.4, proper.filled s (fits_numbered g s cs f.3))) in
      omega (arith, length-append (yield ks) (yield cs))

  pub leaves_some : (X : ℕ) (t : Tree g X) → 1 ≤ length (leaves g X t)
  leaves_some X (inl h) = omega arith
  leaves_some X (inr t) =
      yield_some t.by t.children t.fits (omega (arith, t.whole, proper.filled t.by (fits_numbered g t.by t.children t.fits)))

module _ (g : Grammar) (proper : Proper g) (ws : List Word) where
  -- symbols read some words, so their end is past their start
  pub done_forward : (r d i k : ℕ) → Done g r d (between i k ws) → 1 ≤ d → i < k
  done_forward r d i k h l = between_some ws i k (omega (arith, h.is.long, yield_some g proper r h.children h.fits (omega (arith, h.many))))

  pub covers_forward : (X j k : ℕ) → Covers g X (between j k ws) → j < k
  covers_forward X j k c =
      let t = covers_tree g X (between j k ws) c in
      between_some ws j k (omega (arith, t.is.long, leaves_some g proper X t.tree))

  children_held : (r i k : ℕ) (ks : Children) → Wanted g ws i (left g r) → Fits g r ks → 1 ≤ count ks → Is (yield ks) (between i k ws)
      → i + length (yield ks) ≡ k → k ≤ length ws → Held g ws r (count ks) i k
  children_held r i k ks w f l is e short =
      let b = is_begins (yield ks) [] (between i k ws) is in
      subst (Held g ws r (count ks) i) e (dotted_held g ws r (count ks) i (i + length (yield ks)) (children_dotted g proper ws k short r i ks [] w f b (omega arith)) l)

  -- symbols of a rule that may start there, and that read the words between, are an item
  pub done_held : (r d i k : ℕ) → Wanted g ws i (left g r) → Done g r d (between i k ws) → 1 ≤ d → k ≤ length ws → Held g ws r d i k
  done_held r d i k w h l short =
      let some = done_forward r d i k h l in
      let long : i + length (yield h.children) ≡ k = omega (arith, h.is.long, length_between ws i k (omega arith) short) in
      subst (λ n. Held g ws r n i k) h.many (children_held r i k h.children w h.fits (omega (arith, h.many)) h.is long short)

  -- a reading of a part that may start there, of the words between, is a finished item
  pub reads_held : (X j k : ℕ) → Wanted g ws j X → (h : Reads g X (between j k ws)) → k ≤ length ws → Held g ws h.reading.by (size g h.reading.by) j k
  reads_held X j k w h short =
      let t = h.reading in
      let done : Done g t.by (size g t.by) (between j k ws) = record { children = t.children; fits = t.fits; many = t.whole; is = h.is } in
      let some = proper.filled t.by (fits_numbered g t.by t.children t.fits) in
      done_held t.by (size g t.by) j k (subst (Wanted g ws j) (sym t.heads) w) done some short

  -- both ways
  pub held_locally : (r d i k : ℕ) → Held g ws r d i k ↔ Locally g ws r d i k
  held_locally r d i k = (
    (λ h. let b = held_bounds g ws proper.filled r d i k h in record { wanted = held_wanted g ws r d i k h; done = held_done g proper ws r d i k h; some = b.some_done; ends = b.ends }),
    (λ h. done_held r d i k h.wanted h.done h.some h.ends),
  )

  tree_spans : (X j k : ℕ) (t : Tree g X) → Wanted g ws j X → Is (leaves g X t) (between j k ws) → j < k → k ≤ length ws → Spans g ws X j k
  tree_spans X j k (inl h) w is l short =
      let e : suc j ≡ k = omega (arith, is.long, length_between ws j k (omega arith) short) in
      subst (Spans g ws X j) e (Spans.word X j h (begins_match ws X [] j k l short is.begins))
  tree_spans X j k (inr t) w is l short =
      subst (λ Y. Spans g ws Y j k) t.heads (finished t.by j k (reads_held X j k w (record { reading = t; is = is }) short))

  -- a symbol that may start there spans the words between if it reads them
  pub covers_spans : (X j k : ℕ) → Wanted g ws j X → Covers g X (between j k ws) → k ≤ length ws → Spans g ws X j k
  covers_spans X j k w c short =
      let t = covers_tree g X (between j k ws) c in
      tree_spans X j k t.tree w t.is (covers_forward X j k c) short
