-- What an item and a span of the chart say of their own words.
use Rattle.std.proofs.Common.{ℕ, suc, ◌<◌, ◌≤◌, T, List, [], ◌++◌, get_or, sym, refl, ap, ◌∙◌, subst, inl, inr, arith}
use Rattle.language.specs.Book.{Grammar, Key, Numbered, left, size, symbol}
use Rattle.language.specs.Words.{Word, blank, Is, between}
use Rattle.language.specs.Readings.{none, yield, Done, Reads}
use Rattle.language.specs.Chart.{Wanted, Held, begin, advance, Spans, finished}
use Rattle.language.specs.Choice.{Covers}
use Rattle.language.proofs.Words.{is_append, single_is, matched_inside}
use Rattle.language.proofs.Columns.Bounds.{Within, held_bounds, spans_within}
use Rattle.language.proofs.Chart.Between.{between_none, between_one, between_join}
use Rattle.language.proofs.Chart.Proper.{Proper}
use Rattle.language.proofs.Chart.Turned.{Tree, leaves, push, push_fits, push_count, push_yield}

module _ (g : Grammar) where
  -- a symbol that reads words has a tree that does
  pub record TreeOver (X : ℕ) (vs : List Word) : Type 0 where
    pub tree : Tree g X
    pub is : Is (leaves g X tree) vs

  pub covers_tree : (X : ℕ) (vs : List Word) → Covers g X vs → TreeOver X vs
  covers_tree X _ (Covers.word w h m) = record { tree = inl h; is = single_is X w m }
  covers_tree X _ (Covers.reading vs h) = record { tree = inr h.reading; is = h.is }

  -- no symbol done
  pub done_none : (r : ℕ) → Numbered g r → Done g r 0 []
  done_none r n = record { children = none; fits = n; many = refl; is = record { begins = tt; long = refl } }

  -- one more symbol done
  done_more : (r d : ℕ) (us vs : List Word) → Done g r d us → d < size g r → Covers g (symbol g r d) vs → Done g r (suc d) (us ++ vs)
  done_more r d us vs h l c =
      let X = symbol g r d in
      let t = covers_tree X vs c in
      record {
        children = push g X h.children t.tree;
        fits = push_fits g X r h.children t.tree h.fits (omega (arith, h.many)) (ap (symbol g r) h.many);
        many = push_count g X h.children t.tree ∙ ap suc h.many;
        is = subst (λ p. Is p (us ++ vs)) (sym (push_yield g X h.children t.tree)) (is_append (yield h.children) us (leaves g X t.tree) vs h.is t.is);
      }

  -- all symbols done
  pub done_reads : (r : ℕ) (vs : List Word) → Done g r (size g r) vs → Reads g (left g r) vs
  done_reads r vs h = record {
    reading = record { by = r; children = h.children; heads = refl; fits = h.fits; whole = h.many };
    is = h.is;
  }

module _ (g : Grammar) (proper : Proper g) (ws : List Word) where
  word_covers : (c j : ℕ) → Key g c → T (get_or ws j blank c) → Covers g c (between j (suc j) ws)
  word_covers c j h m = subst (Covers g c) (sym (between_one ws j (matched_inside ws j c m))) (Covers.word (get_or ws j blank) h m)

  joined : (r d i j k : ℕ) → Done g r d (between i j ws) → i ≤ j → d < size g r → Within ws j k → Covers g (symbol g r d) (between j k ws) → Done g r (suc d) (between i k ws)
  joined r d i j k h f l b c = subst (Done g r (suc d)) (between_join ws i j k f (omega (arith, b.forward))) (done_more g r d (between i j ws) (between j k ws) h l c)

  spanned : (X j k : ℕ) → Spans g ws X j k → Within ws j k
  spanned = spans_within g ws proper.filled

  mutual
    -- the symbols done of an item read the words between
    pub held_done : (r d i k : ℕ) → Held g ws r d i k → Done g r d (between i k ws)
    held_done _ _ _ _ (begin r i k n w s) =
        let X = symbol g r 0 in
        joined r 0 i i k (subst (Done g r 0) (sym (between_none ws i)) (done_none g r n)) (omega arith) (proper.filled r n) (spanned X i k s) (spans_covers X i k s)
    held_done _ _ _ _ (advance r d i j k h l s) =
        let X = symbol g r d in
        let b = held_bounds g ws proper.filled r d i j h in
        joined r d i j k (held_done r d i j h) (omega (arith, b.forward)) l (spanned X j k s) (spans_covers X j k s)

    -- a symbol reads the words between that it spans
    pub spans_covers : (X j k : ℕ) → Spans g ws X j k → Covers g X (between j k ws)
    spans_covers _ _ _ (Spans.word c j h m) = word_covers c j h m
    spans_covers _ _ _ (finished r j k h) = Covers.reading (between j k ws) (done_reads g r (between j k ws) (held_done r (size g r) j k h))

-- the left side of an item's rule may start where the item starts
pub held_wanted : (g : Grammar) (ws : List Word) (r d i k : ℕ) → Held g ws r d i k → Wanted g ws i (left g r)
held_wanted g ws _ _ _ _ (begin r i k n w s) = w
held_wanted g ws _ _ _ _ (advance r d i j k h l s) = held_wanted g ws r d i j h
