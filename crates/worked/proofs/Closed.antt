-- A list of items that holds whatever follows from it holds every item.
use Rattle.std.proofs.Common.{◌≡◌, ℕ, zero, suc, ◌<◌, ◌≤◌, Bool, true, not, ◌&&◌, ◌||◌, T, eqb, ltb, List, [], length, get_or, sym, refl, subst, ⊎_elim, arith}
use denote.Floats.{is_true}
use Rattle.std.proofs.lemmas.Bool.{and_parts, and_from, or_cases, or_left, or_right, eqb-true, eq-eqb, lt-ltb, cases_order, not-true, both_ways}
use Rattle.language.specs.Book.{Grammar, Key, Numbered, left, size, symbol}
use Rattle.language.specs.Words.{Word, blank}
use Rattle.language.specs.Readings.{Item, item}
use Rattle.language.specs.Machine.{is_key, is_rule}
use Rattle.language.specs.Chart.{Corner, Wanted, Held, Spans, first, next, begin, advance, word, finished}
use Rattle.language.specs.Columns.{InBounds, Among}
use Rattle.language.proofs.Columns.Bounds.{held_bounds}
use Rattle.language.proofs.Tests.{test_key, test_rule}
use Rattle.worked.proofs.Check.{any, every, any_member, member_any, every_member, has, has_among}
use Rattle.worked.proofs.Corners.{corners, cornered, corners_complete}
use Rattle.worked.proofs.Items.{ended, spanned, begun, advanced, follows}

-- the test holds of every number below n
unfoldable pub all_below : (ℕ → Bool) → ℕ → Bool
all_below f zero = true
all_below f (suc n) = f n && all_below f n

pub below_at : (f : ℕ → Bool) (n i : ℕ) → all_below f n ≡ true → i < n → f i ≡ true
unfolding all_below
below_at f zero i h l = absurd (omega arith)
below_at f (suc n) i h l =
    let p = and_parts (f n) (all_below f n) h in
    ⊎_elim (λ e. subst (λ x. f x ≡ true) (sym e) p.0) (⊎_elim (λ b. below_at f n i p.1 b) (λ b. absurd (omega arith))) (cases_order i n)

unfoldable pub implies : Bool → Bool → Bool
implies a b = not a || b

pub implied : (a b : Bool) → implies a b ≡ true → a ≡ true → b ≡ true
unfolding implies
implied a b h t = ⊎_elim (λ e. absurd (both_ways a (not-true a e) t)) (λ e. e) (or_cases (not a) b h)

unfoldable pub same_item : Item → Item → Bool
same_item t u = eqb t.rule u.rule && (eqb t.done u.done && (eqb t.start u.start && eqb t.end u.end))

pub same_self : (t : Item) → same_item t t ≡ true
unfolding same_item
same_self t = and_from _ _ (eq-eqb t.rule t.rule refl) (and_from _ _ (eq-eqb t.done t.done refl) (and_from _ _ (eq-eqb t.start t.start refl) (eq-eqb t.end t.end refl)))

same_equal : (t u : Item) → same_item t u ≡ true → t ≡ u
unfolding same_item
same_equal t u h =
    let p = and_parts (eqb t.rule u.rule) _ h in
    let q = and_parts (eqb t.done u.done) _ p.1 in
    let r = and_parts (eqb t.start u.start) (eqb t.end u.end) q.1 in
    λ i. record { rule = eqb-true _ _ p.0 i; done = eqb-true _ _ q.0 i; start = eqb-true _ _ r.0 i; end = eqb-true _ _ r.1 i }

module _ (g : Grammar) (ws : List Word) (ts : List Item) (Ns : List (List ℕ)) where
  -- Y is in the list of what may start after word k
  unfoldable pub listed : ℕ → ℕ → Bool
  listed k Y = has Y (get_or Ns k [])

  unfoldable pub closed_item : ℕ → ℕ → ℕ → ℕ → Bool
  closed_item r d i k = implies (follows g ws listed ts (item r d i k)) (any (same_item (item r d i k)) ts)

  unfoldable pub closed_items : Bool
  closed_items = all_below (λ k. all_below (λ i. all_below (λ r. all_below (λ d. closed_item (suc r) (suc d) i (suc k)) (size g (suc r))) (length g.rules)) (suc k)) (length ws)

  -- the left corners of X are listed after word k
  unfoldable pub corners_listed : ℕ → ℕ → Bool
  corners_listed k X = cornered g X && every (listed k) (corners g X)

  unfoldable pub closed_next : Item → Bool
  closed_next u = implies (ltb u.done (size g u.rule)) (corners_listed u.end (symbol g u.rule u.done))

  unfoldable pub closed : Bool
  closed = corners_listed 0 g.start && (every closed_next ts && closed_items)

  listed_corner : (k X Y : ℕ) → corners_listed k X ≡ true → Corner g X Y → listed k Y ≡ true
  unfolding corners_listed
  listed_corner k X Y h c =
      let p = and_parts (cornered g X) (every (listed k) (corners g X)) h in
      every_member (listed k) (corners g X) Y p.1 (has_among Y (corners g X) (corners_complete g X Y p.0 c))

  in_range : (r d i k : ℕ) → closed_items ≡ true → InBounds g ws r d i k → closed_item r d i k ≡ true
  unfolding closed_items
  in_range zero d i k c b = absurd (omega (arith, b.rule.low))
  in_range (suc r) zero i k c b = absurd (omega (arith, b.some_done))
  in_range (suc r) (suc d) i zero c b = absurd (omega (arith, b.forward))
  in_range (suc r) (suc d) i (suc k) c b =
      below_at (λ d. closed_item (suc r) (suc d) i (suc k)) (size g (suc r)) d
      (below_at (λ r. all_below (λ d. closed_item (suc r) (suc d) i (suc k)) (size g (suc r))) (length g.rules) r
      (below_at (λ i. all_below (λ r. all_below (λ d. closed_item (suc r) (suc d) i (suc k)) (size g (suc r))) (length g.rules)) (suc k) i
      (below_at (λ k. all_below (λ i. all_below (λ r. all_below (λ d. closed_item (suc r) (suc d) i (suc k)) (size g (suc r))) (length g.rules)) (suc k)) (length ws) k c b.ends)
      b.forward) b.rule.high) b.not_past

  module _ (some_symbols : (r : ℕ) → Numbered g r → 1 ≤ size g r) (first_closed : corners_listed 0 g.start ≡ true) (next_closed : every closed_next ts ≡ true) (items_closed : closed_items ≡ true) where
    followed : (r d i k : ℕ) → Held g ws r d i k → follows g ws listed ts (item r d i k) ≡ true → Among (item r d i k) ts
    unfolding closed_item
    followed r d i k h f =
        let m = any_member (same_item (item r d i k)) ts (implied _ _ (in_range r d i k items_closed (held_bounds g ws some_symbols r d i k h)) f) in
        subst (λ t. Among t ts) (sym (same_equal (item r d i k) m.the m.has)) m.among

    begun_among : (r i k : ℕ) → Numbered g r → Wanted g ws i (left g r) → Spans g ws (symbol g r 0) i k → listed i (left g r) ≡ true
        → spanned g ws ts (symbol g r 0) i k ≡ true → Among (item r 1 i k) ts
    unfolding follows begun
    begun_among r i k n w s l t =
        followed r 1 i k (begin r i k n w s)
        (or_left (begun g ws listed ts (item r 1 i k)) (any (advanced g ws ts (item r 1 i k)) ts)
        (and_from (is_rule g r) _ (test_rule g r n) (and_from (listed i (left g r)) (spanned g ws ts (symbol g r 0) i k) l t)))

    advanced_among : (r d i j k : ℕ) → Held g ws r d i j → d < size g r → Spans g ws (symbol g r d) j k → Among (item r d i j) ts
        → spanned g ws ts (symbol g r d) j k ≡ true → Among (item r (suc d) i k) ts
    unfolding follows advanced
    advanced_among r d i j k h l s m t =
        followed r (suc d) i k (advance r d i j k h l s)
        (or_right (begun g ws listed ts (item r (suc d) i k)) (any (advanced g ws ts (item r (suc d) i k)) ts)
        (member_any (advanced g ws ts (item r (suc d) i k)) ts (item r d i j) m
        (and_from (eqb r r) _ (eq-eqb r r refl)
        (and_from (eqb (suc d) (suc d)) _ (eq-eqb (suc d) (suc d) refl)
        (and_from (eqb i i) _ (eq-eqb i i refl)
        (and_from (ltb d (size g r)) _ (lt-ltb d (size g r) l) t))))))

    next_listed : (r d i k Y : ℕ) → d < size g r → Corner g (symbol g r d) Y → Among (item r d i k) ts → listed k Y ≡ true
    unfolding closed_next
    next_listed r d i k Y l c m =
        listed_corner k (symbol g r d) Y (implied (ltb d (size g r)) _ (every_member closed_next ts (item r d i k) next_closed m) (lt-ltb d (size g r) l)) c

    word_spanned : (c j : ℕ) → Key g c → T (get_or ws j blank c) → spanned g ws ts c j (suc j) ≡ true
    unfolding spanned
    word_spanned c j k t =
        or_left (is_key g c && (eqb (suc j) (suc j) && get_or ws j blank c)) (any (ended g ws c j (suc j)) ts)
        (and_from (is_key g c) _ (test_key g c k)
        (and_from (eqb (suc j) (suc j)) (get_or ws j blank c) (eq-eqb (suc j) (suc j) refl) (is_true (get_or ws j blank c) t)))

    finished_spanned : (r j k : ℕ) → Among (item r (size g r) j k) ts → spanned g ws ts (left g r) j k ≡ true
    unfolding spanned ended
    finished_spanned r j k m =
        or_right (is_key g (left g r) && (eqb k (suc j) && get_or ws j blank (left g r))) (any (ended g ws (left g r) j k) ts)
        (member_any (ended g ws (left g r) j k) ts (item r (size g r) j k) m
        (and_from (eqb (left g r) (left g r)) _ (eq-eqb (left g r) (left g r) refl)
        (and_from (eqb (size g r) (size g r)) _ (eq-eqb (size g r) (size g r) refl)
        (and_from (eqb j j) (eqb k k) (eq-eqb j j refl) (eq-eqb k k refl)))))

    mutual
      pub held_among : (r d i k : ℕ) → Held g ws r d i k → Among (item r d i k) ts
      held_among _ _ _ _ (begin r i k n w s) = begun_among r i k n w s (wanted_listed i (left g r) w) (spans_spanned (symbol g r 0) i k s)
      held_among _ _ _ _ (advance r d i j k h l s) = advanced_among r d i j k h l s (held_among r d i j h) (spans_spanned (symbol g r d) j k s)

      pub wanted_listed : (k Y : ℕ) → Wanted g ws k Y → listed k Y ≡ true
      wanted_listed _ _ (first Y c) = listed_corner 0 g.start Y first_closed c
      wanted_listed _ _ (next r d i k Y h l c) = next_listed r d i k Y l c (held_among r d i k h)

      pub spans_spanned : (X j k : ℕ) → Spans g ws X j k → spanned g ws ts X j k ≡ true
      spans_spanned _ _ _ (word c j key t) = word_spanned c j key t
      spans_spanned _ _ _ (finished r j k h) = finished_spanned r j k (held_among r (size g r) j k h)
