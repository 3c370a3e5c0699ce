-- An item is entered in the column of the new word.
use Rattle.std.proofs.Common.{◌≡◌, ℕ, suc, ◌<◌, ◌≤◌, true, ◌&&◌, eqb, List, [], ◌∷◌, ◌++◌, map, length, get_or, take, sym, refl, ap, ◌∙◌, subst, inl, inr, ⊎_elim, le_refl, arith}
use Rattle.std.proofs.lemmas.List.{length-append, length-map, length-take, length-set, get_or-set_same, get_or-set_other, get_or_append_left, get_or_at, get_or-take}
use Rattle.std.proofs.lemmas.Bool.{cases_eq, cases_lt, or_left, or_right, or_cases, and_parts, and_from, eq-eqb, eqb-true, both_ways}
use Rattle.std.specs.Prelude.{Result, Ok, Err, MatchResult}
use Rattle.language.specs.Book.{Numbered, left, size, symbol}
use Rattle.language.specs.Chart.{Held, HeldItem, Spans, begin, advance}
use Rattle.language.specs.Columns.{InBounds}
use Rattle.language.proofs.Columns.Bounds.{held_bounds, spans_within}
use Rattle.chart.specs.Overflow.{Outnumber}
use Rattle.rulebook.specs.Sets.{has}
use Rattle.wording.specs.declared.pressed.Matched.{Matched}
use Rattle.chart.specs.Boards.{Appended, Entered, NoPlace, Extends, at_place, is_marked}
use Rattle.chart.specs.Filling.{Standing, HeldHere, Filling, Filled, Overfull}
use Rattle.chart.specs.Items.{entry, blank_item, told}
use Rattle.chart.specs.Marks.{Small, marked, is_item}
use Rattle.chart.specs.Starts.{has_start}
use Rattle.chart.specs.Records.{grammar_of, words_of, words_with, wanted_in, used_of, matching, record_of}
use Rattle.soundbook.specs.Sounds.{sound_meaning}
use Rattle.chart.specs.declared.boards.Board.{Board}
use Rattle.chart.specs.declared.items.Item.{Item}
use Rattle.chart.specs.declared.records.Record.{Record}
use Rattle.chart.specs.declared.records.Settled.{Settled}
use Rattle.chart.proofs.Places.{all_at, apart_at}
use Rattle.chart.specs.Ready.{Ready}
use Rattle.soundbook.proofs.Plain.{Plain, plain}

-- the items in use and one more
abbrev one_more : Board → Item → List Item
one_more b t = take b.top b.chart.items ++ (t ∷ [])

-- nothing changes
pub extends_itself : (b : Board) → Extends b b
extends_itself b = record { limit = refl; long = refl; top = le_refl b.top; before = λ q l. refl; after = λ q l. refl; marks = λ r d i k h. h }

-- one change after another
pub extends_more : {a b c : Board} → Extends a b → Extends b c → Extends a c
extends_more {a} {b} {c} x y = record {
  limit = y.limit ∙ x.limit;
  long = y.long ∙ x.long;
  top = omega (arith, x.top, y.top);
  before = λ q l. y.before q (omega (arith, x.top)) ∙ x.before q l;
  after = λ q l. y.after q l ∙ x.after q (omega (arith, y.top));
  marks = λ r d i k h. y.marks r d i k (x.marks r d i k h);
}

-- the bounds of the book
pub plain_of : (s : Settled) → Plain (grammar_of s)
plain_of s = plain (sound_meaning s.book.now) s.book.now.sound

-- an item that is known, told by its three numbers and its end
pub held_at : (s : Settled) (w : Matched) (t u : Item) (k : ℕ) → t ≡ u → u.end ≡ k → HeldHere s w u → Held (grammar_of s) (words_with s w) t.rule t.done t.start k
held_at s w t u k is end held =
    subst (Held (grammar_of s) (words_with s w) t.rule t.done t.start) (ap (λ (x : Item). x.end) is ∙ end)
    (subst (HeldHere s w) (sym is) held)

module _ (s : Settled) (w : Matched) (ready : Ready s w) where
  -- there are at most 100 words
  words_few : length (words_with s w) ≤ suc s.held
  words_few = omega (
    arith,
    length-append (words_of s) (matching w ∷ []),
    length-map (take s.held s.records) (λ (r : Record). matching r.word),
    length-take s.held s.records,
  )

  pub bounds : (r d i k : ℕ) → Held (grammar_of s) (words_with s w) r d i k → InBounds (grammar_of s) (words_with s w) r d i k
  bounds = held_bounds (grammar_of s) (words_with s w) (plain_of s).some_symbols

  -- an item is one that can be marked
  pub held_small : (r d i k : ℕ) → Held (grammar_of s) (words_with s w) r d i k → Small r d i
  held_small r d i k h =
      let b = bounds r d i k h in
      record {
        rule = record { low = b.rule.low; high = omega (arith, b.rule.high, (plain_of s).few_rules) };
        some_done = b.some_done;
        few_done = omega (arith, b.not_past, (plain_of s).few_symbols r b.rule);
        start = omega (arith, b.forward, b.ends, words_few, ready.few);
      }

  -- and starts before the new word
  pub held_start : (r d i k : ℕ) → Held (grammar_of s) (words_with s w) r d i k → i ≤ s.held
  held_start r d i k h = let b = bounds r d i k h in omega (arith, b.forward, b.ends, words_few)

  -- so does a symbol that spans to it
  pub span_start : (X i : ℕ) → Spans (grammar_of s) (words_with s w) X i (suc s.held) → i ≤ s.held
  span_start X i h = omega (arith, (spans_within (grammar_of s) (words_with s w) (plain_of s).some_symbols X i (suc s.held) h).forward)

  -- an item that ends at the new word stands behind those of the words before
  new_place : (b : Board) (t : Item) → Filling s w b → t.end ≡ suc s.held → (q : ℕ) → at_place b q ≡ t → used_of s ≤ q
  new_place b t was here q e = ⊎_elim (λ l. absurd (omega (arith, was.earlier q l, ap (λ (x : Item). x.end) e, here))) (λ h. h) (cases_lt q (used_of s))

  module _ (old new : Board) (t : Item) (was : Filling s w old) (held : HeldHere s w t) (here : t.end ≡ suc s.held) (put : Appended old new t) where
    in_chart : old.top < length old.chart.items
    in_chart = omega (arith, put.room, old.lent, old.chart.ok.0)

    at_old : (q : ℕ) → (q ≡ old.top → ⊥) → at_place new q ≡ at_place old q
    at_old q ne = ap (λ xs. get_or xs q blank_item) put.chart ∙ get_or-set_other old.chart.items old.top q t blank_item ne

    at_new : at_place new old.top ≡ t
    at_new = ap (λ xs. get_or xs old.top blank_item) put.chart ∙ get_or-set_same old.chart.items old.top t blank_item in_chart

    appended_extends : Extends old new
    appended_extends = record {
      limit = put.limit;
      long = ap length put.chart ∙ length-set old.chart.items old.top t;
      top = omega (arith, put.top);
      before = λ q l. at_old q (λ e. omega arith);
      after = λ q l. at_old q (λ e. omega (arith, put.top));
      marks = λ r d i k h. put.marks r d i k ∙ or_right (is_item t r d i) (marked old.marks r d i) h;
    }

    small : Small t.rule t.done t.start
    small = held_small t.rule t.done t.start t.end held

    itself : is_item t t.rule t.done t.start ≡ true
    itself = and_from _ _ (eq-eqb t.rule t.rule refl) (and_from _ _ (eq-eqb t.done t.done refl) (eq-eqb t.start t.start refl))

    appended_marked : is_marked new t ≡ true
    appended_marked = put.marks t.rule t.done t.start small ∙ or_left (is_item t t.rule t.done t.start) (is_marked old t) itself

    -- each place in use is an old one or the new one
    each : (P : ℕ → Item → Type 0) → ((q : ℕ) → q < old.top → P q (at_place old q)) → P old.top t → (q : ℕ) → q < new.top → P q (at_place new q)
    each P olds last q l = ⊎_elim
        (λ e. subst (λ x. P x (at_place new x)) (sym e) (subst (P old.top) (sym at_new) last))
        (λ ne. subst (P q) (sym (at_old q ne)) (olds q (omega (arith, put.top))))
        (cases_eq q old.top)

    -- the new item is none of those that stand
    fresh : (q : ℕ) → q < old.top → at_place old q ≡ t → ⊥
    fresh q l e = both_ways (is_marked old t) put.fresh (subst (λ x. is_marked old x ≡ true) e (was.marks q (new_place old t was here q e) l))

    appended_apart : (p q : ℕ) → p < q → q < new.top → at_place new p ≡ at_place new q → ⊥
    appended_apart p q l k e = ⊎_elim
        (λ h. fresh p (omega arith) (sym (at_old p (λ x. omega arith)) ∙ (e ∙ (ap (at_place new) h ∙ at_new))))
        (λ ne. was.apart p q l (omega (arith, put.top)) (sym (at_old p (λ x. omega (arith, put.top))) ∙ (e ∙ at_old q ne)))
        (cases_eq q old.top)

    appended_stands : (r d i : ℕ) → Small r d i → i ≤ s.held → marked new.marks r d i ≡ true → Standing new (used_of s) new.top (entry r d i (suc s.held))
    appended_stands r d i k l h = ⊎_elim last before (or_cases (is_item t r d i) (marked old.marks r d i) (sym (put.marks r d i k) ∙ h))
      where
        before : marked old.marks r d i ≡ true → Standing new (used_of s) new.top (entry r d i (suc s.held))
        before m = let x = was.stands r d i k l m in record { place = x.place; low = x.low; high = omega (arith, x.high, put.top); is = at_old x.place (λ e. omega (arith, x.high)) ∙ x.is }

        last : is_item t r d i ≡ true → Standing new (used_of s) new.top (entry r d i (suc s.held))
        last m =
            let one = and_parts (eqb t.rule r) (eqb t.done d && eqb t.start i) m in
            let two = and_parts (eqb t.done d) (eqb t.start i) one.1 in
            let same : t ≡ entry r d i (suc s.held) = four (eqb-true t.rule r one.0) (eqb-true t.done d two.0) (eqb-true t.start i two.1) here in
            record { place = old.top; low = was.begins; high = omega (arith, put.top); is = at_new ∙ same }
          where
            four : {r d i k : ℕ} → t.rule ≡ r → t.done ≡ d → t.start ≡ i → t.end ≡ k → t ≡ entry r d i k
            four a b c e = λ x. record { rule = a x; done = b x; start = c x; end = e x }

    appended_filling : Filling s w new
    appended_filling = record {
      begins = omega (arith, was.begins, put.top);
      items = each (λ q x. HeldHere s w x) was.items held;
      apart = appended_apart;
      stands = appended_stands;
      column = λ q l h. each (λ p x. used_of s ≤ p → x.end ≡ suc s.held) (λ p k m. was.column p m k) (λ m. here) q h l;
      earlier = λ q l. subst (λ (x : Item). x.end ≤ s.held) (sym (at_old q (λ e. omega (arith, was.begins)))) (was.earlier q l);
      marks = λ q l h. each (λ p x. used_of s ≤ p → is_marked new x ≡ true) (λ p k m. appended_extends.marks _ _ _ (held_small _ _ _ _ (was.items p k)) (was.marks p m k)) (λ m. appended_marked) q h l;
      waiting = λ r d i j l h u.
          let x = was.waiting r d i j l h u in
          let c = was.columns j x.place (omega (arith, (bounds r d i j h).forward)) l x.low x.high in
          record { place = x.place; low = x.low; high = x.high; is = at_old x.place (λ e. omega (arith, c.0, was.begins)) ∙ x.is };
      columns = λ j q a b l k. let c = was.columns j q a b l k in (c.0, ap (λ (x : Item). x.end) (at_old q (λ e. omega (arith, c.0, was.begins))) ∙ c.1);
      starts = λ j a b q l k. let c = was.columns j q a b l k in ap (λ (x : Item). has_start (record_of s j).starts x.start) (at_old q (λ e. omega (arith, c.0, was.begins))) ∙ was.starts j a b q l k;
    }

  -- nothing is entered
  pub filled_itself : (b : Board) → Filling s w b → Filled s w b b
  filled_itself b was = record { filling = was; extends = extends_itself b }

  -- an item that is entered is in use and marked
  pub entered : (old new : Board) (t : Item) → Filling s w old → HeldHere s w t → t.end ≡ suc s.held → Entered old new t → Filled s w old new × (is_marked new t ≡ true)
  entered old new t was held here (inl e) =
      subst (λ b. Filled s w old b × (is_marked b t ≡ true)) (sym e.0) (filled_itself old was, e.1)
  entered old new t was held here (inr put) =
      (record { filling = appended_filling old new t was held here put; extends = appended_extends old new t was held here put }, appended_marked old new t was held here put)

  -- an item for which no place is left is one too many
  pub no_place : (old new : Board) (t : Item) → Filling s w old → HeldHere s w t → t.end ≡ suc s.held → (new ≡ old) × NoPlace old t → Overfull s w old new
  no_place old new t was held here r = subst (Overfull s w old) (sym r.0) (record { extends = extends_itself old; more = more })
    where
      long : length (take old.top old.chart.items) ≡ old.top
      long = omega (arith, length-take old.top old.chart.items, old.used, old.lent, old.chart.ok.0)

      all_long : length (one_more old t) ≡ suc old.top
      all_long = omega (arith, length-append (take old.top old.chart.items) (t ∷ []), long)

      at_front : (q : ℕ) → q < old.top → get_or (one_more old t) q blank_item ≡ at_place old q
      at_front q l = get_or_append_left (take old.top old.chart.items) (t ∷ []) blank_item q (omega (arith, long)) ∙ get_or-take old.top old.chart.items q blank_item l

      at_last : get_or (one_more old t) old.top blank_item ≡ t
      at_last = get_or_at (take old.top old.chart.items) t [] blank_item old.top long

      each : (q : ℕ) → q < length (one_more old t) → HeldHere s w (get_or (one_more old t) q blank_item)
      each q l = ⊎_elim
          (λ h. subst (HeldHere s w) (sym (at_front q h)) (was.items q h))
          (λ h. let e : q ≡ old.top = omega (arith, all_long) in subst (λ x. HeldHere s w (get_or (one_more old t) x blank_item)) (sym e) (subst (HeldHere s w) (sym at_last) held))
          (cases_lt q old.top)

      differ : (p q : ℕ) → p < q → q < length (one_more old t) → get_or (one_more old t) p blank_item ≡ get_or (one_more old t) q blank_item → ⊥
      differ p q l k e = ⊎_elim
          (λ h. was.apart p q l h (sym (at_front p (omega arith)) ∙ (e ∙ at_front q h)))
          (λ h.
          let last : q ≡ old.top = omega (arith, all_long) in
          let low : p < old.top = omega arith in
          let same : at_place old p ≡ t = sym (at_front p low) ∙ (e ∙ (ap (λ x. get_or (one_more old t) x blank_item) last ∙ at_last)) in
          both_ways (is_marked old t) r.1.fresh (subst (λ x. is_marked old x ≡ true) same (was.marks p (new_place old t was here p same) low)))
          (cases_lt q old.top)

      more : Outnumber (grammar_of s) old.limit (words_with s w)
      more = record {
        items = map told (one_more old t);
        held = all_at (HeldItem (grammar_of s) (words_with s w)) (one_more old t) each;
        apart = apart_at (one_more old t) differ;
        more = omega (arith, length-map (one_more old t) told, all_long, r.1.full);
      }

  -- what a call leaves that enters an item, or has no place for it
  pub item_entered : {T E : Type 0} (P : Type 0) (old new : Board) (r d i e : ℕ) → e ≡ suc s.held → Filling s w old → Held (grammar_of s) (words_with s w) r d i (suc s.held) → (res : Result T E)
      → MatchResult res (λ _. Entered old new (entry r d i e)) (λ _. (new ≡ old) × NoPlace old (entry r d i e))
      → MatchResult res (λ _. Filled s w old new × (P → marked new.marks r d i ≡ true)) (λ _. Overfull s w old new)
  item_entered P old new r d i e here was held (Ok v) put =
      let all = entered old new (entry r d i e) was (subst (Held (grammar_of s) (words_with s w) r d i) (sym here) held) here put in
      (all.0, λ _. all.1)
  item_entered P old new r d i e here was held (Err f) put =
      no_place old new (entry r d i e) was (subst (Held (grammar_of s) (words_with s w) r d i) (sym here) held) here put

  -- a rule whose left side may start where its first symbol spans
  pub begun_held : (r X i : ℕ) → Numbered (grammar_of s) r → symbol (grammar_of s) r 0 ≡ X → Spans (grammar_of s) (words_with s w) X i (suc s.held)
      → has (wanted_in s i) (left (grammar_of s) r) ≡ true → Held (grammar_of s) (words_with s w) r 1 i (suc s.held)
  begun_held r X i n first spans wanted =
      begin r i (suc s.held) n ((ready.wanted i (left (grammar_of s) r) (span_start X i spans)).0 wanted) (subst (λ Y. Spans (grammar_of s) (words_with s w) Y i (suc s.held)) (sym first) spans)

  -- an unfinished item whose next symbol spans
  pub advanced_held : (r d i j X : ℕ) → Held (grammar_of s) (words_with s w) r d i j → d < size (grammar_of s) r → symbol (grammar_of s) r d ≡ X
      → Spans (grammar_of s) (words_with s w) X j (suc s.held) → Held (grammar_of s) (words_with s w) r (suc d) i (suc s.held)
  advanced_held r d i j X h u next spans = advance r d i j (suc s.held) h u (subst (λ Y. Spans (grammar_of s) (words_with s w) Y j (suc s.held)) (sym next) spans)
