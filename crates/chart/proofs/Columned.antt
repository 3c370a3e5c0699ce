-- The column of a word, as it is lent.
use Rattle.std.proofs.Common.{◌≡◌, ℕ, ◌+◌, ◌-◌, ◌<◌, ◌≤◌, ◌↔◌, List, [], map, length, get_or, take, drop, sym, ap, ◌∙◌, subst, arith}
use Rattle.std.proofs.lemmas.List.{length-take-le, length-drop, get_or-take, get_or-drop}
use Rattle.language.specs.Readings.{Item as Told}
use Rattle.language.specs.Chart.{HeldItem}
use Rattle.language.specs.Columns.{Among}
use Rattle.chart.specs.Boards.{at_place}
use Rattle.chart.specs.Calls.{ColumnIs}
use Rattle.chart.specs.Items.{blank_item, told}
use Rattle.chart.specs.Kept.{Kept}
use Rattle.chart.specs.Records.{grammar_of, words_of, record_of, blank_record}
use Rattle.chart.specs.States.{State}
use Rattle.chart.specs.Views.{state_of}
use Rattle.chart.specs.declared.boards.Board.{Board}
use Rattle.chart.specs.declared.items.Item.{Item}
use Rattle.chart.specs.declared.records.Settled.{Settled}
use Rattle.chart.proofs.Places.{among_at, found_among, apart_at}
use Rattle.chart.proofs.Seen.{words_seen}
use Rattle.chart.proofs.Starting.{kept_bounds, kept_end}

module _ (s : Settled) (b : Board) (kept : Kept s b) where
  module _ (k : ℕ) (some : 1 ≤ k) (few : k ≤ s.held) where
    -- its places are in use
    pub record InUse : Type 0 where
      pub order : (record_of s k).from ≤ (record_of s k).past
      pub inside : (record_of s k).past ≤ b.top

    pub column_in_use : InUse
    column_in_use = let c = kept.columns k some few in record { order = omega (arith, c.split.low, c.split.high); inside = c.within }

    u : InUse
    u = column_in_use

    abbrev column : List Item
    column = take ((record_of s k).past - (record_of s k).from) (drop (record_of s k).from b.chart.items)

    column_long : length column ≡ (record_of s k).past - (record_of s k).from
    column_long =
        length-take-le _ (drop (record_of s k).from b.chart.items) (omega (arith, length-drop (record_of s k).from b.chart.items, u.order, u.inside, b.used, b.lent, b.chart.ok.0))

    column_at : (q : ℕ) → q < (record_of s k).past - (record_of s k).from → get_or column q blank_item ≡ at_place b ((record_of s k).from + q)
    column_at q l = get_or-take _ (drop (record_of s k).from b.chart.items) q blank_item l ∙ get_or-drop (record_of s k).from b.chart.items q blank_item

    column_holds : (t : Told) → Among t (map told column) → HeldItem (grammar_of s) (words_of s) t × (t.end ≡ k)
    column_holds t m =
        let f = found_among column t m in
        let q = (record_of s k).from + f.place in
        let l : f.place < (record_of s k).past - (record_of s k).from = omega (arith, f.inside, column_long) in
        let is : told (at_place b q) ≡ t = ap told (sym (column_at f.place l)) ∙ f.is in
        (subst (HeldItem (grammar_of s) (words_of s)) is (kept.items q (omega (arith, u.inside))), ap (λ (x : Told). x.end) (sym is) ∙ (kept.columns k some few).ends q (omega arith) (omega arith))

    column_all : (t : Told) → HeldItem (grammar_of s) (words_of s) t → t.end ≡ k → Among t (map told column)
    column_all t h e =
        let x = kept.all t.rule t.done t.start t.end h in
        let low : (record_of s k).from ≤ x.place = omega (arith, x.low, ap (λ j. (record_of s j).from) e) in
        let high : x.place < (record_of s k).past = omega (arith, x.high, ap (λ j. (record_of s j).past) e) in
        let q = x.place - (record_of s k).from in
        let l : q < (record_of s k).past - (record_of s k).from = omega arith in
        let here : (record_of s k).from + q ≡ x.place = omega arith in
        let is : get_or column q blank_item ≡ at_place b x.place = column_at q l ∙ ap (at_place b) here in
        subst (λ (y : Told). Among y (map told column)) (ap told (is ∙ x.is)) (among_at column q (omega (arith, column_long)))

    column_seen : ColumnIs (state_of s b) k (map told column)
    column_seen = record {
      items = λ t. subst (λ ws. Among t (map told column) ↔ (HeldItem (grammar_of s) ws t × (t.end ≡ k))) (sym (words_seen s b)) (column_holds t, λ x. column_all t x.0 x.1);
      apart = apart_at column (λ p q l h e.
          let high : q < (record_of s k).past - (record_of s k).from = omega (arith, column_long) in
          kept.apart ((record_of s k).from + p) ((record_of s k).from + q) (omega arith) (omega (arith, u.inside)) (sym (column_at p (omega arith)) ∙ (e ∙ column_at q high)));
    }

  -- told by the place of the record, and by another name of the draft
  pub column_lent : (k p : ℕ) → 1 ≤ k → p ≡ k - 1 → p < s.held → (xs : List Item) → let r = get_or s.records p blank_record in xs ≡ take (r.past - r.from) (drop r.from b.chart.items)
      → (d : State) → state_of s b ≡ d → ColumnIs d k (map told xs)
  column_lent k p some place few xs is d seen =
      let column = is ∙ ap (λ q. let r = get_or s.records q blank_record in take (r.past - r.from) (drop r.from b.chart.items)) place in
      subst (λ d. ColumnIs d k (map told xs)) seen (subst (λ ys. ColumnIs (state_of s b) k (map told ys)) (sym column) (column_seen k some (omega arith)))

  -- no item ends elsewhere
  pub no_column : (k : ℕ) → (1 ≤ k → k ≤ s.held → ⊥) → ColumnIs (state_of s b) k []
  no_column k outside = record {
    items = λ t. (λ m. absurd m, λ x. absurd (none t (subst (λ ws. HeldItem (grammar_of s) ws t) (words_seen s b) x.0) x.1));
    apart = tt;
  }
    where
      none : (t : Told) → HeldItem (grammar_of s) (words_of s) t → t.end ≡ k → ⊥
      none t h e = outside (omega (arith, (kept_bounds s t.rule t.done t.start t.end h).forward, e)) (omega (arith, kept_end s kept.long t.rule t.done t.start t.end h, e))
