-- What is seen of a draft, told by what it keeps.
use Rattle.std.proofs.Common.{◌≡◌, ℕ, ◌-◌, ◌<◌, ◌≤◌, IsTrue, ◌↔◌, cond, eqb, min, List, [], ◌∷◌, ◌++◌, map, length, get_or, take, drop, replicate, sym, refl, ap, ◌∙◌, subst, ⊎_elim, arith}
use Rattle.std.proofs.lemmas.List.{length-append, length-map, length-take-le, length-drop, length-replicate, get_or-take, get_or-drop, get_or-replicate, get_or_append_left, get_or-append_right, ext_get_or, take-map}
use Rattle.std.proofs.Math.ListN.{get_or-map}
use Rattle.std.proofs.lemmas.Bool.{cases_lt}
use Rattle.language.specs.Readings.{Item as Told}
use Rattle.language.specs.Chart.{HeldItem, Wanted}
use Rattle.language.specs.Columns.{Among}
use Rattle.language.specs.Drafts.{Items}
use Rattle.rulebook.specs.Sets.{has}
use Rattle.rulebook.specs.declared.sets.SymbolSet.{SymbolSet}
use Rattle.chart.specs.Boards.{at_place}
use Rattle.chart.specs.Items.{blank_item, told, blank_told}
use Rattle.chart.specs.Kept.{Kept}
use Rattle.chart.specs.Records.{grammar_of, words_of, record_of, blank_record, matching, wanted_in}
use Rattle.chart.specs.States.{WordRecord, record_at, expected, words, in_use, place, blanked, RecordIs, Stands}
use Rattle.chart.specs.Views.{recorded, state_of}
use Rattle.chart.specs.declared.boards.Board.{Board}
use Rattle.chart.specs.declared.items.Item.{Item}
use Rattle.chart.specs.declared.records.Record.{Record}
use Rattle.chart.specs.declared.records.Settled.{Settled}
use Rattle.chart.proofs.Keeping.{wanted_after, in_column, ends_rise}
use Rattle.chart.proofs.Starting.{kept_bounds, kept_end}
use Rattle.chart.proofs.Places.{all_at, among_at, apart_at}

-- a list in which the places from one to before another are blank: they are, and the others are as they were
module _ (ts : List Told) (from past : ℕ) (order : from ≤ past) (inside : past ≤ length ts) where
  front_long : length (take from ts) ≡ from
  front_long = length-take-le from ts (omega arith)

  pub blanked_long : length (blanked ts from past) ≡ length ts
  blanked_long = omega (
    arith,
    length-append (take from ts) (replicate (past - from) blank_told ++ drop past ts),
    length-append (replicate (past - from) blank_told) (drop past ts),
    length-replicate (past - from) blank_told,
    length-drop past ts,
    front_long,
  )

  blanked_before : (q : ℕ) → q < from → get_or (blanked ts from past) q blank_told ≡ get_or ts q blank_told
  blanked_before q l = get_or_append_left (take from ts) (replicate (past - from) blank_told ++ drop past ts) blank_told q (omega (arith, front_long)) ∙ get_or-take from ts q blank_told l

  blanked_here : (q : ℕ) → from ≤ q → q < past → get_or (blanked ts from past) q blank_told ≡ blank_told
  blanked_here q l h =
      get_or-append_right (take from ts) (replicate (past - from) blank_told ++ drop past ts) from q blank_told front_long l
      ∙ (get_or_append_left (replicate (past - from) blank_told) (drop past ts) blank_told (q - from) (omega (arith, length-replicate (past - from) blank_told))
      ∙ get_or-replicate (past - from) (q - from) blank_told blank_told (omega arith))

  blanked_after : (q : ℕ) → past ≤ q → get_or (blanked ts from past) q blank_told ≡ get_or ts q blank_told
  blanked_after q l =
      get_or-append_right (take from ts) (replicate (past - from) blank_told ++ drop past ts) from q blank_told front_long (omega arith)
      ∙ (get_or-append_right (replicate (past - from) blank_told) (drop past ts) (past - from) (q - from) blank_told (length-replicate (past - from) blank_told) (omega arith)
      ∙ (get_or-drop past ts (q - from - (past - from)) blank_told ∙ ap (λ j. get_or ts j blank_told) (omega arith)))

  -- it is any list with these places
  pub blanked_is : (us : List Told) → length us ≡ length ts → ((q : ℕ) → q < from → get_or us q blank_told ≡ get_or ts q blank_told) → ((q : ℕ) → from ≤ q → q < past → get_or us q blank_told ≡ blank_told)
      → ((q : ℕ) → past ≤ q → get_or us q blank_told ≡ get_or ts q blank_told) → blanked ts from past ≡ us
  blanked_is us long before here after = ext_get_or blank_told (blanked ts from past) us (blanked_long ∙ sym long) (λ q l. ⊎_elim
      (λ h. blanked_before q h ∙ sym (before q h))
      (λ h. ⊎_elim
      (λ k. blanked_here q h k ∙ sym (here q h k))
      (λ k. blanked_after q k ∙ sym (after q k))
      (cases_lt q past))
      (cases_lt q from))

-- the words, places and records as they are seen
map_twice : (rs : List Record) → map (λ (r : WordRecord). has r.keys) (map recorded rs) ≡ map (λ (r : Record). matching r.word) rs
map_twice [] = refl
map_twice (r ∷ rs) = ap (λ ws. matching r.word ∷ ws) (map_twice rs)

pub words_seen : (s : Settled) (b : Board) → words (state_of s b) ≡ words_of s
words_seen s b = ap (map (λ (r : WordRecord). has r.keys)) (take-map recorded s.held s.records) ∙ map_twice (take s.held s.records)

pub place_seen : (s : Settled) (b : Board) (q : ℕ) → place (state_of s b) q ≡ told (at_place b q)
place_seen s b q = get_or-map told b.chart.items q blank_item

pub record_seen : (s : Settled) (b : Board) (k : ℕ) → record_at (state_of s b) k ≡ recorded (record_of s k)
record_seen s b k = get_or-map recorded s.records (k - 1) blank_record

-- what may start after the words held
pub expected_seen : (s : Settled) (b : Board) → expected (state_of s b) ≡ wanted_in s s.held
expected_seen s b = ap (λ (r : WordRecord). cond (eqb s.held 0) (wanted_in s 0) r.wanted) (record_seen s b s.held)

module _ (s : Settled) (b : Board) (kept : Kept s b) where
  used_long : length (take b.top b.chart.items) ≡ b.top
  used_long = length-take-le b.top b.chart.items (omega (arith, b.used, b.lent, b.chart.ok.0))

  used_at : (q : ℕ) → q < b.top → get_or (take b.top b.chart.items) q blank_item ≡ at_place b q
  used_at q l = get_or-take b.top b.chart.items q blank_item l

  items_kept : Items (grammar_of s) (words_of s) (map told (take b.top b.chart.items))
  items_kept = record {
    held = all_at (HeldItem (grammar_of s) (words_of s)) (take b.top b.chart.items) (λ q l.
        let h : q < b.top = omega (arith, used_long) in
        subst (λ (t : Item). HeldItem (grammar_of s) (words_of s) (told t)) (sym (used_at q h)) (kept.items q h));
    all = λ r d i k h.
        let x = kept.all r d i k h in
        let some : 1 ≤ k = omega (arith, (kept_bounds s r d i k h).forward) in
        let inside : x.place < b.top = omega (arith, x.high, (kept.columns k some (kept_end s kept.long r d i k h)).within) in
        subst (λ (t : Item). Among (told t) (map told (take b.top b.chart.items))) (used_at x.place inside ∙ x.is) (among_at (take b.top b.chart.items) x.place (omega (arith, used_long)));
    apart = apart_at (take b.top b.chart.items) (λ p q l h e.
        let k : q < b.top = omega (arith, used_long) in
        kept.apart p q l k (sym (used_at p (omega arith)) ∙ (e ∙ used_at q k)));
  }

  items_seen : Items (grammar_of s) (words (state_of s b)) (in_use (state_of s b))
  items_seen = subst (λ ws. Items (grammar_of s) ws (in_use (state_of s b))) (sym (words_seen s b)) (subst (Items (grammar_of s) (words_of s)) (sym (take-map told b.top b.chart.items)) items_kept)

  record_is : (k : ℕ) → 1 ≤ k → k ≤ s.held → RecordIs (state_of s b) k
  record_is k some l = record {
    wanted = λ Y.
        subst (λ (r : WordRecord). IsTrue (has r.wanted Y) ↔ Wanted (grammar_of s) (words (state_of s b)) k Y) (sym (record_seen s b k))
        (subst (λ ws. IsTrue (has (record_of s k).wanted Y) ↔ Wanted (grammar_of s) ws k Y) (sym (words_seen s b))
        (subst (λ (x : SymbolSet). IsTrue (has x Y) ↔ Wanted (grammar_of s) (words_of s) k Y) (wanted_after s k some) (kept.wanted k Y l)));
    items = λ q h.
        subst (λ (r : WordRecord). ((place (state_of s b) q).end ≡ k) ↔ ((r.from ≤ q) × (q < r.past))) (sym (record_seen s b k))
        (subst (λ (t : Told). (t.end ≡ k) ↔ (((record_of s k).from ≤ q) × (q < (record_of s k).past))) (sym (place_seen s b q)) (ends_there q h));
  }
    where
      ends_there : (q : ℕ) → q < b.top → ((at_place b q).end ≡ k) ↔ (((record_of s k).from ≤ q) × (q < (record_of s k).past))
      ends_there q h = (
        λ e. let x = in_column s b kept q h in (omega (arith, ap (λ j. (record_of s j).from) e, x.low), omega (arith, ap (λ j. (record_of s j).past) e, x.high)),
        λ x. (kept.columns k some l).ends q x.0 x.1,
      )

  pub stands : Stands (state_of s b)
  stands = record {
    few = s.few;
    budget = kept.limit ∙ ap (min 60000) (sym (length-map b.chart.items told));
    fits = b.used;
    items = items_seen;
    first = λ Y. subst (λ ws. IsTrue (has (wanted_in s 0) Y) ↔ Wanted (grammar_of s) ws 0 Y) (sym (words_seen s b)) (kept.wanted 0 Y (omega arith));
    rising = λ p q l h. omega (arith, ap (λ (t : Told). t.end) (place_seen s b p), ap (λ (t : Told). t.end) (place_seen s b q), ends_rise s b kept p q l h);
    blank = λ q l h. place_seen s b q ∙ ap told (kept.blank q l h);
    many = length-map s.records recorded ∙ kept.long;
    records = record_is;
    cleared = λ k l h. record_seen s b k ∙ ap recorded (kept.cleared (k - 1) (omega arith) (omega arith));
  }
