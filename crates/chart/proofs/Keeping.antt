-- What a draft keeps, from one word to the next and back.
use Rattle.std.proofs.Common.{◌≡◌, ℕ, zero, suc, ◌-◌, ◌<◌, ◌≤◌, IsTrue, ◌↔◌, eqb, min, List, [], ◌∷◌, ◌++◌, map, length, get_or, set, take, replicate, sym, refl, ap, ◌∙◌, subst, ⊎_elim, le_refl, Bor, arith}
use Rattle.std.proofs.lemmas.List.{length-take-le, take_more, get_or-take, get_or-replicate, length-replicate, length-set, get_or-set_same, get_or-set_other, ext_get_or, map-append}
use Rattle.std.proofs.lemmas.Bool.{cases_eq, cases_lt, ne_eqb, cond-false}
use Rattle.language.specs.Book.{Grammar, size}
use Rattle.language.specs.Chart.{Held, Wanted, first, next}
use Rattle.rulebook.specs.Sets.{has}
use Rattle.soundbook.specs.Corners.{CornersOf}
use Rattle.rulebook.specs.declared.sets.SymbolSet.{SymbolSet}
use Rattle.soundbook.specs.declared.sounds.SoundBook.{SoundBook}
use Rattle.wording.specs.declared.pressed.Matched.{Matched}
use Rattle.chart.specs.Boards.{Cut, Fresh, at_place}
use Rattle.chart.specs.Filling.{Standing}
use Rattle.chart.specs.Indexes.{IndexOf, corners_at}
use Rattle.chart.specs.Items.{entry}
use Rattle.chart.specs.Kept.{Column, Kept, Recorded}
use Rattle.chart.specs.Starts.{has_start}
use Rattle.chart.specs.Records.{grammar_of, words_of, words_with, record_of, blank_record, matching, wanted_in, past_of}
use Rattle.chart.specs.declared.boards.Board.{Board}
use Rattle.chart.specs.declared.indexes.Index.{Index}
use Rattle.chart.specs.declared.items.Item.{Item}
use Rattle.chart.specs.declared.records.Record.{Record}
use Rattle.chart.specs.declared.records.Settled.{Settled}
use Rattle.chart.proofs.Arranging.{corner_known}
use Rattle.chart.proofs.Entering.{plain_of}
use Rattle.chart.proofs.Starting.{words_held, held_with, held_without, wanted_with, wanted_without, kept_bounds, kept_end}

-- before the first word, and after one
past_first : (s : Settled) → past_of s 0 ≡ 0
past_first s = refl

pub past_after : (s : Settled) (k : ℕ) → 1 ≤ k → past_of s k ≡ (record_of s k).past
past_after s k some = cond-false (eqb k 0) 0 (record_of s k).past (ne_eqb k 0 (λ e. omega arith))

pub wanted_after : (s : Settled) (k : ℕ) → 1 ≤ k → wanted_in s k ≡ (record_of s k).wanted
wanted_after s k some = cond-false (eqb k 0) (corners_at s.index (grammar_of s).start) (record_of s k).wanted (ne_eqb k 0 (λ e. omega arith))

-- a column is what it was where its places are
pub same_column : (g : Grammar) (a b : Board) (k start : ℕ) (r : Record) → ((q : ℕ) → q < r.past → at_place b q ≡ at_place a q) → r.past ≤ b.top → Column g a k start r → Column g b k start r
same_column g a b k start r places inside c = record {
  begins = c.begins;
  split = record {
    low = c.split.low;
    high = c.split.high;
    unfinished = λ q low high. subst (λ (t : Item). t.done < size g t.rule) (sym (places q (omega (arith, c.split.high)))) (c.split.unfinished q low high);
    finished = λ q low high. subst (λ (t : Item). t.done ≡ size g t.rule) (sym (places q high)) (c.split.finished q low high);
  };
  within = inside;
  ends = λ q low high. ap (λ (t : Item). t.end) (places q high) ∙ c.ends q low high;
  starts = λ q low high. ap (λ (t : Item). has_start r.starts t.start) (places q (omega (arith, c.split.high))) ∙ c.starts q low high;
}

-- what a draft keeps of the places of its items
module _ (s : Settled) (b : Board) (kept : Kept s b) where
  -- columns follow each other
  past_step : (k : ℕ) → suc k ≤ s.held → past_of s k ≤ past_of s (suc k)
  past_step k l =
      let c = kept.columns (suc k) (omega arith) l in
      let same : suc k - 1 ≡ k = omega arith in
      omega (arith, c.begins, ap (past_of s) same, c.split.low, c.split.high, past_after s (suc k) (omega arith))

  pub past_rises : (j k : ℕ) → j ≤ k → k ≤ s.held → past_of s j ≤ past_of s k
  past_rises j zero l h = let e : j ≡ 0 = omega arith in subst (λ x. past_of s x ≤ past_of s 0) (sym e) (le_refl _)
  past_rises j (suc k) l h = ⊎_elim
      (λ e. subst (λ x. past_of s x ≤ past_of s (suc k)) (sym e) (le_refl _))
      (λ ne. omega (arith, past_rises j k (omega arith) (omega arith), past_step k h))
      (cases_eq j (suc k))

  -- what stands at a place in use stands in the column of the word at which it ends
  pub record InColumn (q : ℕ) : Type 0 where
    pub some : 1 ≤ (at_place b q).end
    pub few : (at_place b q).end ≤ s.held
    pub low : (record_of s (at_place b q).end).from ≤ q
    pub high : q < (record_of s (at_place b q).end).past

  pub in_column : (q : ℕ) → q < b.top → InColumn q
  in_column q l =
      let t = at_place b q in
      let held = kept.items q l in
      let x = kept.all t.rule t.done t.start t.end held in
      let some : 1 ≤ t.end = omega (arith, (kept_bounds s t.rule t.done t.start t.end held).forward) in
      let few = kept_end s kept.long t.rule t.done t.start t.end held in
      let inside = (kept.columns t.end some few).within in
      let here : x.place ≡ q = ⊎_elim (λ e. e) (λ ne. absurd (⊎_elim (λ h. kept.apart x.place q h l x.is) (λ h. kept.apart q x.place (omega (arith, ne)) (omega (arith, x.high)) (sym x.is)) (cases_lt x.place q))) (cases_eq x.place q) in
      record { some = some; few = few; low = omega (arith, here, x.low); high = omega (arith, here, x.high) }

  -- so items end at later words from place to place
  pub ends_rise : (p q : ℕ) → p ≤ q → q < b.top → (at_place b p).end ≤ (at_place b q).end
  ends_rise p q l h = ⊎_elim (λ k. absurd (omega (arith, low k, y.high, x.low))) (λ k. k) (cases_lt (at_place b q).end (at_place b p).end)
    where
      x : InColumn p
      x = in_column p (omega arith)

      y : InColumn q
      y = in_column q h

      low : (at_place b q).end < (at_place b p).end → (record_of s (at_place b q).end).past ≤ (record_of s (at_place b p).end).from
      low k = omega (
        arith,
        past_after s (at_place b q).end y.some,
        past_rises (at_place b q).end ((at_place b p).end - 1) (omega arith) (omega (arith, x.few)),
        (kept.columns (at_place b p).end x.some x.few).begins,
      )

-- a draft of one word fewer, and one of one word more
module _ (book : Bor SoundBook) (index : Index) (less more : List Record) (n m : ℕ) (few : n ≤ 100) (few' : m ≤ 100) (last : Record) where
  abbrev pub less_of : Settled
  less_of = record { book = book; index = index; records = less; held = n; few = few }

  abbrev pub more_of : Settled
  more_of = record { book = book; index = index; records = more; held = m; few = few' }

  -- the records differ at the last word alone
  pub record OneMore : Type 0 where
    pub next : m ≡ suc n
    pub less_long : length less ≡ 100
    pub more_long : length more ≡ 100
    pub others : (j : ℕ) → (j ≡ n → ⊥) → get_or more j blank_record ≡ get_or less j blank_record
    pub here : get_or more n blank_record ≡ last
    pub none : get_or less n blank_record ≡ blank_record

  module _ (one : OneMore) where
    room : n < 100
    room = omega (arith, one.next)

    same_records : (k : ℕ) → 1 ≤ k → k ≤ n → record_of more_of k ≡ record_of less_of k
    same_records k some l = one.others (k - 1) (λ e. omega arith)

    last_record : (k : ℕ) → k ≡ m → record_of more_of k ≡ last
    last_record k e = ap (λ j. get_or more j blank_record) (omega (arith, one.next)) ∙ one.here

    front : take n more ≡ take n less
    front = ext_get_or blank_record (take n more) (take n less) (length-take-le n more (omega (arith, one.more_long)) ∙ sym (length-take-le n less (omega (arith, one.less_long))))
        (λ j l. let h : j < n = omega (arith, length-take-le n more (omega (arith, one.more_long))) in get_or-take n more j blank_record h ∙ (one.others j (λ e. omega arith) ∙ sym (get_or-take n less j blank_record h)))

    -- the words are those of the draft before and the last
    pub words_more : words_of more_of ≡ words_with less_of last.word
    words_more =
        ap (λ j. map (λ (r : Record). matching r.word) (take j more)) (omega (arith, one.next))
        ∙ (ap (map (λ (r : Record). matching r.word)) (take_more more n blank_record (omega (arith, one.more_long)) ∙ (ap (λ xs. xs ++ (get_or more n blank_record ∷ [])) front ∙ ap (λ (x : Record). take n less ++ (x ∷ [])) one.here))
        ∙ map-append (λ (r : Record). matching r.word) (take n less) (last ∷ []))

    same_past : (j : ℕ) → j ≤ n → past_of more_of j ≡ past_of less_of j
    same_past zero l = refl
    same_past (suc j) l = past_after more_of (suc j) (omega arith) ∙ (ap (λ (r : Record). r.past) (same_records (suc j) (omega arith) l) ∙ sym (past_after less_of (suc j) (omega arith)))

    same_wanted : (j : ℕ) → j ≤ n → wanted_in more_of j ≡ wanted_in less_of j
    same_wanted zero l = refl
    same_wanted (suc j) l = wanted_after more_of (suc j) (omega arith) ∙ (ap (λ (r : Record). r.wanted) (same_records (suc j) (omega arith) l) ∙ sym (wanted_after less_of (suc j) (omega arith)))

    -- what ends within the words before is over the one list what it is over the other
    pub held_more : (r d i k : ℕ) → k ≤ n → Held (grammar_of less_of) (words_of less_of) r d i k → Held (grammar_of less_of) (words_of more_of) r d i k
    held_more r d i k l h = subst (λ ws. Held (grammar_of less_of) ws r d i k) (sym words_more) (held_with less_of last.word one.less_long r d i k l h)

    pub held_less : (r d i k : ℕ) → k ≤ n → Held (grammar_of less_of) (words_of more_of) r d i k → Held (grammar_of less_of) (words_of less_of) r d i k
    held_less r d i k l h = held_without less_of last.word one.less_long r d i k l (subst (λ ws. Held (grammar_of less_of) ws r d i k) words_more h)

    wanted_more : (k Y : ℕ) → k ≤ n → Wanted (grammar_of less_of) (words_of less_of) k Y → Wanted (grammar_of less_of) (words_of more_of) k Y
    wanted_more k Y l h = subst (λ ws. Wanted (grammar_of less_of) ws k Y) (sym words_more) (wanted_with less_of last.word one.less_long k Y l h)

    wanted_less : (k Y : ℕ) → k ≤ n → Wanted (grammar_of less_of) (words_of more_of) k Y → Wanted (grammar_of less_of) (words_of less_of) k Y
    wanted_less k Y l h = wanted_without less_of last.word one.less_long k Y l (subst (λ ws. Wanted (grammar_of less_of) ws k Y) words_more h)

    -- from what was kept and the filled column of the last word
    module _ (old new : Board) (w : Matched) (kept : Kept less_of old) (done : Recorded less_of w old new last) where
      same_word : words_with less_of w ≡ words_of more_of
      same_word = ap (words_with less_of) (sym done.word) ∙ sym words_more

      same_place : (q : ℕ) → q < old.top → at_place new q ≡ at_place old q
      same_place q l = done.before q (omega (arith, kept.top))

      past_last : past_of more_of m ≡ new.top
      past_last = past_after more_of m (omega (arith, one.next)) ∙ (ap (λ (r : Record). r.past) (last_record m refl) ∙ done.past)

      more_all : (r d i k : ℕ) → Held (grammar_of less_of) (words_of more_of) r d i k → Standing new (record_of more_of k).from (record_of more_of k).past (entry r d i k)
      more_all r d i k h = ⊎_elim
          (λ e.
          let here : k ≡ suc n = omega (arith, one.next) in
          let x = done.complete.all r d i (subst (λ ws. Held (grammar_of less_of) ws r d i (suc n)) (sym same_word) (subst (Held (grammar_of less_of) (words_of more_of) r d i) here h)) in
          subst (λ (y : Record). Standing new y.from y.past (entry r d i k)) (sym (last_record k e))
          (record { place = x.place; low = omega (arith, done.from, x.low); high = omega (arith, done.past, x.high); is = x.is ∙ ap (entry r d i) (sym here) }))
          (λ ne.
          let early : k ≤ n = omega (arith, one.next, kept_end more_of one.more_long r d i k h) in
          let some : 1 ≤ k = omega (arith, (kept_bounds more_of r d i k h).forward) in
          let x = kept.all r d i k (held_less r d i k early h) in
          let inside = (kept.columns k some early).within in
          subst (λ (y : Record). Standing new y.from y.past (entry r d i k)) (sym (same_records k some early))
          (record { place = x.place; low = x.low; high = x.high; is = same_place x.place (omega (arith, inside, x.high)) ∙ x.is }))
          (cases_eq k m)

      more_wanted : (j Y : ℕ) → j ≤ m → IsTrue (has (wanted_in more_of j) Y) ↔ Wanted (grammar_of less_of) (words_of more_of) j Y
      more_wanted j Y l = ⊎_elim
          (λ e.
          let here : suc n ≡ j = omega (arith, one.next) in
          let set_is : wanted_in more_of j ≡ last.wanted = wanted_after more_of j (omega (arith, one.next)) ∙ ap (λ (r : Record). r.wanted) (last_record j e) in
          let k = done.wanted Y in (
            λ h. subst (λ ws. Wanted (grammar_of less_of) ws j Y) same_word (subst (λ x. Wanted (grammar_of less_of) (words_with less_of w) x Y) here (k.0 (subst (λ (x : SymbolSet). IsTrue (has x Y)) set_is h))),
            λ h. subst (λ (x : SymbolSet). IsTrue (has x Y)) (sym set_is) (k.1 (subst (λ x. Wanted (grammar_of less_of) (words_with less_of w) x Y) (sym here) (subst (λ ws. Wanted (grammar_of less_of) ws j Y) (sym same_word) h))),
          ))
          (λ ne.
          let early : j ≤ n = omega (arith, one.next) in
          let k = kept.wanted j Y early in (
            λ h. wanted_more j Y early (k.0 (subst (λ (x : SymbolSet). IsTrue (has x Y)) (same_wanted j early) h)),
            λ h. subst (λ (x : SymbolSet). IsTrue (has x Y)) (sym (same_wanted j early)) (k.1 (wanted_less j Y early h)),
          ))
          (cases_eq j m)

      more_column : (k : ℕ) → 1 ≤ k → k ≤ m → Column (grammar_of less_of) new k (past_of more_of (k - 1)) (record_of more_of k)
      more_column k some l = ⊎_elim
          (λ e.
          let before : k - 1 ≡ n = omega (arith, one.next) in
          subst (Column (grammar_of less_of) new k (past_of more_of (k - 1))) (sym (last_record k e)) (record {
            begins = done.from ∙ (sym (same_past n (le_refl n)) ∙ ap (past_of more_of) (sym before));
            split = done.split;
            within = omega (arith, done.past);
            ends = λ q low high. done.complete.column q (omega (arith, done.from)) (omega (arith, done.past)) ∙ omega (arith, one.next);
            starts = done.starts;
          }))
          (λ ne.
          let early : k ≤ n = omega (arith, one.next) in
          let c = kept.columns k some early in
          subst (Column (grammar_of less_of) new k (past_of more_of (k - 1))) (sym (same_records k some early))
          (subst (λ x. Column (grammar_of less_of) new k x (record_of less_of k)) (sym (same_past (k - 1) (omega arith)))
          (same_column (grammar_of less_of) old new k (past_of less_of (k - 1)) (record_of less_of k) (λ q high. same_place q (omega (arith, c.within))) (omega (arith, c.within, done.top)) c)))
          (cases_eq k m)

      pub kept_more : Kept more_of new
      kept_more = record {
        index = kept.index;
        long = one.more_long;
        limit = done.limit ∙ (kept.limit ∙ ap (min 60000) (sym done.long));
        top = sym past_last;
        items = λ q l. let t = at_place new q in subst (λ ws. Held (grammar_of less_of) ws t.rule t.done t.start t.end) same_word (done.complete.items q l);
        apart = done.complete.apart;
        all = more_all;
        wanted = more_wanted;
        columns = more_column;
        cleared = λ j l h. one.others j (λ e. omega (arith, one.next)) ∙ kept.cleared j (omega (arith, one.next)) h;
        blank = λ q l h. done.after q l ∙ kept.blank q (omega (arith, done.top)) (omega (arith, done.limit));
      }

    -- and back, where the last word's items are blanked
    module _ (old new : Board) (kept : Kept more_of old) (cut : Cut old new last.from) where
      record_last : record_of more_of m ≡ last
      record_last = last_record m refl

      last_column : Column (grammar_of less_of) old m (past_of more_of (m - 1)) last
      last_column = subst (Column (grammar_of less_of) old m (past_of more_of (m - 1))) record_last (kept.columns m (omega (arith, one.next)) (le_refl m))

      from_last : last.from ≡ past_of less_of n
      from_last =
          let before : m - 1 ≡ n = omega (arith, one.next) in
          last_column.begins ∙ (ap (past_of more_of) before ∙ same_past n (le_refl n))

      top_last : old.top ≡ last.past
      top_last = kept.top ∙ (past_after more_of m (omega (arith, one.next)) ∙ ap (λ (r : Record). r.past) record_last)

      -- the columns before end where the last begins
      column_before : (k : ℕ) → 1 ≤ k → k ≤ n → (record_of less_of k).past ≤ last.from
      column_before k some l = omega (
        arith,
        from_last,
        past_after less_of k some,
        same_past k l,
        same_past n (le_refl n),
        past_rises more_of old kept k n l (omega (arith, one.next)),
      )

      -- an item that stands before the last column ends before the last word
      ends_before : (q : ℕ) → q < last.from → (at_place old q).end ≤ n
      ends_before q l =
          let x = in_column more_of old kept q (omega (arith, top_last, last_column.split.low, last_column.split.high)) in
          ⊎_elim
          (λ e. absurd (omega (arith, x.low, ap (λ (r : Record). r.from) (ap (record_of more_of) e ∙ record_last))))
          (λ ne. omega (arith, x.few, one.next, ne))
          (cases_eq (at_place old q).end m)

      less_items : (q : ℕ) → q < new.top → let t = at_place new q in Held (grammar_of less_of) (words_of less_of) t.rule t.done t.start t.end
      less_items q l =
          let low : q < last.from = omega (arith, cut.top) in
          let t = at_place old q in
          subst (λ (x : Item). Held (grammar_of less_of) (words_of less_of) x.rule x.done x.start x.end) (sym (cut.before q low))
          (held_less t.rule t.done t.start t.end (ends_before q low) (kept.items q (omega (arith, top_last, last_column.split.low, last_column.split.high))))

      less_all : (r d i k : ℕ) → Held (grammar_of less_of) (words_of less_of) r d i k → Standing new (record_of less_of k).from (record_of less_of k).past (entry r d i k)
      less_all r d i k h =
          let early = kept_end less_of one.less_long r d i k h in
          let some : 1 ≤ k = omega (arith, (kept_bounds less_of r d i k h).forward) in
          let x = subst (λ (y : Record). Standing old y.from y.past (entry r d i k)) (same_records k some early) (kept.all r d i k (held_more r d i k early h)) in
          record { place = x.place; low = x.low; high = x.high; is = cut.before x.place (omega (arith, column_before k some early, x.high)) ∙ x.is }

      less_column : (k : ℕ) → 1 ≤ k → k ≤ n → Column (grammar_of less_of) new k (past_of less_of (k - 1)) (record_of less_of k)
      less_column k some l =
          let c = kept.columns k some (omega (arith, one.next)) in
          same_column (grammar_of less_of) old new k (past_of less_of (k - 1)) (record_of less_of k) (λ q high. cut.before q (omega (arith, column_before k some l))) (omega (arith, column_before k some l, cut.top))
          (subst (λ x. Column (grammar_of less_of) old k x (record_of less_of k)) (same_past (k - 1) (omega arith)) (subst (Column (grammar_of less_of) old k (past_of more_of (k - 1))) (same_records k some l) c))

      pub kept_less : Kept less_of new
      kept_less = record {
        index = kept.index;
        long = one.less_long;
        limit = cut.limit ∙ (kept.limit ∙ ap (min 60000) (sym cut.long));
        top = cut.top ∙ from_last;
        items = less_items;
        apart = λ p q l h e. kept.apart p q l (omega (arith, cut.top, top_last, last_column.split.low, last_column.split.high)) (sym (cut.before p (omega (arith, cut.top))) ∙ (e ∙ cut.before q (omega (arith, cut.top))));
        all = less_all;
        wanted = λ j Y l. let k = kept.wanted j Y (omega (arith, one.next)) in (
          λ h. wanted_less j Y l (k.0 (subst (λ (x : SymbolSet). IsTrue (has x Y)) (sym (same_wanted j l)) h)),
          λ h. subst (λ (x : SymbolSet). IsTrue (has x Y)) (same_wanted j l) (k.1 (wanted_more j Y l h)),
        );
        columns = less_column;
        cleared = λ j l h. ⊎_elim
            (λ e. ap (λ x. get_or less x blank_record) e ∙ one.none)
            (λ ne. sym (one.others j ne) ∙ kept.cleared j (omega (arith, one.next)) h)
            (cases_eq j n);
        blank = λ q l h. ⊎_elim
            (λ k. cut.blank q (omega (arith, cut.top)) k)
            (λ k. cut.after q k ∙ kept.blank q k (omega (arith, cut.limit)))
            (cases_lt q old.top);
      }

-- a record is written behind those of the words held, or the last is blanked
pub one_written : (book : Bor SoundBook) (index : Index) (less : List Record) (n m place : ℕ) (few : n ≤ 100) (few' : m ≤ 100) (r : Record) → place ≡ n → m ≡ suc n → length less ≡ 100 → get_or less n blank_record ≡ blank_record
    → OneMore book index less (set less place r) n m few few' r
one_written book index less n m place few few' r here after long none = record {
  next = after;
  less_long = long;
  more_long = length-set less place r ∙ long;
  others = λ j ne. get_or-set_other less place j r blank_record (λ e. ne (omega (arith, e)));
  here = ap (λ j. get_or (set less place r) j blank_record) (sym here) ∙ get_or-set_same less place r blank_record (omega arith);
  none = none;
}

pub one_blanked : (book : Bor SoundBook) (index : Index) (more : List Record) (n m place : ℕ) (few : n ≤ 100) (few' : m ≤ 100) → place ≡ n → m ≡ suc n → length more ≡ 100
    → OneMore book index (set more place blank_record) more n m few few' (get_or more place blank_record)
one_blanked book index more n m place few few' here after long = record {
  next = after;
  less_long = length-set more place blank_record ∙ long;
  more_long = long;
  others = λ j ne. sym (get_or-set_other more place j blank_record blank_record (λ e. ne (omega (arith, e))));
  here = ap (λ j. get_or more j blank_record) (sym here);
  none = ap (λ j. get_or (set more place blank_record) j blank_record) (sym here) ∙ get_or-set_same more place blank_record blank_record (omega arith);
}

-- a new draft keeps nothing
module _ (s : Settled) (b : Board) (lent : List Item) (index : IndexOf (grammar_of s) s.index) (records : s.records ≡ replicate 100 blank_record) (held : s.held ≡ 0) (fresh : Fresh lent b) where
  long : length s.records ≡ 100
  long = ap length records ∙ length-replicate 100 blank_record

  no_item : (r d i k : ℕ) → Held (grammar_of s) (words_of s) r d i k → ⊥
  no_item r d i k h = let x = kept_bounds s r d i k h in omega (arith, x.forward, x.ends, words_held s long)

  -- the left corners of the start part
  starts : CornersOf (grammar_of s) (grammar_of s).start (corners_at s.index (grammar_of s).start)
  starts = index.corners (grammar_of s).start (plain_of s).start_low (omega (arith, (plain_of s).start_high))

  first_wanted : (k Y : ℕ) → Wanted (grammar_of s) (words_of s) k Y → k ≡ 0 → IsTrue (has (corners_at s.index (grammar_of s).start) Y)
  first_wanted _ _ (first Y c) e =
      let known = corner_known (grammar_of s) (plain_of s) (grammar_of s).start Y (record { low = (plain_of s).start_low; high = omega (arith, (plain_of s).start_high) }) c in
      (starts Y).1 (known.low, known.high, c)
  first_wanted _ _ (next r d i k Y h l c) e = absurd (no_item r d i k h)

  none_wanted : (j Y : ℕ) → j ≤ s.held → IsTrue (has (wanted_in s j) Y) ↔ Wanted (grammar_of s) (words_of s) j Y
  none_wanted j Y l =
      let none : 0 ≡ j = omega (arith, held) in
      subst (λ x. IsTrue (has (wanted_in s x) Y) ↔ Wanted (grammar_of s) (words_of s) x Y) none
      (λ h. first Y ((starts Y).0 h).2, λ h. first_wanted 0 Y h refl)

  pub kept_opened : Kept s b
  kept_opened = record {
    index = index;
    long = long;
    limit = fresh.limit ∙ ap (min 60000) (sym fresh.long);
    top = fresh.top ∙ sym (ap (past_of s) held);
    items = λ q l. absurd (omega (arith, fresh.top));
    apart = λ p q l h. absurd (omega (arith, fresh.top));
    all = λ r d i k h. absurd (no_item r d i k h);
    wanted = none_wanted;
    columns = λ k some l. absurd (omega (arith, held));
    cleared = λ j l h. ap (λ xs. get_or xs j blank_record) records ∙ get_or-replicate 100 j blank_record blank_record h;
    blank = λ q l h. fresh.blank q h;
  }
