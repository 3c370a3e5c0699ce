-- How the calls of a draft change what is seen of it.
use Rattle.std.proofs.Common.{◌≡◌, ℕ, suc, ◌-◌, ◌<◌, ◌≤◌, min, List, [], ◌∷◌, ◌++◌, map, length, get_or, set, replicate, sym, refl, ap, ◌∙◌, subst, ⊎_elim, le_refl, Bor, arith}
use Rattle.std.proofs.lemmas.List.{length-map, ext_get_or, map-set, set-set, set-get_or}
use Rattle.std.proofs.Math.ListN.{get_or-map}
use Rattle.std.proofs.lemmas.Bool.{cases_lt}
use Rattle.language.specs.Readings.{Item as Told}
use Rattle.rulebook.specs.declared.sets.SymbolSet.{SymbolSet}
use Rattle.soundbook.specs.declared.sounds.SoundBook.{SoundBook}
use Rattle.chart.specs.Overflow.{Outnumber}
use Rattle.rulebook.specs.declared.faults.Fault.TheVariants.{DraftFull, ChartFull}
use Rattle.wording.specs.declared.pressed.Matched.{Matched}
use Rattle.chart.specs.Boards.{Cut, Fresh, at_place}
use Rattle.chart.specs.Calls.{RubbedOut}
use Rattle.chart.specs.Items.{blank_item, told, blank_told}
use Rattle.chart.specs.Kept.{Kept, Recorded, Crowded}
use Rattle.chart.specs.Records.{grammar_of, words_with, blank_record, matching, wanted_in}
use Rattle.chart.specs.States.{WordRecord, State, no_word, record_at, words, blanked, opened, before, Stands}
use Rattle.chart.specs.Takings.{Taken, TakeRefuses, NotTaken}
use Rattle.chart.specs.Views.{recorded, state_of}
use Rattle.chart.specs.declared.boards.Board.{Board}
use Rattle.chart.specs.declared.indexes.Index.{Index}
use Rattle.chart.specs.declared.items.Item.{Item}
use Rattle.chart.specs.declared.records.Record.{Record}
use Rattle.chart.specs.declared.records.Settled.{Settled}
use Rattle.chart.proofs.Keeping.{OneMore, more_of, less_of, words_more, one_written, one_blanked, kept_more, kept_less}
use Rattle.chart.proofs.Seen.{blanked_is, words_seen, record_seen, stands}

-- states of the same numbers and lists are one
states_alike : {g h : SoundBook} {k l : SymbolSet} {ps qs : List Told} {b c : ℕ} {rs ts : List WordRecord} {m n u v : ℕ} → g ≡ h → k ≡ l → ps ≡ qs → b ≡ c → rs ≡ ts → m ≡ n → u ≡ v
    → ◌≡◌ {A = State} (record { book = g; first = k; places = ps; budget = b; records = rs; held = m; used = u }) (record { book = h; first = l; places = qs; budget = c; records = ts; held = n; used = v })
states_alike a l b c d e f = λ i. record { book = a i; first = l i; places = b i; budget = c i; records = d i; held = e i; used = f i }

-- what is told of a place of a chart
told_at : (xs : List Item) (q : ℕ) → get_or (map told xs) q blank_told ≡ told (get_or xs q blank_item)
told_at xs q = get_or-map told xs q blank_item

-- a new draft
pub opened_seen : (s : Settled) (b : Board) (lent : List Item) → s.records ≡ replicate 100 blank_record → s.held ≡ 0 → Fresh lent b → state_of s b ≡ opened s.book.now (wanted_in s 0) (map told lent)
opened_seen s b lent records held fresh = states_alike refl refl places (fresh.limit ∙ ap (min 60000) (sym (length-map lent told))) (ap (map recorded) records) held fresh.top
  where
    places : map told b.chart.items ≡ blanked (map told lent) 0 (min 60000 (length (map told lent)))
    places = sym (blanked_is (map told lent) 0 (min 60000 (length (map told lent))) (omega arith) (omega arith) (map told b.chart.items)
        (length-map b.chart.items told ∙ (fresh.long ∙ sym (length-map lent told)))
        (λ q l. absurd (omega arith))
        (λ q l h. told_at b.chart.items q ∙ ap told (fresh.blank q (omega (arith, fresh.limit, length-map lent told))))
        (λ q l. told_at b.chart.items q ∙ (ap told (fresh.after q (omega (arith, fresh.limit, length-map lent told))) ∙ sym (told_at lent q))))

module _ (book : Bor SoundBook) (index : Index) (less more : List Record) (n m : ℕ) (few : n ≤ 100) (few' : m ≤ 100) (last : Record) (one : OneMore book index less more n m few few' last) (blanks : less ≡ set more n blank_record) where
  abbrev a : Settled
  a = less_of book index less more n m few few' last

  abbrev b : Settled
  b = more_of book index less more n m few few' last

  last_seen : (board : Board) → (record_at (state_of b board) m).from ≡ last.from
  last_seen board =
      let here : m - 1 ≡ n = omega (arith, one.next) in
      ap (λ (r : WordRecord). r.from) (record_seen b board m ∙ ap recorded (ap (λ j. get_or more j blank_record) here ∙ one.here))

  records_seen : map recorded less ≡ set (map recorded more) (m - 1) no_word
  records_seen =
      let here : n ≡ m - 1 = omega (arith, one.next) in
      ap (map recorded) blanks ∙ (map-set recorded more n blank_record ∙ ap (λ j. set (map recorded more) j no_word) here)

  -- the last word is rubbed out
  pub rubbed_seen : (old new : Board) → last.from ≤ old.top → Cut old new last.from → state_of a new ≡ before (state_of b old)
  rubbed_seen old new order cut = states_alike refl refl (subst (λ x. map told new.chart.items ≡ blanked (map told old.chart.items) x old.top) (sym (last_seen old)) places) cut.limit records_seen (omega (arith, one.next)) (cut.top ∙ sym (last_seen old))
    where
      places : map told new.chart.items ≡ blanked (map told old.chart.items) last.from old.top
      places = sym (blanked_is (map told old.chart.items) last.from old.top order (omega (arith, length-map old.chart.items told, old.used, old.lent, old.chart.ok.0)) (map told new.chart.items)
          (length-map new.chart.items told ∙ (cut.long ∙ sym (length-map old.chart.items told)))
          (λ q l. told_at new.chart.items q ∙ (ap told (cut.before q l) ∙ sym (told_at old.chart.items q)))
          (λ q l h. told_at new.chart.items q ∙ ap told (cut.blank q l h))
          (λ q l. told_at new.chart.items q ∙ (ap told (cut.after q l) ∙ sym (told_at old.chart.items q))))

  -- the last word is taken
  pub taken_seen : (old new : Board) (w : Matched) → Kept a old → Recorded a w old new last → before (state_of b new) ≡ state_of a old
  taken_seen old new w kept done = states_alike refl refl (subst (λ x. blanked (map told new.chart.items) x new.top ≡ map told old.chart.items) (sym (last_seen new)) places) done.limit (sym records_seen) (omega (arith, one.next)) (last_seen new ∙ (done.from ∙ sym kept.top))
    where
      places : blanked (map told new.chart.items) last.from new.top ≡ map told old.chart.items
      places = blanked_is (map told new.chart.items) last.from new.top (omega (arith, done.from, done.top, kept.top)) (omega (arith, length-map new.chart.items told, new.used, new.lent, new.chart.ok.0)) (map told old.chart.items)
          (length-map old.chart.items told ∙ (sym done.long ∙ sym (length-map new.chart.items told)))
          (λ q l. told_at old.chart.items q ∙ (ap told (sym (done.before q (omega (arith, done.from)))) ∙ sym (told_at new.chart.items q)))
          (λ q l h. told_at old.chart.items q ∙ ap told (kept.blank q (omega (arith, done.from, kept.top)) (omega (arith, new.used, done.limit))))
          (λ q l. told_at old.chart.items q ∙ (ap told (sym (done.after q l)) ∙ sym (told_at new.chart.items q)))

  -- the words are those before and the last
  pub words_taken : (old new : Board) (w : Matched) → last.word ≡ w → words (state_of b new) ≡ words (state_of a old) ++ (matching w ∷ [])
  words_taken old new w is =
      words_seen b new ∙ (words_more book index less more n m few few' last one
      ∙ (ap (words_with a) is ∙ ap (λ ws. ws ++ (matching w ∷ [])) (sym (words_seen a old))))

-- the places that a word was refused leaves are blanked again
module _ (s : Settled) (w : Matched) (old mid new : Board) (kept : Kept s old) (full : Crowded s w old mid) (cut : Cut mid new old.top) where
  same_place : (q : ℕ) → at_place new q ≡ at_place old q
  same_place q = ⊎_elim
      (λ l. cut.before q l ∙ full.before q (omega (arith, kept.top)))
      (λ l. ⊎_elim
      (λ h. cut.blank q l h ∙ sym (kept.blank q l (omega (arith, mid.used, full.limit))))
      (λ h. cut.after q h ∙ full.after q h)
      (cases_lt q mid.top))
      (cases_lt q old.top)

  same_chart : new.chart.items ≡ old.chart.items
  same_chart = ext_get_or blank_item new.chart.items old.chart.items (cut.long ∙ full.long) (λ q l. same_place q)

  pub refused_seen : state_of s new ≡ state_of s old
  refused_seen = states_alike refl refl (ap (map told) same_chart) (cut.limit ∙ full.limit) refl refl cut.top

-- the last word is rubbed out of a draft
module _ (s : Settled) (old new : Board) (kept : Kept s old) (n place : ℕ) (few : n ≤ 100) (here : place ≡ n) (some : s.held ≡ suc n) (cut : Cut old new (get_or s.records place blank_record).from) where
  abbrev shorter : Settled
  shorter = record { book = s.book; index = s.index; records = set s.records place blank_record; held = n; few = few }

  abbrev last : Record
  last = get_or s.records place blank_record

  one_less : OneMore s.book s.index (set s.records place blank_record) s.records n s.held few s.few last
  one_less = one_blanked s.book s.index s.records n s.held place few s.few here some kept.long

  pub rubbed_kept : Kept shorter new
  rubbed_kept = kept_less s.book s.index (set s.records place blank_record) s.records n s.held few s.few last one_less old new kept cut

  last_inside : last.from ≤ old.top
  last_inside =
      let c = kept.columns s.held (omega (arith, some)) (le_refl s.held) in
      let same : s.held - 1 ≡ place = omega (arith, here, some) in
      omega (arith, ap (λ j. (get_or s.records j blank_record).from) same, ap (λ j. (get_or s.records j blank_record).past) same, c.split.low, c.split.high, c.within)

  rubbed_out : RubbedOut (state_of s old) (state_of shorter new) new.top
  rubbed_out = record {
    some = omega (arith, some);
    before = rubbed_seen s.book s.index (set s.records place blank_record) s.records n s.held few s.few last one_less (ap (λ j. set s.records j blank_record) here) old new last_inside cut;
    answer = refl;
  }

  pub rubbed : (v : State) → state_of s old ≡ v → Stands (state_of shorter new) × RubbedOut v (state_of shorter new) new.top
  rubbed v e = (stands shorter new rubbed_kept, subst (λ x. RubbedOut x (state_of shorter new) new.top) e rubbed_out)

-- a word that fits is taken by a draft
module _ (s : Settled) (w : Matched) (old new : Board) (kept : Kept s old) (r : Record) (m place : ℕ) (few : m ≤ 100) (here : place ≡ s.held) (next : m ≡ suc s.held) (done : Recorded s w old new r) where
  abbrev longer : Settled
  longer = record { book = s.book; index = s.index; records = set s.records place r; held = m; few = few }

  one_more : OneMore s.book s.index s.records (set s.records place r) s.held m s.few few r
  one_more = one_written s.book s.index s.records s.held m place s.few few r here next kept.long (kept.cleared s.held (le_refl s.held) (omega (arith, next)))

  pub taken_kept : Kept longer new
  taken_kept = kept_more s.book s.index s.records (set s.records place r) s.held m s.few few r one_more old new w kept done

  blanked_again : s.records ≡ set (set s.records place r) s.held blank_record
  blanked_again =
      sym (ap (λ j. set (set s.records j r) s.held blank_record) here
      ∙ (set-set s.records s.held r blank_record
      ∙ (ap (set s.records s.held) (sym (kept.cleared s.held (le_refl s.held) (omega (arith, next)))) ∙ set-get_or s.records s.held blank_record)))

  taken_now : Taken (state_of s old) (state_of longer new) (matching w) new.top
  taken_now = record {
    stands = stands longer new taken_kept;
    words = words_taken s.book s.index s.records (set s.records place r) s.held m s.few few r one_more blanked_again old new w done.word;
    before = taken_seen s.book s.index s.records (set s.records place r) s.held m s.few few r one_more blanked_again old new w kept done;
    budget = done.limit;
    answer = refl;
  }

  pub taken : (v : State) → state_of s old ≡ v → Taken v (state_of longer new) (matching w) new.top
  taken v e = subst (λ x. Taken x (state_of longer new) (matching w) new.top) e taken_now

-- a word whose items do not fit is not taken
pub crowded : (s : Settled) (w : Matched) (old mid new : Board) (kept : Kept s old) (full : Crowded s w old mid) (cut : Cut mid new old.top) (h : ℕ) (v : State) → h ≡ s.held → h < 100 → state_of s old ≡ v → NotTaken v (state_of s new) (matching w) (ChartFull h)
crowded s w old mid new kept full cut h v here room e = subst (λ x. NotTaken x (state_of s new) (matching w) (ChartFull h)) e (record {
  stands = stands s old kept;
  refused = subst (λ x. TakeRefuses (state_of s old) (matching w) (ChartFull x)) (sym here) (TakeRefuses.crowded (omega (arith, here, room)) (subst (λ ws. Outnumber (grammar_of s) old.limit (ws ++ (matching w ∷ []))) (sym (words_seen s old)) full.more));
  same = refused_seen s w old mid new kept full cut;
})

-- nor is one behind 100 words
pub full : (s : Settled) (w : Matched) (b : Board) (kept : Kept s b) (h : ℕ) (v : State) → h ≡ s.held → 100 ≤ h → state_of s b ≡ v → NotTaken v v (matching w) (DraftFull h)
full s w b kept h v here many e = subst (λ x. NotTaken x x (matching w) (DraftFull h)) e (record {
  stands = stands s b kept;
  refused = subst (λ x. TakeRefuses (state_of s b) (matching w) (DraftFull x)) (sym here) (TakeRefuses.full (omega (arith, here, many)));
  same = refl;
})
