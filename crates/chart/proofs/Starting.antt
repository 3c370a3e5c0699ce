-- A press starts from what the draft keeps.
use Rattle.std.proofs.Common.{◌≡◌, ℕ, ◌<◌, ◌≤◌, [], ◌∷◌, length, get_or, take, sym, ap, ◌∙◌, subst, ⊎_elim, arith}
use Rattle.std.proofs.lemmas.List.{length-map, length-take-le, take-append-le}
use Rattle.std.proofs.lemmas.Bool.{cases_lt, both_ways}
use Rattle.language.specs.Book.{size}
use Rattle.language.specs.Chart.{Held, Wanted}
use Rattle.language.specs.Columns.{InBounds}
use Rattle.language.proofs.Columns.Bounds.{held_bounds}
use Rattle.language.proofs.Columns.Local.{held_local, wanted_local}
use Rattle.wording.specs.declared.pressed.Matched.{Matched}
use Rattle.chart.specs.Boards.{Extends, Unmarked, at_place}
use Rattle.chart.specs.Filling.{HeldHere, Waits, Filling}
use Rattle.chart.specs.Items.{blank_item}
use Rattle.chart.specs.Kept.{Kept, Recorded}
use Rattle.chart.specs.Ready.{Ready}
use Rattle.chart.specs.Records.{grammar_of, words_of, words_with, record_of, matching, used_of}
use Rattle.chart.specs.Starts.{has_start}
use Rattle.chart.specs.declared.boards.Board.{Board}
use Rattle.chart.specs.declared.items.Item.{Item}
use Rattle.chart.specs.declared.records.Record.{Record}
use Rattle.chart.specs.declared.records.Settled.{Settled}
use Rattle.chart.proofs.Entering.{plain_of}

-- as many words are held as there are records of words
pub words_held : (s : Settled) → length s.records ≡ 100 → length (words_of s) ≡ s.held
words_held s long = length-map (take s.held s.records) (λ (r : Record). matching r.word) ∙ length-take-le s.held s.records (omega (arith, long, s.few))

module _ (s : Settled) (w : Matched) (long : length s.records ≡ 100) where
  same_front : take s.held (words_of s) ≡ take s.held (words_with s w)
  same_front = sym (take-append-le s.held (words_of s) (matching w ∷ []) (omega (arith, words_held s long)))

  -- an item that ends within the words held is one over them and a word more, and the other way round
  pub held_with : (r d i k : ℕ) → k ≤ s.held → Held (grammar_of s) (words_of s) r d i k → Held (grammar_of s) (words_with s w) r d i k
  held_with r d i k l h = held_local (grammar_of s) (words_of s) (words_with s w) s.held same_front (plain_of s).some_symbols r d i k h l

  pub held_without : (r d i k : ℕ) → k ≤ s.held → Held (grammar_of s) (words_with s w) r d i k → Held (grammar_of s) (words_of s) r d i k
  held_without r d i k l h = held_local (grammar_of s) (words_with s w) (words_of s) s.held (sym same_front) (plain_of s).some_symbols r d i k h l

  -- the same for what may start
  pub wanted_with : (k Y : ℕ) → k ≤ s.held → Wanted (grammar_of s) (words_of s) k Y → Wanted (grammar_of s) (words_with s w) k Y
  wanted_with k Y l h = wanted_local (grammar_of s) (words_of s) (words_with s w) s.held same_front (plain_of s).some_symbols k Y h l

  pub wanted_without : (k Y : ℕ) → k ≤ s.held → Wanted (grammar_of s) (words_with s w) k Y → Wanted (grammar_of s) (words_of s) k Y
  wanted_without k Y l h = wanted_local (grammar_of s) (words_with s w) (words_of s) s.held (sym same_front) (plain_of s).some_symbols k Y h l

-- an item over the words held ends within them
pub kept_bounds : (s : Settled) (r d i k : ℕ) → Held (grammar_of s) (words_of s) r d i k → InBounds (grammar_of s) (words_of s) r d i k
kept_bounds s = held_bounds (grammar_of s) (words_of s) (plain_of s).some_symbols

pub kept_end : (s : Settled) → length s.records ≡ 100 → (r d i k : ℕ) → Held (grammar_of s) (words_of s) r d i k → k ≤ s.held
kept_end s long r d i k h = omega (arith, (kept_bounds s r d i k h).ends, words_held s long)

-- with fewer than 100 words held, another can be pressed
pub kept_ready : (s : Settled) (w : Matched) (b : Board) → Kept s b → s.held < 100 → Ready s w
kept_ready s w b kept few = record {
  few = few;
  long = kept.long;
  index = kept.index;
  wanted = λ j Y l. let k = kept.wanted j Y l in (λ h. wanted_with s w kept.long j Y l (k.0 h), λ h. k.1 (wanted_without s w kept.long j Y l h));
}

module _ (s : Settled) (w : Matched) (old new : Board) (kept : Kept s old) (ready : Ready s w) (un : Unmarked old new) where
  same_place : (q : ℕ) → at_place new q ≡ at_place old q
  same_place q = ap (λ xs. get_or xs q blank_item) un.chart

  used : new.top ≡ used_of s
  used = un.top ∙ kept.top

  starting_waits : (r d i j : ℕ) → j ≤ s.held → Held (grammar_of s) (words_with s w) r d i j → d < size (grammar_of s) r → Waits s w new r d i j
  starting_waits r d i j l h u =
      let x = kept.all r d i j (held_without s w kept.long r d i j l h) in
      let c = kept.columns j (omega (arith, (kept_bounds s r d i j (held_without s w kept.long r d i j l h)).forward)) l in
      ⊎_elim
      (λ before. record { place = x.place; low = x.low; high = before; is = same_place x.place ∙ x.is })
      (λ behind. absurd (omega (arith, u, subst (λ (t : Item). t.done ≡ size (grammar_of s) t.rule) x.is (c.split.finished x.place behind x.high))))
      (cases_lt x.place (record_of s j).waiting)

  -- nothing is marked yet, and what waits is where the records say
  pub starting : Filling s w new
  starting = record {
    begins = omega (arith, used);
    items = λ q l.
        let h = kept.items q (omega (arith, un.top)) in
        let t = at_place old q in
        subst (HeldHere s w) (sym (same_place q)) (held_with s w kept.long t.rule t.done t.start t.end (kept_end s kept.long _ _ _ _ h) h);
    apart = λ p q l k e. kept.apart p q l (omega (arith, un.top)) (sym (same_place p) ∙ (e ∙ same_place q));
    column = λ q l k. absurd (omega (arith, used));
    earlier = λ q l. subst (λ (t : Item). t.end ≤ s.held) (sym (same_place q)) (kept_end s kept.long _ _ _ _ (kept.items q (omega (arith, kept.top))));
    stands = λ r d i k l h. absurd (both_ways _ (un.none r d i) h);
    marks = λ q l k. absurd (omega (arith, used));
    waiting = starting_waits;
    columns = λ j q some l low high.
        let c = kept.columns j some l in
        (omega (arith, c.split.high, c.within, kept.top), ap (λ (t : Item). t.end) (same_place q) ∙ c.ends q low (omega (arith, c.split.high)));
    starts = λ j some l q low high. ap (λ (t : Item). has_start (record_of s j).starts t.start) (same_place q) ∙ (kept.columns j some l).starts q low high;
  }

  -- what is settled in the end, told from what the draft kept
  pub recorded_since : (filled settled : Board) (r : Record) → Extends new filled → Recorded s w filled settled r → Recorded s w old settled r
  recorded_since filled settled r e done = record {
    complete = done.complete;
    split = done.split;
    starts = done.starts;
    word = done.word;
    wanted = done.wanted;
    from = done.from;
    past = done.past;
    top = omega (arith, done.top, e.top, un.top);
    limit = done.limit ∙ (e.limit ∙ un.limit);
    long = done.long ∙ (e.long ∙ ap length un.chart);
    before = λ q l. done.before q l ∙ (e.before q (omega (arith, used)) ∙ same_place q);
    after = λ q l. done.after q l ∙ (e.after q (omega (arith, done.top)) ∙ same_place q);
  }
