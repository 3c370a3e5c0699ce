-- What a draft keeps between its calls.
use Rattle.std.specs.Prelude.{◌≡◌, ℕ, suc, ◌-◌, ◌<◌, ◌≤◌, length, slice_index_or, IsTrue, ◌↔◌, min}
use Rattle.language.specs.Book.{Grammar}
use Rattle.language.specs.Chart.{Wanted, Held}
use Rattle.chart.specs.Overflow.{Outnumber}
use Rattle.rulebook.specs.Sets.{has}
use Rattle.wording.specs.declared.pressed.Matched.{Matched}
use Rattle.chart.specs.Boards.{at_place}
use Rattle.chart.specs.Filling.{Standing, Started, Complete}
use Rattle.chart.specs.Indexes.{IndexOf}
use Rattle.chart.specs.Items.{entry, blank_item}
use Rattle.chart.specs.Records.{grammar_of, words_of, words_with, record_of, blank_record, wanted_in, past_of, used_of}
use Rattle.chart.specs.Sifting.{SplitAt}
use Rattle.chart.specs.declared.boards.Board.{Board}
use Rattle.chart.specs.declared.records.Record.{Record}
use Rattle.chart.specs.declared.records.Settled.{Settled}

-- the record of word k tells its column: it begins where the one before ends, its items end at that word, the unfinished
-- stand in front, and their starts are known
pub record Column (g : Grammar) (b : Board) (k start : ℕ) (r : Record) : Type 0 where
  pub begins : r.from ≡ start
  pub split : SplitAt g b r.from r.waiting r.past
  pub within : r.past ≤ b.top
  pub ends : (q : ℕ) → r.from ≤ q → q < r.past → (at_place b q).end ≡ k
  pub starts : Started b r

-- the items over the words held stand column by column, each once, and no other; the records tell their words, what may start
-- after them, and their items; all other places and records are blank
pub record Kept (s : Settled) (b : Board) : Type 0 where
  pub index : IndexOf (grammar_of s) s.index
  pub long : length s.records ≡ 100
  pub limit : b.limit ≡ min 60000 (length b.chart.items)
  pub top : b.top ≡ used_of s
  pub items : (q : ℕ) → q < b.top → let t = at_place b q in Held (grammar_of s) (words_of s) t.rule t.done t.start t.end
  pub apart : (p q : ℕ) → p < q → q < b.top → at_place b p ≡ at_place b q → ⊥
  pub all : (r d i k : ℕ) → Held (grammar_of s) (words_of s) r d i k → Standing b (record_of s k).from (record_of s k).past (entry r d i k)
  pub wanted : (j Y : ℕ) → j ≤ s.held → IsTrue (has (wanted_in s j) Y) ↔ Wanted (grammar_of s) (words_of s) j Y
  pub columns : (k : ℕ) → 1 ≤ k → k ≤ s.held → Column (grammar_of s) b k (past_of s (k - 1)) (record_of s k)
  pub cleared : (j : ℕ) → s.held ≤ j → j < 100 → slice_index_or s.records j blank_record ≡ blank_record
  pub blank : (q : ℕ) → b.top ≤ q → q < b.limit → at_place b q ≡ blank_item

-- the column of a new word is filled and put in order behind the others, and its record tells of it
pub record Recorded (s : Settled) (w : Matched) (old new : Board) (r : Record) : Type 0 where
  pub complete : Complete s w new
  pub split : SplitAt (grammar_of s) new r.from r.waiting r.past
  pub starts : Started new r
  pub word : r.word ≡ w
  pub wanted : (Y : ℕ) → IsTrue (has r.wanted Y) ↔ Wanted (grammar_of s) (words_with s w) (suc s.held) Y
  pub from : r.from ≡ used_of s
  pub past : r.past ≡ new.top
  pub top : old.top ≤ new.top
  pub limit : new.limit ≡ old.limit
  pub long : length new.chart.items ≡ length old.chart.items
  pub before : (q : ℕ) → q < used_of s → at_place new q ≡ at_place old q
  pub after : (q : ℕ) → new.top ≤ q → at_place new q ≡ at_place old q

-- the items with a new word outnumber the places, and only places that were not in use are written
pub record Crowded (s : Settled) (w : Matched) (old new : Board) : Type 0 where
  pub more : Outnumber (grammar_of s) old.limit (words_with s w)
  pub limit : new.limit ≡ old.limit
  pub long : length new.chart.items ≡ length old.chart.items
  pub top : used_of s ≤ new.top
  pub before : (q : ℕ) → q < used_of s → at_place new q ≡ at_place old q
  pub after : (q : ℕ) → new.top ≤ q → at_place new q ≡ at_place old q
