-- How a draft is seen.
use Rattle.std.specs.Prelude.{map}
use Rattle.chart.specs.Items.{told}
pub use Rattle.chart.specs.Kept.{Kept}
use Rattle.chart.specs.Records.{wanted_in}
use Rattle.chart.specs.States.{State, WordRecord}
use Rattle.chart.specs.declared.boards.Board.{Board}
use Rattle.chart.specs.declared.records.Record.{Record}
use Rattle.chart.specs.declared.records.Settled.{Settled}

-- what is seen of a record
abbrev pub recorded : Record → WordRecord
recorded r = record { keys = r.word.keys; wanted = r.wanted; from = r.from; past = r.past }

-- what is seen of a draft: all but the marks, the index of the book past the left corners of the start part, and what a record tells of its unfinished items
abbrev pub state_of : Settled → Board → State
state_of s b = record {
  book = s.book.now;
  first = wanted_in s 0;
  places = map told b.chart.items;
  budget = b.limit;
  records = map recorded s.records;
  held = s.held;
  used = b.top;
}
