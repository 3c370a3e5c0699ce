-- How a draft is seen.
use Rattle.std.specs.Prelude.{ℕ, Bool, ◌&&◌, ◌==◌, List, map, take, drop, filter}
use Rattle.std.specs.List.{list_any, range_with_len}
use Rattle.language.specs.Book.{left, size}
use Rattle.language.specs.Readings.{Item}
use Rattle.rulebook.specs.Sets.{has, key_number}
use Rattle.chart.specs.States.{State as Inner, WordRecord, grammar, expected, in_use}
use Rattle.draft.specs.States.{DraftState}

-- the keys that may start after the words held, in rising order
abbrev pub lit_of : Inner → List ℕ
lit_of i = filter (λ c. has (expected i) c && key_number c) (range_with_len 1 64)

-- it is a finished item of a rule of the start part, over all words held
abbrev pub spans_all : Inner → Item → Bool
spans_all i t = left (grammar i) t.rule == (grammar i).start && (t.done == size (grammar i) t.rule && (t.start == 0 && t.end == i.held))

-- the words by their records, the chart's places in two, the lit keys, and whether an item spans all words
abbrev pub state_of : Inner → DraftState
state_of i = record {
  book = i.book;
  sets = map (λ (r : WordRecord). r.keys) (take i.held i.records);
  places = take i.budget i.places;
  beyond = drop i.budget i.places;
  used = i.used;
  lit = lit_of i;
  whole = list_any (spans_all i) (in_use i);
}
