-- Whether a finished item of the start part spans all words held.
use Rattle.std.proofs.Common.{◌≡◌, ℕ, ◌<◌, ◌≤◌}
use Rattle.language.specs.Book.{left}
use Rattle.chart.specs.Boards.{at_place}
use Rattle.chart.specs.Records.{grammar_of}
use Rattle.chart.specs.declared.boards.Board.{Board}
use Rattle.chart.specs.declared.items.Item.{Item}
use Rattle.chart.specs.declared.records.Settled.{Settled}

-- the item is of the start part, and starts before the first word
pub record Spanning (s : Settled) (t : Item) : Type 0 where
  pub start : t.start ≡ 0
  pub heads : left (grammar_of s) t.rule ≡ (grammar_of s).start

-- no item from one place to before another does
abbrev pub NoneSpans : Settled → Board → ℕ → ℕ → Type 0
NoneSpans s b from past = (q : ℕ) → from ≤ q → q < past → Spanning s (at_place b q) → ⊥
