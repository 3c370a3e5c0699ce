-- How the items of a column are put in order.
use Rattle.std.specs.Prelude.{◌≡◌, ℕ, ◌<◌, ◌≤◌, length}
use Rattle.language.specs.Book.{Grammar, size}
use Rattle.wording.specs.declared.pressed.Matched.{Matched}
use Rattle.chart.specs.Boards.{at_place}
use Rattle.chart.specs.Filling.{Complete}
use Rattle.chart.specs.Records.{grammar_of, used_of}
use Rattle.chart.specs.declared.boards.Board.{Board}
use Rattle.chart.specs.declared.records.Settled.{Settled}

-- only the places in use from one on are written
pub record Reordered (from : ℕ) (old new : Board) : Type 0 where
  pub limit : new.limit ≡ old.limit
  pub top : new.top ≡ old.top
  pub long : length new.chart.items ≡ length old.chart.items
  pub before : (q : ℕ) → q < from → at_place new q ≡ at_place old q
  pub after : (q : ℕ) → old.top ≤ q → at_place new q ≡ at_place old q

-- of the items from one place to before another, those before the middle are unfinished, and those behind it finished
pub record SplitAt (g : Grammar) (b : Board) (from middle past : ℕ) : Type 0 where
  pub low : from ≤ middle
  pub high : middle ≤ past
  pub unfinished : (q : ℕ) → from ≤ q → q < middle → (at_place b q).done < size g (at_place b q).rule
  pub finished : (q : ℕ) → middle ≤ q → q < past → (at_place b q).done ≡ size g (at_place b q).rule

-- the column still has all its items, and those before a place are split at the middle
pub record Sifted (s : Settled) (w : Matched) (old new : Board) (middle past : ℕ) : Type 0 where
  pub complete : Complete s w new
  pub reordered : Reordered (used_of s) old new
  pub split : SplitAt (grammar_of s) new (used_of s) middle past
