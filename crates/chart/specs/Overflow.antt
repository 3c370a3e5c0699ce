-- When the items of a press are too many.
use Rattle.std.specs.Prelude.{ℕ, ◌<◌, List, length}
use Rattle.std.specs.List.{AllByRecursion}
use Rattle.language.specs.Book.{Grammar}
use Rattle.language.specs.Words.{Word}
use Rattle.language.specs.Readings.{Item}
use Rattle.language.specs.Chart.{HeldItem}
use Rattle.language.specs.Columns.{Apart}

-- some items over the words, each once, are more than the places
pub record Outnumber (g : Grammar) (places : ℕ) (ws : List Word) : Type 0 where
  pub items : List Item
  pub held : AllByRecursion (HeldItem g ws) items
  pub apart : Apart items
  pub more : places < length items
