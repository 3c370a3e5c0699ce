-- The items of a draft are those of the schema.
use Rattle.std.specs.Prelude.{◌≡◌, ℕ, ◌↔◌, List}
use Rattle.language.specs.Readings.{Item}
use Rattle.language.specs.Chart.{HeldItem}
use Rattle.language.specs.Columns.{Among, Apart}
use Rattle.draft.specs.States.{DraftState, grammar, words}

-- the items of the schema over the words held that end at word k, each once
pub record ColumnIs (d : DraftState) (k : ℕ) (ts : List Item) : Type 0 where
  pub items : (t : Item) → Among t ts ↔ (HeldItem (grammar d) (words d) t × (t.end ≡ k))
  pub apart : Apart ts
