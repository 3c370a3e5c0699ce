-- Which items are marked.
use Rattle.std.specs.Prelude.{ℕ, ◌+◌, ◌-◌, ◌*◌, ◌<◌, ◌≤◌, Bool, if◌then◌else◌, ◌&&◌, ◌==◌, slice_index_or}
use Rattle.rulebook.specs.declared.sets.SymbolSet.{SymbolSet}
use Rattle.chart.specs.Rows.{row_at}
use Rattle.chart.specs.Starts.{has_start, no_start}
use Rattle.chart.specs.declared.items.Item.{Item}
use Rattle.chart.specs.declared.marks.Marks.{Marks}
use Rattle.chart.specs.declared.marks.Parts.{Parts}
use Rattle.chart.specs.declared.starts.StartSet.{StartSet}

-- r is one of the rules that a set can hold
pub record InRules (r : ℕ) : Type 0 where
  pub low : 1 ≤ r
  pub high : r ≤ 128

-- an item of rule r with d symbols done that starts after word i is one that can be marked
pub record Small (r d i : ℕ) : Type 0 where
  pub rule : InRules r
  pub some_done : 1 ≤ d
  pub few_done : d ≤ 6
  pub start : i < 100

-- the starts that are marked in row k: those of the press that goes on
abbrev pub starts_in : Marks → ℕ → StartSet
starts_in m k = (if (row_at m.rows k).press == m.press then (row_at m.rows k).starts else no_start)

-- the item of rule r with d symbols done that starts after word i is marked
unfoldable pub marked : Marks → ℕ → ℕ → ℕ → Bool
marked m r d i = has_start (starts_in m (6 * (r - 1) + (d - 1))) i

-- the item has this rule, symbols done and start
abbrev pub is_item : Item → ℕ → ℕ → ℕ → Bool
is_item t r d i = t.rule == r && (t.done == d && t.start == i)

-- the parts that are known to span from after word i
abbrev pub parts_at : Parts → ℕ → SymbolSet
parts_at p i = slice_index_or p.sets i (record { mask = 0 })
