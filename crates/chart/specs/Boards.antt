-- How the places of the chart change.
use Rattle.std.specs.Prelude.{◌≡◌, ℕ, suc, ◌<◌, ◌≤◌, Bool, true, false, ◌||◌, ◌⊎◌, List, length, min, slice_index_or, slice_set}
use Rattle.chart.specs.Items.{blank_item}
use Rattle.chart.specs.Marks.{Small, marked, is_item}
use Rattle.chart.specs.declared.items.Item.{Item}
use Rattle.chart.specs.declared.boards.Board.{Board}

-- what stands at a place
abbrev pub at_place : Board → ℕ → Item
at_place b p = slice_index_or b.chart.items p blank_item

-- the item t is marked
abbrev pub is_marked : Board → Item → Bool
is_marked b t = marked b.marks t.rule t.done t.start

-- no place is in use, and of the chart as it was lent only those that may be used are blanked
pub record Fresh (lent : List Item) (b : Board) : Type 0 where
  pub limit : b.limit ≡ min 60000 (length lent)
  pub top : b.top ≡ 0
  pub long : length b.chart.items ≡ length lent
  pub blank : (q : ℕ) → q < b.limit → at_place b q ≡ blank_item
  pub after : (q : ℕ) → b.limit ≤ q → at_place b q ≡ slice_index_or lent q blank_item

-- an item is entered at the first place that is not in use, and marked
pub record Appended (old new : Board) (t : Item) : Type 0 where
  pub fresh : is_marked old t ≡ false
  pub room : old.top < old.limit
  pub limit : new.limit ≡ old.limit
  pub top : new.top ≡ suc old.top
  pub chart : new.chart.items ≡ slice_set old.chart.items old.top t
  pub marks : (r d i : ℕ) → Small r d i → marked new.marks r d i ≡ (is_item t r d i || marked old.marks r d i)

-- an item is marked already, and nothing is changed, or it is entered
abbrev pub Entered : Board → Board → Item → Type 0
Entered old new t = ((new ≡ old) × (is_marked old t ≡ true)) ⊎ Appended old new t

-- no place is left for an item that is not marked
pub record NoPlace (b : Board) (t : Item) : Type 0 where
  pub fresh : is_marked b t ≡ false
  pub full : b.top ≡ b.limit

-- places in use stay, marks stay, and no place from the new end on is written
pub record Extends (old new : Board) : Type 0 where
  pub limit : new.limit ≡ old.limit
  pub long : length new.chart.items ≡ length old.chart.items
  pub top : old.top ≤ new.top
  pub before : (q : ℕ) → q < old.top → at_place new q ≡ at_place old q
  pub after : (q : ℕ) → new.top ≤ q → at_place new q ≡ at_place old q
  pub marks : (r d i : ℕ) → Small r d i → marked old.marks r d i ≡ true → marked new.marks r d i ≡ true

-- the items at two places are changed over
pub record Swapped (old new : Board) (one other : ℕ) : Type 0 where
  pub limit : new.limit ≡ old.limit
  pub top : new.top ≡ old.top
  pub long : length new.chart.items ≡ length old.chart.items
  pub first : at_place new one ≡ at_place old other
  pub second : at_place new other ≡ at_place old one
  pub others : (q : ℕ) → (q ≡ one → ⊥) → (q ≡ other → ⊥) → at_place new q ≡ at_place old q

-- nothing is marked
pub record Unmarked (old new : Board) : Type 0 where
  pub limit : new.limit ≡ old.limit
  pub top : new.top ≡ old.top
  pub chart : new.chart.items ≡ old.chart.items
  pub none : (r d i : ℕ) → marked new.marks r d i ≡ false

-- the places in use from one on are blank, and no longer in use
pub record Cut (old new : Board) (from : ℕ) : Type 0 where
  pub limit : new.limit ≡ old.limit
  pub top : new.top ≡ from
  pub long : length new.chart.items ≡ length old.chart.items
  pub before : (q : ℕ) → q < from → at_place new q ≡ at_place old q
  pub blank : (q : ℕ) → from ≤ q → q < old.top → at_place new q ≡ blank_item
  pub after : (q : ℕ) → old.top ≤ q → at_place new q ≡ at_place old q
