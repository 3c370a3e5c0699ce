-- The items of the chart, as they are told.
use Rattle.std.specs.Prelude.{ℕ}
use Rattle.language.specs.Readings.{Item as Told, item}
use Rattle.chart.specs.declared.items.Item.{Item}

-- an item by its four numbers
abbrev pub entry : ℕ → ℕ → ℕ → ℕ → Item
entry r d i k = record { rule = r; done = d; start = i; end = k }

-- a blank place
abbrev pub blank_item : Item
blank_item = entry 0 0 0 0

-- the item that stands at a place
abbrev pub told : Item → Told
told t = item t.rule t.done t.start t.end

-- what is told of a blank place
abbrev pub blank_told : Told
blank_told = item 0 0 0 0
