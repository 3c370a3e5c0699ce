-- The rows of the marks.
use Rattle.std.specs.Prelude.{ℕ, List, slice_index_or}
use Rattle.chart.specs.Starts.{no_start}
use Rattle.chart.specs.declared.marks.Row.{Row}

-- row k
abbrev pub row_at : List Row → ℕ → Row
row_at rows k = slice_index_or rows k (record { press = 0; starts = no_start })
