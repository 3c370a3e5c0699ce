-- Which starts a set holds.
use Rattle.std.specs.Prelude.{ℕ, Bool}
use Rattle.language.specs.Masks.{bit}
use Rattle.chart.specs.declared.starts.StartSet.{StartSet}

-- a set holds start i
abbrev pub has_start : StartSet → ℕ → Bool
has_start s i = bit s.mask i

-- no start
abbrev pub no_start : StartSet
no_start = record { mask = 0 }
