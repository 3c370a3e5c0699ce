-- What the code that fills the chart rests on, in one place.
use Rattle.std.proofs.Common.{ℕ, ◌≤◌, T, refl, le_refl}
use Rattle.language.specs.Book.{Numbered, size}
use Rattle.language.specs.Chart.{Held}
use Rattle.language.specs.Columns.{InBounds, ColumnsAre, ColumnsTheorem}
use Rattle.language.proofs.Columns.Bounds.{held_bounds}
use Rattle.language.proofs.Columns.Count.{few_items}
use Rattle.language.proofs.Columns.Least.{held_least, wanted_least}
use Rattle.language.proofs.Columns.Local.{held_local, wanted_local}

pub columns_theorem : ColumnsTheorem
columns_theorem m s ws = columns
  where
    some : (r : ℕ) → Numbered m.grammar r → 1 ≤ size m.grammar r
    some r n = (s.formed.rules r n).some_symbols

    bounds : (r d i k : ℕ) → Held m.grammar ws r d i k → InBounds m.grammar ws r d i k
    bounds = held_bounds m.grammar ws some

    columns : ColumnsAre m.grammar ws
    columns = record {
      bounds = bounds;
      local = λ vs r d i k e h. held_local m.grammar ws vs k e some r d i k h (le_refl k);
      local_wanted = λ vs k Y e h. wanted_local m.grammar ws vs k e some k Y h (le_refl k);
      few = few_items m.grammar ws bounds;
      least = λ k S c r d i h. held_least m.grammar ws some k (λ q e j. T (S q e j)) c r d i k h refl;
      least_wanted = λ k N j Y h. wanted_least m.grammar ws some k (λ X. T (N X)) j k Y h refl;
    }
