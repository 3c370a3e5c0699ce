use Rattle.std.proofs.Common.{◌≡◌, ℕ, ◌<◌, ◌≤◌, length, slice_index_or}
use Rattle.soundbook.specs.Corners.{CornersOf}
use Rattle.soundbook.specs.Sounds.{sound_meaning}
use Rattle.chart.proofs.indexes.corners_of.Given as goal

abbrev pub invariant-loop-symbol : goal.invariant-loop-symbol
invariant-loop-symbol l =
    record {
      long : length l.corners ≡ 65;
      kept : (X : ℕ) → 1 ≤ X → X < l.symbol → CornersOf (sound_meaning l.book).grammar X (slice_index_or l.corners X (record { mask = 0 }));
    }
