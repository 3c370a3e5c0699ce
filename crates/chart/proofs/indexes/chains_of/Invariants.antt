use Rattle.std.proofs.Common.{◌≡◌, ℕ, ◌<◌, length}
use Rattle.soundbook.specs.Sounds.{sound_meaning}
use Rattle.chart.specs.Indexes.{ChainsKept, chains_in}
use Rattle.chart.proofs.indexes.chains_of.Given as goal

abbrev pub invariant-loop-at : goal.invariant-loop-at
invariant-loop-at l =
    record {
      long : length l.chains ≡ 6;
      kept : (d : ℕ) → d < l.at → ChainsKept (sound_meaning l.book).grammar d (chains_in l.chains d);
    }
