use Rattle.std.proofs.Common.{◌≡◌, ◌+◌, length}
use Rattle.soundbook.specs.Sounds.{sound_meaning}
use Rattle.chart.specs.Indexes.{ChainOf}
use Rattle.chart.proofs.indexes.chains_at.Given as goal

abbrev pub invariant-loop-place : goal.invariant-loop-place
invariant-loop-place l =
    record {
      end : l.place-end ≡ length (sound_meaning l.book).grammar.rules;
      lasts_long : length l.chains.lasts ≡ 65;
      befores_long : length l.chains.befores ≡ 129;
      chained : ChainOf (sound_meaning l.book).grammar l.at (l.place + 1) l.chains;
    }
