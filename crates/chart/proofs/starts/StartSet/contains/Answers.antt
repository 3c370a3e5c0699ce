use Rattle.std.proofs.Common.{refl}
use Rattle.language.specs.Masks.{bit}
use Rattle.chart.proofs.starts.StartSet.contains.Goals as goal

pub returns : goal.returns
unfolding bit
returns c = refl
