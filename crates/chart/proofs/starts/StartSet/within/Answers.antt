use Rattle.chart.proofs.Marking.{all_within}
use Rattle.chart.proofs.starts.StartSet.within.Goals as goal

pub returns : goal.returns
returns c = all_within c.args.self.now.mask c.args.other.now.mask
