use Rattle.chart.proofs.Marking.{start_added}
use Rattle.chart.proofs.starts.StartSet.with.Goals as goal

pub returns : goal.returns
returns c = start_added c.args.self.now.mask c.args.start c.requires
