use Rattle.std.proofs.Common.{◌∙◌, ap}
use Rattle.chart.specs.Marks.{marked, starts_in}
use Rattle.chart.specs.Starts.{has_start}
use Rattle.chart.specs.declared.starts.StartSet.{StartSet}
use Rattle.chart.proofs.marks.Marks.contains.Goals as goal

pub returns : goal.returns
unfolding marked
returns c = c.contains.ensures ∙ ap (λ (x : StartSet). has_start x c.args.item.now.start) (c.starts.ensures ∙ ap (starts_in c.args.self.now) c.row_of.ensures)
