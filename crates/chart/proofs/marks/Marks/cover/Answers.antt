use Rattle.std.proofs.Common.{◌∙◌, sym, ap}
use Rattle.chart.specs.Marks.{marked, starts_in}
use Rattle.chart.specs.Starts.{has_start}
use Rattle.chart.specs.declared.starts.StartSet.{StartSet}
use Rattle.chart.proofs.marks.Marks.cover.Goals as goal

pub returns : goal.returns
unfolding marked
returns c = λ e i h. sym (ap (λ (x : StartSet). has_start x i) (c.starts.ensures ∙ ap (starts_in c.args.self.now) c.row_of.ensures)) ∙ c.within.ensures e i h
