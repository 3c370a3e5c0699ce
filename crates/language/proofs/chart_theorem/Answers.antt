use Rattle.language.proofs.chart_theorem.Goals as goal
use Rattle.language.proofs.Chart.Theorem.{chart_theorem}

pub returns : goal.returns
returns c = chart_theorem
