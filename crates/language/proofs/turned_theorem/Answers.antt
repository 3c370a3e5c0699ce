use Rattle.language.proofs.turned_theorem.Goals as goal
use Rattle.language.proofs.Chart.Turned.{turned_theorem}

pub returns : goal.returns
returns c = turned_theorem
