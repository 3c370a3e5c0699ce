use Rattle.language.proofs.outside_theorem.Goals as goal
use Rattle.language.proofs.Outside.{outside_theorem}

pub returns : goal.returns
returns c = outside_theorem
