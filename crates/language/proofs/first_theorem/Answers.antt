use Rattle.language.proofs.first_theorem.Goals as goal
use Rattle.language.proofs.Order.First.{first_theorem}

pub returns : goal.returns
returns c = first_theorem
