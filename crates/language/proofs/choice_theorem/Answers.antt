use Rattle.language.proofs.choice_theorem.Goals as goal
use Rattle.language.proofs.Order.Chosen.{choice_theorem}

pub returns : goal.returns
returns c = choice_theorem
