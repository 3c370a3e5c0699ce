use Rattle.language.proofs.first_stack_theorem.Goals as goal
use Rattle.language.proofs.Moves.First.{first_stack_theorem}

pub returns : goal.returns
returns c = first_stack_theorem
