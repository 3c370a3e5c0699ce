use Rattle.language.proofs.moves_theorem.Goals as goal
use Rattle.language.proofs.Moves.Theorem.{moves_theorem}

pub returns : goal.returns
returns c = moves_theorem
