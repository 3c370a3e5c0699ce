use Rattle.language.proofs.run_theorem.Goals as goal
use Rattle.language.proofs.Moves.Back.{run_theorem}

pub returns : goal.returns
returns c = run_theorem
