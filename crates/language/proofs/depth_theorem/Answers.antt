use Rattle.language.proofs.depth_theorem.Goals as goal
use Rattle.language.proofs.Moves.Depth.{depth_theorem}

pub returns : goal.returns
returns c = depth_theorem
