use Rattle.language.proofs.corners_theorem.Goals as goal
use Rattle.language.proofs.Corners.{corners_theorem}

pub returns : goal.returns
returns c = corners_theorem
