use Rattle.soundbook.proofs.Deriving.{corner_set}
use Rattle.soundbook.proofs.corners.left_corners.Goals as goal

pub returns : goal.returns
returns c = corner_set _ _ _ c.closure.ensures.closed c.args.book.now.sound _ _ c.empty.ensures c.with.ensures.held c.closure.ensures.grown
