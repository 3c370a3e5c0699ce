use Rattle.wording.specs.Programmes.{Stopped}
use Rattle.wording.proofs.programmes.cut.Goals as goal

pub returns-in-Err : goal.returns-in-Err
returns-in-Err c = rw c.in-Err.ensures.fault (Stopped.long c.in-Err.ensures.long c.new-in-Err.ensures.items)
