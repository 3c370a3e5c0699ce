use Rattle.reading.proofs.Judged.{replay_theorem}
use Rattle.reading.proofs.replays.replay_theorem.Goals as goal

pub returns : goal.returns
returns c = replay_theorem
