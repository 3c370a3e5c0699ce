use Rattle.std.proofs.Common.{arith}
use Rattle.reading.proofs.Stacked.{top_at}
use Rattle.reading.proofs.stacks.Stack.top.Goals as goal

pub returns-clause-top : goal.returns-clause-top
returns-clause-top g c =
    (_, top_at c.args.self.now.room.now c.args.self.now.len c.in_ok-place.place c.index-room-place.result (omega arith) (omega arith) c.index-room-place.is)
