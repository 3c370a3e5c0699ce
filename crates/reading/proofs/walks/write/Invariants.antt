use Rattle.std.proofs.Common.{◌≡◌, length}
use Rattle.draft.specs.States.{grammar, words}
use Rattle.reading.specs.Stacks.{places, stacked}
use Rattle.reading.proofs.Passing.{PartWritten}
use Rattle.reading.proofs.walks.write.Given as goal

abbrev pub invariant-loop-behind : goal.invariant-loop-behind
invariant-loop-behind l =
    (places l.stack ≡ 100) × (length l.strip ≡ length l.fn.strip) × PartWritten (grammar l.fn.draft) (words l.fn.draft) l.fn.top l.moves l.fn.strip (stacked l.stack) l.at l.strip

-- the moves that are not yet written
abbrev pub decreases-loop-behind : goal.decreases-loop-behind
decreases-loop-behind l = l.at
