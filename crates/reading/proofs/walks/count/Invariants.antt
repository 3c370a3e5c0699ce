use Rattle.std.proofs.Common.{◌≡◌, ◌-◌}
use Rattle.draft.specs.States.{grammar, words}
use Rattle.reading.specs.Stacks.{places, stacked}
use Rattle.reading.proofs.Passing.{Counted}
use Rattle.reading.proofs.walks.count.Given as goal

abbrev pub invariant-loop-behind : goal.invariant-loop-behind
invariant-loop-behind l = (places l.stack ≡ 100) × Counted (grammar l.fn.draft) (words l.fn.draft) l.fn.top (stacked l.stack) l.moves

-- the moves that are not yet counted
abbrev pub decreases-loop-behind : goal.decreases-loop-behind
decreases-loop-behind l = 12836 - l.moves
