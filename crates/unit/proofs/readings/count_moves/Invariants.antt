use Rattle.std.proofs.Common.{◌≡◌, length}
use Rattle.unit.specs.Steps.{IsMoveCount}
use Rattle.unit.proofs.readings.count_moves.Given as goal

-- the moves are those of the readings so far, and the strip has a place for every move
abbrev pub invariant-loop-reading : goal.invariant-loop-reading
invariant-loop-reading l = (length l.strip ≡ 12836) × IsMoveCount l.fn.draft l._reading l.fn.before l.moves
