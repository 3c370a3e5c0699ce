use Rattle.std.proofs.Common.{subst, arith}
use Rattle.unit.specs.Steps.{IsMoveCount}
use Rattle.unit.proofs.readings.count_moves.Goals as goal

pub returns : goal.returns
returns c = subst (λ n. IsMoveCount c.args.draft.now n c.args.before c.loop-reading.moves) (omega (arith, c.loop-reading-test.false, c.loop-reading.auto._reading-end)) c.loop-reading.invariant.1
