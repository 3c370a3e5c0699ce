use Rattle.std.proofs.Common.{arith}
use Rattle.std.proofs.lemmas.Result.{err_from_is_err_and}
use Rattle.unit.proofs.Rounds.{rounds_refused}
use Rattle.unit.proofs.presses.repeat.Goals as goal

pub returns-in_err-press_all : goal.returns-in_err-press_all
returns-in_err-press_all c =
    let p = err_from_is_err_and c.from_residual.result c.from_residual.ensures.1 in
    rw (p.1, p.2) (
      omega (arith, c.loop-round-test.true),
      rounds_refused c.args.draft.now c.args.keys.now c.args.answers.now c.loop-round.draft c.loop-round._round c.loop-round.answers c.loop-round.invariant c.press_all.new.answers c.in_err-press_all.field-0.0 c.in_err-press_all.ensures,
    )
