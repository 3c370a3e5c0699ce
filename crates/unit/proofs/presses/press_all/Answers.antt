use Rattle.std.proofs.Common.{sym, subst}
use Rattle.unit.proofs.FirstKeys.{IsPressOfFirst, first_more}
use Rattle.unit.proofs.presses.press_all.Goals as goal

pub loop-index-preserved : goal.loop-index-preserved
loop-index-preserved c =
    subst (IsPressOfFirst c.args.draft.now c.press.new.draft c.args.keys.now _ c.args.answers.now) (sym c.write.ensures)
    (first_more c.args.draft.now c.args.keys.now c.args.answers.now c.loop-index.draft c.loop-index.index c.loop-index.answers c.loop-index.invariant c.loop-index-test.true c.press.new.draft c.in_ok-answer.answer c.in_ok-answer.ensures)
