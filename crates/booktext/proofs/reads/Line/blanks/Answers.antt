use Rattle.std.proofs.Common.{[], ◌∷◌}
use Rattle.booktext.specs.Text.{field_of}
use Rattle.booktext.specs.Form.{asks_blank}
use Rattle.booktext.proofs.Asking.{asked_err, loop_more, loop_stop}
use Rattle.booktext.proofs.reads.Line.blanks.Goals as goal

pub returns-in_err-blank_at : goal.returns-in_err-blank_at
returns-in_err-blank_at c =
    asked_err _ c.from_residual.result _ c.from_residual.ensures.1
    (loop_stop (λ k. asks_blank c.args.self.now.number k (field_of c.args.self.now.middle.now k) ∷ []) c.args.from 8 c.loop-place.place _ c.loop-place.auto.place c.loop-place-test.true c.loop-place.invariant c.in_err-blank_at.ensures)

pub loop-place-preserved : goal.loop-place-preserved
loop-place-preserved c =
    loop_more (λ k. asks_blank c.args.self.now.number k (field_of c.args.self.now.middle.now k) ∷ []) c.args.from c.loop-place.place c.loop-place.auto.place c.loop-place.invariant c.in_ok-blank_at.ensures
