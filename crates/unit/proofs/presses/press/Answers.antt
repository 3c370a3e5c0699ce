use Rattle.std.proofs.Common.{length}
use Rattle.std.proofs.lemmas.Result.{err_from_is_err_and}
use Rattle.draft.specs.States.{words}
use Rattle.unit.proofs.Keys.{key_pressed, refused_only}
use Rattle.unit.proofs.presses.press.Goals as goal

pub returns-in_err-items : goal.returns-in_err-items
returns-in_err-items c =
    let p = err_from_is_err_and c.from_residual.result c.from_residual.ensures.1 in
    rw (p.1, p.2)
    (refused_only c.args.draft.now.book (length c.args.draft.now.places) (words c.args.draft.now) c.args.key c.in_err-items.field-0.0 c.in_err-items.ensures.cases.refused)

pub returns : goal.returns
returns c = key_pressed c.args.draft.now c.press.new.self c.args.key c.in_ok-items.items c.lit-lit.result c.in_ok-items.ensures.cases c.lit-lit.ensures.lawful c.lit-lit.ensures.lit
