use Rattle.std.proofs.Common.{◌∙◌}
use Rattle.std.proofs.lemmas.Result.{err_from_is_err_and}
use Rattle.unit.specs.Readings.{ReadingsRefuse}
use Rattle.unit.proofs.Rounds.{readings_press, readings_none, readings_made}
use Rattle.unit.proofs.readings.readings.Goals as goal

pub returns-in_err-book-clause-outcome : goal.returns-in_err-book-clause-outcome
returns-in_err-book-clause-outcome c =
    let p = err_from_is_err_and c.from_residual.result c.from_residual.ensures.1 in
    rw (p.1, p.2) (ReadingsRefuse.book c.in_err-book.field-0.0 c.in_err-book.ensures)

pub returns-in_err-press_all-clause-outcome : goal.returns-in_err-press_all-clause-outcome
returns-in_err-press_all-clause-outcome c =
    let p = err_from_is_err_and c.from_residual-in_err-press_all.result c.from_residual-in_err-press_all.ensures.1 in
    rw (p.1, p.2)
    (readings_press c.args.text.now c.in_ok-book.book c.in_ok-book.ensures.0 c.in_ok-book.ensures.1 c.in_ok-draft.draft c.in_ok-draft.ensures c.args.keys.now _ _ c.in_err-press_all.field-0.0 c.in_err-press_all.ensures)

pub returns-in_err-rub_out_to_programme-clause-outcome : goal.returns-in_err-rub_out_to_programme-clause-outcome
returns-in_err-rub_out_to_programme-clause-outcome c =
    let p = err_from_is_err_and c.from_residual-in_err-rub_out_to_programme.result c.from_residual-in_err-rub_out_to_programme.ensures.1 in
    rw (p.1, p.2)
    (readings_none c.args.text.now c.in_ok-book.book c.in_ok-book.ensures.0 c.in_ok-book.ensures.1 c.in_ok-draft.draft c.in_ok-draft.ensures c.args.keys.now _ _ c.press_all.new.draft c.in_ok-press_all.ensures c.in_err-rub_out_to_programme.field-0.0 c.in_err-rub_out_to_programme.ensures)

pub returns-clause-outcome : goal.returns-clause-outcome
returns-clause-outcome c =
    readings_made c.args.text.now c.in_ok-book.book c.in_ok-book.ensures.0 c.in_ok-book.ensures.1 c.in_ok-draft.draft c.in_ok-draft.ensures c.args.keys.now _ _ c.press_all.new.draft c.in_ok-press_all.ensures
    c.rub_out_to_programme.new.draft c.in_ok-rub_out_to_programme.ensures c.from.result (c.from.ensures ∙ c.held.ensures) c.args.count c.in_ok-count_moves.field-0 c.args.size.now c.in_ok-count_moves.ensures
