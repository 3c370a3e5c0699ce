use Rattle.std.proofs.lemmas.Result.{err_from_is_err_and}
use Rattle.unit.proofs.Rounds.{rounds_made, rounds_fail}
use Rattle.unit.proofs.presses.rounds.Goals as goal

pub returns-in_err-repeat : goal.returns-in_err-repeat
returns-in_err-repeat c =
    let p = err_from_is_err_and c.from_residual-in_err-repeat.result c.from_residual-in_err-repeat.ensures.1 in
    rw (p.1, p.2)
    (rounds_fail c.args.text.now c.in_ok-book.book c.in_ok-book.ensures.0 c.in_ok-book.ensures.1 c.in_ok-draft.draft c.in_ok-draft.ensures c.args.keys.now c.args.count c.args.answers.now c.repeat.new.answers c.in_err-repeat.field-0.0 c.in_err-repeat.ensures.0 c.in_err-repeat.ensures.1)

pub returns : goal.returns
returns c =
    rounds_made c.args.text.now c.in_ok-book.book c.in_ok-book.ensures.0 c.in_ok-book.ensures.1 c.in_ok-draft.draft c.in_ok-draft.ensures c.args.keys.now c.args.count c.args.answers.now c.repeat.new.answers c.in_ok-repeat.ensures
