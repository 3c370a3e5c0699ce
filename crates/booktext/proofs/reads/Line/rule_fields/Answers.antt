use Rattle.booktext.specs.Form.{rule_fields}
use Rattle.booktext.proofs.Asking.{asked_err}
use Rattle.booktext.proofs.Cut.{rule_symbol, rule_rest}
use Rattle.booktext.proofs.reads.Line.rule_fields.Goals as goal

pub returns-in_err-numbers : goal.returns-in_err-numbers
returns-in_err-numbers c =
    asked_err (rule_fields c.args.self.now.number c.args.self.now.middle.now) c.from_residual-in_err-numbers.result _ c.from_residual-in_err-numbers.ensures.1
    (rule_symbol c.args.self.now.number c.args.self.now.middle.now c.in_ok-size.size c.min-past.result c.in_ok-size.ensures.is c.min-past.ensures c.in_ok-number_at.ensures.asked c.in_ok-size.ensures.asked _ c.in_err-numbers.ensures)

pub returns : goal.returns
returns c =
    rule_rest c.args.self.now.number c.args.self.now.middle.now c.in_ok-size.size c.min-past.result c.in_ok-size.ensures.is c.min-past.ensures c.in_ok-number_at.ensures.asked c.in_ok-size.ensures.asked
    c.blanks.result c.in_ok-numbers.ensures c.blanks.ensures
