use Rattle.std.proofs.Common.{◌≡◌, get_or, rules}
use Rattle.booktext.specs.Form.{rule_fields}
use Rattle.booktext.proofs.Cut.{line_newline, line_fields}
use Rattle.booktext.proofs.reads.rule_line.Goals as goal

pub returns-in_err-read-in-82 : goal.returns-in_err-read-in-82
returns-in_err-read-in-82 c =
    let is : get_or c.columns_of.result.now 0 0 ≡ 82 = search rules in
    line_newline c.args.text.now _ c.args.line c.columns_of.ensures 82 rule_fields c.from_residual.result _ is c.in_err-read-in-82.ensures.asked c.from_residual.ensures.1

pub returns-in_ok-read-in-82 : goal.returns-in_ok-read-in-82
returns-in_ok-read-in-82 c =
    let is : get_or c.columns_of.result.now 0 0 ≡ 82 = search rules in
    let line = c.in_ok-read-in-82.field-0 in
    line_fields c.args.text.now _ c.args.line c.columns_of.ensures 82 rule_fields c.rule_fields.result line.number line.middle.now is c.in_ok-read-in-82.ensures.asked c.in_ok-read-in-82.ensures.is c.rule_fields.ensures
