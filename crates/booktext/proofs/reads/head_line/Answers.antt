use Rattle.std.proofs.Common.{◌≡◌, get_or, rules, ◌++◌}
use Rattle.booktext.specs.Form.{numbers, blanks}
use Rattle.booktext.proofs.Cut.{line_newline, line_fields}
use Rattle.booktext.proofs.reads.head_line.Goals as goal

pub returns-in_err-read-in-72 : goal.returns-in_err-read-in-72
returns-in_err-read-in-72 c =
    let is : get_or c.columns_of.result.now 0 0 ≡ 72 = search rules in
    line_newline c.args.text.now _ 0 c.columns_of.ensures 72 (λ n m. numbers n m 0 4 ++ blanks n m 4 4) c.from_residual.result _ is c.in_err-read-in-72.ensures.asked c.from_residual.ensures.1

pub returns-in_ok-read-in-72 : goal.returns-in_ok-read-in-72
returns-in_ok-read-in-72 c =
    let is : get_or c.columns_of.result.now 0 0 ≡ 72 = search rules in
    let line = c.in_ok-read-in-72.field-0 in
    line_fields c.args.text.now _ 0 c.columns_of.ensures 72 (λ n m. numbers n m 0 4 ++ blanks n m 4 4) c.head_fields.result line.number line.middle.now is c.in_ok-read-in-72.ensures.asked c.in_ok-read-in-72.ensures.is c.head_fields.ensures
