use Rattle.std.proofs.Common.{◌≡◌, ◌-◌, subst, arith}
use Rattle.std.specs.List.{range_with_len, flat_map}
use Rattle.booktext.specs.Text.{number_at}
use Rattle.booktext.specs.Form.{AllYes, rule_questions}
use Rattle.booktext.proofs.Asking.{asked_err, no_at, loop_more}
use Rattle.booktext.proofs.Meant.{text_rules}
use Rattle.booktext.proofs.reads.rule_lines.Goals as goal

pub returns-in_err-rule_line : goal.returns-in_err-rule_line
returns-in_err-rule_line c =
    let t = c.args.book.now.text.now in
    asked_err (flat_map (rule_questions t) (range_with_len 1 (number_at t 0 3))) c.from_residual.result _ c.from_residual.ensures.1
    (no_at (rule_questions t) 1 (c.loop-line.line - 1) (number_at t 0 3) c.loop-line.line _ (omega arith) (omega (arith, c.rules.ensures, text_rules t)) c.loop-line.invariant c.in_err-rule_line.ensures)

pub loop-line-preserved : goal.loop-line-preserved
loop-line-preserved c = loop_more (rule_questions c.args.book.now.text.now) 1 c.loop-line.line c.loop-line.auto.line c.loop-line.invariant c.in_ok-rule_line.ensures

pub returns : goal.returns
returns c =
    let t = c.args.book.now.text.now in
    let all : c.loop-line.line - 1 ≡ number_at t 0 3 = omega (arith, c.rules.ensures, text_rules t) in
    subst (λ n. AllYes (flat_map (rule_questions t) (range_with_len 1 n))) all c.loop-line.invariant
