use Rattle.std.proofs.Common.{rules, sym, ◌∙◌, arith}
use Rattle.std.proofs.lemmas.Result.{err_from_is_err_and}
use Rattle.soundbook.specs.Refusals.{RuleRefused}
use Rattle.soundbook.proofs.Copying.{is_part, not_part, rule_refused, rule_read}
use Rattle.soundbook.proofs.copies.Source.rule.Goals as goal

pub returns-then-not-is_part : goal.returns-then-not-is_part
returns-then-not-is_part g c = rw c.from-number.ensures (RuleRefused.left (not_part c.is_part.ensures c.if-not-is_part.true c.left-left.ensures))

pub returns-then-size-eq0 : goal.returns-then-size-eq0
returns-then-size-eq0 g c = rw c.from-number.ensures (RuleRefused.empty (is_part c.is_part.ensures c.if-not-is_part.false c.left-left.ensures) (sym c.size-size.ensures ∙ c.if-size-eq0.true))

pub returns-then-size-gt6 : goal.returns-then-size-gt6
returns-then-size-gt6 g c = rw c.from-number.ensures (RuleRefused.long (is_part c.is_part.ensures c.if-not-is_part.false c.left-left.ensures) (omega (arith, c.size-size.ensures)))

pub returns-in_err-body : goal.returns-in_err-body
returns-in_err-body g c =
    let p = err_from_is_err_and c.from_residual.result c.from_residual.ensures.1 in
    rw (p.1, p.2) (rule_refused _ _ c.in_err-body.ensures (is_part c.is_part.ensures c.if-not-is_part.false c.left-left.ensures) c.size-size.ensures (omega arith) (omega arith)
    (λ i x l r. search rules) (λ i f l r. search rules))

pub returns : goal.returns
returns g c =
    rule_read _ _ (record { left = c.left-left.result; body = c.in_ok-body.body }) c.in_ok-body.ensures (λ i x l r. search rules)
    (is_part c.is_part.ensures c.if-not-is_part.false c.left-left.ensures) c.left-left.ensures c.size-size.ensures (omega arith) (omega arith)
