use Rattle.std.proofs.Common.{rules, ◌≤◌, arith}
use Rattle.reading.proofs.Choosing.{same_rules, rule_bounds, none_more}
use Rattle.reading.proofs.choices.lowest_rule.Goals as goal

pub loop-rule-init : goal.loop-rule-init
loop-rule-init c = λ q l f. let b = rule_bounds c.book.result.now _ (same_rules c.book.ensures) _ _ _ _ q f in omega (arith, b.0)

pub returns : goal.returns
returns c = λ q f. let b = rule_bounds c.book.result.now _ (same_rules c.book.ensures) _ _ _ _ q f in c.loop-rule.invariant q (omega (arith, b.1, c.loop-rule-test.false, c.rules-rule-end.ensures)) f

pub returns-else-finishes : goal.returns-else-finishes
returns-else-finishes c =
    let last : c.rules-rule-end.result ≤ c.loop-rule.rule = search rules in
    none_more c.book.result.now _ (same_rules c.book.ensures) _ _ _ _ c.rules-rule-end.result c.loop-rule.rule c.rules-rule-end.ensures last c.loop-rule.invariant c.if-finishes.ensures
