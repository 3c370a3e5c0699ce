use Rattle.std.proofs.Common.{◌≤◌, sym, subst, arith}
use Rattle.chart.proofs.Entering.{plain_of, filled_itself, span_start}
use Rattle.chart.proofs.Spanning.{BegunDown, filled_more, begun_more, span_high, down_start, down_next}
use Rattle.chart.specs.Indexes.{LastBelow}
use Rattle.chart.proofs.presses.Press.begin_all.Goals as goal

pub last-rule-requires-clause-symbol : goal.last-rule-requires-clause-symbol
last-rule-requires-clause-symbol c = span_high _ _ c.requires.ready _ _ _ c.requires.spans

pub loop-rule-init : goal.loop-rule-init
loop-rule-init c =
    let high = span_high _ _ c.requires.ready _ _ _ c.requires.spans in
    record {
      filled = filled_itself _ _ c.requires.ready _ c.requires.filling;
      down = down_start _ 0 _ _ _ (subst (LastBelow _ 0 _ _) (sym c.last-rule.ensures) ((c.requires.ready.index.chains 0 (omega arith)).last c.args.span.symbol high));
    }

pub begin_rule-requires-clause-filling : goal.begin_rule-requires-clause-filling
begin_rule-requires-clause-filling c = c.loop-rule.invariant.filled.filling

pub begin_rule-requires-clause-numbered : goal.begin_rule-requires-clause-numbered
begin_rule-requires-clause-numbered c = c.loop-rule.invariant.down.numbered (omega arith)

pub begin_rule-requires-clause-first : goal.begin_rule-requires-clause-first
begin_rule-requires-clause-first c = c.loop-rule.invariant.down.here (omega arith)

pub before-rule-requires-clause-rule : goal.before-rule-requires-clause-rule
before-rule-requires-clause-rule c = omega (arith, (c.loop-rule.invariant.down.numbered (omega arith)).high, (plain_of c.args.self.now.settled.now).few_rules)

pub loop-rule-smaller : goal.loop-rule-smaller
loop-rule-smaller c =
    let some : 1 ≤ c.loop-rule.rule = omega arith in
    let high = (c.loop-rule.invariant.down.numbered some).high in
    let last = (c.requires.ready.index.chains 0 (omega arith)).before c.loop-rule.rule some (omega arith) in
    omega (arith, last.below, c.before-rule.ensures)

pub loop-rule-preserved : goal.loop-rule-preserved
loop-rule-preserved c =
    let some : 1 ≤ c.loop-rule.rule = omega arith in
    let high = (c.loop-rule.invariant.down.numbered some).high in
    let last = (c.requires.ready.index.chains 0 (omega arith)).before c.loop-rule.rule some (omega arith) in
    let start = span_start _ _ c.requires.ready _ _ c.requires.spans in
    record {
      filled = filled_more _ _ c.requires.ready c.loop-rule.invariant.filled c.in_ok-begin_rule.ensures.0;
      down = down_next _ 0 _ _ _ c.loop-rule.rule _ (λ p n. begun_more _ _ c.requires.ready p c.args.span.start n start c.in_ok-begin_rule.ensures.0.extends) c.loop-rule.invariant.down some c.in_ok-begin_rule.ensures.1 (subst (LastBelow _ 0 _ _) (sym c.before-rule.ensures) last);
    }

pub returns : goal.returns
returns c =
    let down = subst (BegunDown c.args.self.now.settled.now c.args.self.now.word c.loop-rule.board c.args.span.symbol c.args.span.start) (omega arith) c.loop-rule.invariant.down in
    (c.loop-rule.invariant.filled, λ r n first. down.done r n.low n first)
