use Rattle.std.proofs.Common.{◌≡◌, ◌≤◌, ◌∙◌, ap, get_or, add-one, arith}
use Rattle.chart.specs.Records.{blank_record}
use Rattle.chart.proofs.Entering.{filled_itself, span_start}
use Rattle.chart.proofs.Spanning.{filled_more, span_low, span_high, advanced_known, advanced_next, advanced_all, advanced_none}
use Rattle.chart.proofs.presses.Press.advance_all.Goals as goal

pub returns-in_default : goal.returns-in_default
returns-in_default c =
    let e : c.args.span.start ≡ 0 = omega arith in
    (filled_itself _ _ c.requires.ready _ c.requires.filling, advanced_none _ _ c.requires.ready c.args.board.now c.args.span.symbol c.args.span.start e)

pub is_advanced-requires-clause-symbol : goal.is_advanced-requires-clause-symbol
is_advanced-requires-clause-symbol c = span_high _ _ c.requires.ready _ _ _ c.requires.spans

pub returns-then-is_advanced : goal.returns-then-is_advanced
returns-then-is_advanced c =
    let start = span_start _ _ c.requires.ready _ _ c.requires.spans in
    let some : 1 ≤ c.args.span.start = omega (arith, c.in-Some.ensures) in
    let place = ap (λ j. (get_or c.args.self.now.settled.now.records j blank_record).starts) (c.from.ensures ∙ c.in-Some.ensures.1) in
    (filled_itself _ _ c.requires.ready _ c.requires.filling, advanced_known _ _ c.requires.ready c.args.board.now c.args.span.start c.args.span.symbol _ c.requires.filling some start place (c.is_advanced.ensures c.if-is_advanced.true))

pub bounds-self-from : goal.bounds-self-from
bounds-self-from c = omega (arith, c.in-Some.ensures, span_start _ _ c.requires.ready _ _ c.requires.spans, c.requires.ready.few)

pub loop-at-preserved : goal.loop-at-preserved
loop-at-preserved c =
    let start = span_start _ _ c.requires.ready _ _ c.requires.spans in
    let some : 1 ≤ c.args.span.start = omega (arith, c.in-Some.ensures) in
    let place = ap (λ j. (get_or c.args.self.now.settled.now.records j blank_record).waiting) (c.from.ensures ∙ c.in-Some.ensures.1) in
    record {
      filled = filled_more _ _ c.requires.ready c.loop-at.invariant.filled c.in_ok-advance_item.ensures.0;
      advanced = rw add-one (advanced_next _ _ c.requires.ready {a = c.loop-at.board} {b = c.advance_item.new.board} c.args.board.now c.args.span.start c.loop-at.at c.args.span.symbol c.requires.filling some start (omega (arith, place, c.loop-at-test.true)) (span_low _ _ c.requires.ready _ _ _ c.requires.spans) c.loop-at.invariant.filled.extends c.in_ok-advance_item.ensures.0.extends c.loop-at.invariant.advanced c.in_ok-advance_item.ensures.1);
    }

pub returns : goal.returns
returns c =
    let place = ap (λ j. (get_or c.args.self.now.settled.now.records j blank_record).waiting) (c.from.ensures ∙ c.in-Some.ensures.1) in
    (c.loop-at.invariant.filled, advanced_all _ _ c.requires.ready c.args.board.now c.loop-at.board c.args.span.start c.args.span.symbol c.requires.filling (span_start _ _ c.requires.ready _ _ c.requires.spans) (λ q low high. c.loop-at.invariant.advanced q low (omega (arith, place, c.loop-at-test.false))))
