use Rattle.chart.proofs.Answered.{match_map}
use Rattle.chart.proofs.Entering.{span_start}
use Rattle.chart.proofs.Spanning.{overfull_more, span_done}
use Rattle.chart.proofs.presses.Press.span.Goals as goal

pub returns : goal.returns
returns c =
    let begun = c.in_ok-begin_all.ensures in
    let start = span_start _ _ c.requires.ready _ _ c.requires.spans in
    match_map c.advance_all.result
    (λ x d. span_done _ _ c.requires.ready c.args.board.now c.begin_all.new.board c.advance_all.new.board c.args.span.symbol c.args.span.start start begun.0 begun.1 d.0 d.1)
    (λ x d. overfull_more _ _ c.requires.ready begun.0.extends d) c.advance_all.ensures
