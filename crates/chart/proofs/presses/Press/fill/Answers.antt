use Rattle.chart.proofs.Spanning.{filled_more}
use Rattle.chart.proofs.Starting.{starting, recorded_since}
use Rattle.chart.proofs.presses.Press.fill.Goals as goal

pub keys-requires-clause-filling : goal.keys-requires-clause-filling
keys-requires-clause-filling c = starting _ _ c.args.board.now c.unmark.new.self c.requires.kept c.requires.ready c.unmark.ensures

pub returns : goal.returns
returns c =
    let filled = filled_more _ _ c.requires.ready {a = c.unmark.new.self} {b = c.keys.new.board} {c = c.follow.new.board} c.in_ok-keys.ensures.0 c.in_ok-follow.ensures.0 in
    recorded_since _ _ c.args.board.now c.unmark.new.self c.requires.kept c.requires.ready c.unmark.ensures c.follow.new.board c.settle.new.board c.settle.result filled.extends c.settle.ensures
