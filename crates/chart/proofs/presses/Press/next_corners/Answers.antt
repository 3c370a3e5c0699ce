use Rattle.std.proofs.Common.{arith}
use Rattle.chart.proofs.Entering.{plain_of}
use Rattle.chart.proofs.Arranging.{corners_next, corners_none}
use Rattle.chart.proofs.presses.Press.next_corners.Goals as goal

pub returns-then-item-size : goal.returns-then-item-size
returns-then-item-size c = corners_none _ _ c.requires.ready c.args.item.now (omega (arith, c.size.ensures, c.if-item-size.true))

pub corners-requires : goal.corners-requires
corners-requires c =
    omega (arith, c.symbol-next.ensures, (plain_of c.args.self.now.settled.now).symbol_high c.args.item.now.rule c.args.item.now.done c.requires.numbered (omega (arith, c.size.ensures, c.if-item-size.false)))

pub returns : goal.returns
returns c = corners_next _ _ c.requires.ready c.args.item.now _ c.corners.result c.requires.numbered (omega (arith, c.size.ensures, c.if-item-size.false)) c.symbol-next.ensures c.corners.ensures
