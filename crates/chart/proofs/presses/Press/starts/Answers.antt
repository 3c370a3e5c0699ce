use Rattle.std.proofs.Common.{ap, arith}
use Rattle.chart.specs.declared.items.Item.{Item}
use Rattle.chart.proofs.Entering.{held_small}
use Rattle.chart.proofs.presses.Press.starts.Goals as goal

pub with-starts-requires : goal.with-starts-requires
with-starts-requires c =
    let held = c.requires.complete.items c.loop-at.at (omega (arith, c.requires.inside, c.loop-at-test.true)) in
    omega (arith, (held_small _ _ c.requires.ready _ _ _ _ held).start, ap (λ (t : Item). t.start) c.item.ensures)
