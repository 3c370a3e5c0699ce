use Rattle.std.proofs.Common.{arith}
use Rattle.std.proofs.lemmas.Bool.{both_ways}
use Rattle.chart.proofs.Entering.{filled_itself}
use Rattle.chart.proofs.Following.{none_known, keys_more, all_stand}
use Rattle.chart.proofs.presses.Press.follow.Goals as goal

pub loop-at-init : goal.loop-at-init
loop-at-init c = record {
  from = omega (arith, c.used-at.ensures);
  filled = filled_itself _ _ c.requires.ready _ c.requires.filling;
  done = λ X i l h. absurd (both_ways _ (none_known X i) h);
  followed = λ q low high. absurd (omega (arith, c.used-at.ensures));
}

pub returns : goal.returns
returns c = (c.loop-at.invariant.filled, all_stand _ _ c.requires.ready c.loop-at.board c.loop-at.invariant.filled.filling (keys_more _ _ c.requires.ready {a = c.args.board.now} {b = c.loop-at.board} c.loop-at.invariant.filled.extends c.requires.keys) c.loop-at.parts c.loop-at.invariant.done (λ q low high. c.loop-at.invariant.followed q low (omega (arith, c.loop-at-test.false))))
