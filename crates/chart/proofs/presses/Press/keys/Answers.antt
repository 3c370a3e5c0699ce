use Rattle.std.proofs.Common.{◌+◌, arith}
use Rattle.chart.proofs.Following.{keys_next}
use Rattle.chart.proofs.Spanning.{filled_more}
use Rattle.chart.proofs.presses.Press.keys.Goals as goal

pub loop-place-preserved : goal.loop-place-preserved
loop-place-preserved c = record {
  end = c.keys-place-end.ensures.count;
  filled = filled_more _ _ c.requires.ready c.loop-place.invariant.filled c.in_ok-key.ensures.0;
  done = keys_next _ _ c.requires.ready {a = c.loop-place.board} {b = c.key.new.board} (33 + c.loop-place.place) (33 + (c.loop-place.place + 1)) c.in_ok-key.ensures.0.extends c.loop-place.invariant.done (omega arith) c.in_ok-key.ensures.1;
}
