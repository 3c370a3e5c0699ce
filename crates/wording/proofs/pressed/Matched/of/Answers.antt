use Rattle.wording.proofs.Collected.{none_collected}
use Rattle.wording.proofs.pressed.Matched.of.Goals as goal

pub loop-key-init : goal.loop-key-init
loop-key-init g c = none_collected _ _ c.empty-keys.ensures
