use Rattle.booktext.proofs.Laid.{boxed_set}
use Rattle.booktext.proofs.writes.field_of.Goals as goal

pub returns : goal.returns
returns c = boxed_set c.args.number c.set_right.result c.set_right.new.columns c.set_right.ensures.fitting c.set_right.ensures.set c.set_right.ensures.kept
