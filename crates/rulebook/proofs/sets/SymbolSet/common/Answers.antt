use Rattle.rulebook.proofs.Joining.{holds_both}
use Rattle.rulebook.proofs.sets.SymbolSet.common.Goals as goal

pub returns : goal.returns
returns c = holds_both _ _
