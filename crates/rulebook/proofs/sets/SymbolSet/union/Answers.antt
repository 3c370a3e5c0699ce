use Rattle.rulebook.proofs.Joining.{holds_either}
use Rattle.rulebook.proofs.sets.SymbolSet.union.Goals as goal

pub returns : goal.returns
returns c = holds_either _ _
