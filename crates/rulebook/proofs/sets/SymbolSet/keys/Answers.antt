use Rattle.rulebook.proofs.Joining.{holds_keys}
use Rattle.rulebook.proofs.sets.SymbolSet.keys.Goals as goal

pub returns : goal.returns
returns c = holds_keys
