use Rattle.language.proofs.items_theorem.Goals as goal
use Rattle.language.proofs.Order.Items.{items_theorem}

pub returns : goal.returns
returns c = items_theorem
