use Rattle.language.proofs.columns_theorem.Goals as goal
use Rattle.language.proofs.Columns.Theorem.{columns_theorem}

pub returns : goal.returns
returns c = columns_theorem
