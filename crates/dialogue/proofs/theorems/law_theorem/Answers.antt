use Rattle.dialogue.proofs.Shown.{law_theorem}
use Rattle.dialogue.proofs.theorems.law_theorem.Goals as goal

pub returns : goal.returns
returns c = law_theorem
