use Rattle.wording.proofs.Decided.{word_is}
use Rattle.wording.proofs.theorems.word_theorem.Goals as goal

pub returns : goal.returns
returns c = word_is
