use Rattle.reading.proofs.Choosing.{same_rules}
use Rattle.reading.proofs.Walking.{opens}
use Rattle.reading.proofs.walks.opened.Goals as goal

pub returns : goal.returns
returns c = opens c.book.result.now _ (same_rules c.book.ensures) _ _ _ _ c.choose-choice.result c.choose-choice.ensures c.size.result c.size.ensures
