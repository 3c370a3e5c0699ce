use Rattle.booktext.specs.Text.{text_meaning}
use Rattle.booktext.proofs.texts.TextBookBook.start.Goals as goal

pub returns : goal.returns
unfolding text_meaning
returns c = c.number_at.ensures
