use Rattle.std.proofs.Common.{◌∙◌}
use Rattle.booktext.proofs.Meant.{kind_answers}
use Rattle.booktext.proofs.texts.TextBookBook.kind.Goals as goal

pub returns : goal.returns
returns c = c.number_on.ensures ∙ kind_answers c.args.self.now.text.now c.args.key c.key_line.result c.key_line.ensures
