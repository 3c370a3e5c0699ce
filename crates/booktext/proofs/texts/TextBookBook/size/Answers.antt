use Rattle.std.proofs.Common.{◌∙◌}
use Rattle.booktext.proofs.Meant.{size_answers}
use Rattle.booktext.proofs.texts.TextBookBook.size.Goals as goal

pub returns : goal.returns
returns c = c.number_on.ensures ∙ size_answers c.args.self.now.text.now c.args.rule c.rule_line.result c.rule_line.ensures
