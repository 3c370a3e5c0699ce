use Rattle.std.proofs.Common.{◌∙◌}
use Rattle.booktext.proofs.Meant.{left_answers}
use Rattle.booktext.proofs.texts.TextBookBook.left.Goals as goal

pub returns : goal.returns
returns c = c.number_on.ensures ∙ left_answers c.args.self.now.text.now c.args.rule c.rule_line.result c.rule_line.ensures
