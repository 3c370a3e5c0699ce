use Rattle.std.proofs.Common.{◌∙◌, arith}
use Rattle.booktext.proofs.Meant.{symbol_inside, symbol_outside}
use Rattle.booktext.proofs.texts.TextBookBook.symbol.Goals as goal

pub returns-then-at-min : goal.returns-then-at-min
returns-then-at-min c =
    c.number_on-then-at-min.ensures ∙ symbol_inside c.args.self.now.text.now c.args.rule c.args.at c.rule_line-line.result (omega (arith, c.number_on.ensures)) c.rule_line-line.ensures

pub returns-else-at-min : goal.returns-else-at-min
returns-else-at-min c =
    symbol_outside c.args.self.now.text.now c.args.rule c.args.at c.rule_line-line.result (omega (arith, c.number_on.ensures)) c.rule_line-line.ensures
