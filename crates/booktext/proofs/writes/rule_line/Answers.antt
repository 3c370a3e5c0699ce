use Rattle.std.proofs.Common.{arith}
use Rattle.booktext.proofs.Laid.{two_laid, rule_more}
use Rattle.booktext.proofs.writes.rule_line.Goals as goal

pub loop-at-init : goal.loop-at-init
loop-at-init g c = two_laid 82 _ _ _ _ _ _ _ c.blank_line-line.ensures c.left.ensures c.set_field.ensures c.size-size.ensures c.set_field-2.ensures

pub loop-at-preserved : goal.loop-at-preserved
loop-at-preserved g c =
    rule_more (g.B.Book.meaning c.args.book.now).grammar c.args.rule c.loop-at.at c.symbol.result c.loop-at.line c.set_field-in-loop-at.new.line (omega (arith, c.min-at-end.ensures)) c.loop-at.invariant c.symbol.ensures c.set_field-in-loop-at.ensures
