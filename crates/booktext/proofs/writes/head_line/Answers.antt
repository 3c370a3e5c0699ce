use Rattle.booktext.proofs.Laid.{head_laid}
use Rattle.booktext.proofs.writes.head_line.Goals as goal

pub returns : goal.returns
returns g c =
    head_laid (g.B.Book.meaning c.args.book.now) _ _ _ _ _ _ _ _ _ c.blank_line-line.ensures c.parts.ensures c.set_field.ensures c.keys.ensures.count c.set_field-2.ensures c.start.ensures c.set_field-3.ensures c.rules.ensures c.set_field-4.ensures
