use Rattle.std.proofs.Common.{refl, arith}
use Rattle.language.specs.Book.{kind, spelling}
use Rattle.booktext.specs.Written.{boxed}
use Rattle.booktext.proofs.Laid.{two_laid, spread_more, key_all, boxed_length}
use Rattle.booktext.proofs.writes.key_line.Goals as goal

pub loop-at-init : goal.loop-at-init
loop-at-init g c = two_laid 75 _ _ _ _ _ _ _ c.blank_line-line.ensures refl c.set_field.ensures c.kind.ensures c.set_field-2.ensures

pub loop-at-preserved : goal.loop-at-preserved
loop-at-preserved g c =
    let m = (g.B.Book.meaning c.args.book.now).forms in
    spread_more (boxed c.args.key) (boxed (kind m c.args.key)) (spelling m c.args.key) c.loop-at.line c.loop-at.at c.from.result c.spelling_byte.result
    (boxed_length _) (boxed_length _) (omega (arith, c.min-at-end.ensures, c.spelling_len.ensures)) (omega (arith, c.min-at-end.ensures)) c.from.ensures c.spelling_byte.ensures c.loop-at.invariant

pub returns : goal.returns
returns g c = key_all (g.B.Book.meaning c.args.book.now).forms c.args.key c.loop-at.at c.loop-at.line (omega (arith, c.min-at-end.ensures, c.spelling_len.ensures)) c.loop-at.invariant
