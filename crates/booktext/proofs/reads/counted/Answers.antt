use Rattle.std.proofs.Common.{refl, inl, arith}
use Rattle.booktext.proofs.Meant.{text_rules, text_keys}
use Rattle.booktext.proofs.reads.counted.Goals as goal

pub returns-then-book-written_len : goal.returns-then-book-written_len
returns-then-book-written_len c =
    let t = c.args.book.now.text.now in
    (omega (arith, c.if-book-written_len.true, c.written_len.ensures, text_rules t, text_keys t), tt)

pub returns-else-book-written_len : goal.returns-else-book-written_len
returns-else-book-written_len c =
    let t = c.args.book.now.text.now in
    inl ((λ e. c.if-book-written_len.false (omega (arith, e, c.written_len.ensures, text_rules t, text_keys t))), refl)
