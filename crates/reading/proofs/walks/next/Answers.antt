use Rattle.std.proofs.Common.{◌-◌, slice_index, refl, ap, arith}
use Rattle.reading.proofs.Choosing.{same_rules}
use Rattle.reading.proofs.Walking.{safe, told_key, told_part}
use Rattle.reading.proofs.walks.next.Goals as goal

pub bounds-span-from : goal.bounds-span-from
bounds-span-from c = let s = safe c.book-book.result.now _ (same_rules c.book-book.ensures) _ _ c.in_ok-span.span _ c.in_ok-span.ensures.popped c.requires.owed in omega (arith, c.from.ensures, s.some, s.few)

pub mark-requires : goal.mark-requires
mark-requires c = (safe c.book-book.result.now _ (same_rules c.book-book.ensures) _ _ c.in_ok-span.span _ c.in_ok-span.ensures.popped c.requires.owed).small

pub mark-requires-2 : goal.mark-requires-2
mark-requires-2 c = (safe c.book-book.result.now _ (same_rules c.book-book.ensures) _ _ c.in_ok-span.span _ c.in_ok-span.ensures.popped c.requires.owed).small

pub returns-then-symbol-gt-LAST_PART-clause-told : goal.returns-then-symbol-gt-LAST_PART-clause-told
returns-then-symbol-gt-LAST_PART-clause-told c =
    told_key c.book-book.result.now _ (same_rules c.book-book.ensures) _ c.requires.few c.in_ok-span.span _ _ _ c.in_ok-span.ensures.popped (c.in_ok-span.span.done - 1) _ refl (ap (slice_index c.in_ok-span.span.choice.begins) c.from.ensures)
    (λ l. c.shorten.ensures.kept (omega (arith, l, c.in_ok-span.ensures.room.places, c.requires.places)))
    c.symbol-symbol.result c.symbol-symbol.ensures c.mark.result c.mark.ensures c.if-symbol-gt-LAST_PART.true

pub returns-clause-told : goal.returns-clause-told
returns-clause-told c =
    told_part c.book-book.result.now _ (same_rules c.book-book.ensures) _ c.requires.few c.in_ok-span.span _ _ _ c.in_ok-span.ensures.popped (c.in_ok-span.span.done - 1) _ refl (ap (slice_index c.in_ok-span.span.choice.begins) c.from.ensures)
    (λ l. c.shorten.ensures.kept (omega (arith, l, c.in_ok-span.ensures.room.places, c.requires.places)))
    c.symbol-symbol.result c.symbol-symbol.ensures c.mark-2.result c.mark-2.ensures c.opened.result _ c.if-symbol-gt-LAST_PART.false c.opened.ensures
    (λ l. c.keep.ensures.kept (omega (arith, l, c.shorten.ensures.room.places, c.in_ok-span.ensures.room.places, c.requires.places)))
