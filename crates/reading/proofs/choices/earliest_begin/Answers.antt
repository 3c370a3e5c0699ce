use Rattle.std.proofs.Common.{refl, arith}
use Rattle.reading.proofs.Choosing.{same_rules, key_begins, found_first, found_some}
use Rattle.reading.proofs.choices.earliest_begin.Goals as goal

pub returns-then-symbol-gt-LAST_PART : goal.returns-then-symbol-gt-LAST_PART
returns-then-symbol-gt-LAST_PART c = λ b first.
    omega (arith, key_begins c.book.result.now _ (same_rules c.book.ensures) _ _ _ _ _ b first c.symbol.result c.symbol.ensures c.if-symbol-gt-LAST_PART.true, c.saturating_sub.ensures)

pub returns-then-begins : goal.returns-then-begins
returns-then-begins c = λ b first.
    found_first c.book.result.now _ (same_rules c.book.ensures) _ _ _ _ _ b first c.symbol.result c.symbol.ensures c.loop-begin.begin (omega (arith, c.if-symbol-gt-LAST_PART.false)) c.loop-begin.invariant (c.if-begins.ensures.0 refl)

pub returns : goal.returns
returns c = λ b first.
    absurd (found_some c.book.result.now _ (same_rules c.book.ensures) _ _ _ _ _ b first c.symbol.result c.symbol.ensures (omega (arith, c.if-symbol-gt-LAST_PART.false)) (λ j low high. c.loop-begin.invariant j low (omega (arith, c.loop-begin-test.false))))
