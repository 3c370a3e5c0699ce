use Rattle.std.proofs.Common.{◌≡◌, ◌<◌, subst, arith}
use Rattle.reading.proofs.Choosing.{same_rules, few_symbols}
use Rattle.reading.proofs.Placing.{Placed, placed_first, placed_start, placed_next}
use Rattle.reading.proofs.choices.beginnings.Goals as goal

pub loop-place-init : goal.loop-place-init
loop-place-init c = λ ks all many ends. placed_start c.book.result.now _ (same_rules c.book.ensures) _ _ _ ks all _ _ c.size-place.ensures many ends

pub bounds-begins-from : goal.bounds-begins-from
bounds-begins-from c = omega (arith, c.from.ensures, c.loop-place-test.true, c.loop-place.auto.place, c.size-place.ensures, few_symbols c.book.result.now c.args.rule)

pub loop-place-preserved : goal.loop-place-preserved
loop-place-preserved c = λ ks all many ends.
    let small : c.from.result < 6 = omega (arith, c.from.ensures, c.loop-place-test.true, c.loop-place.auto.place, c.size-place.ensures, few_symbols c.book.result.now c.args.rule) in
    placed_next c.book.result.now _ (same_rules c.book.ensures) _ _ _ ks all _ _ _ _ _ (c.loop-place.invariant ks all many ends) c.loop-place-test.true c.from.ensures small c.earliest_begin-until.ensures

pub returns : goal.returns
returns c = λ ks all many ends.
    let p = c.loop-place.invariant ks all many ends in
    let one : c.loop-place.place ≡ 1 = omega (arith, p.some, c.loop-place-test.false) in
    placed_first _ ks _ _ (subst (λ n. Placed c.args.start ks c.loop-place.until n c.loop-place.begins) one p)
