use Rattle.std.proofs.lemmas.Result.{err_from_is_err_and}
use Rattle.soundbook.proofs.copies.filled.Goals as goal

pub returns-in_err-items : goal.returns-in_err-items
returns-in_err-items g c =
    let p = err_from_is_err_and c.from_residual.result c.from_residual.ensures.1 in
    rw (p.1, p.2) (record { at = c.loop-place.place; inside = c.loop-place-test.true; before = λ i l. (_, c.loop-place.invariant.1 i l); refused = c.in_err-items.ensures })
