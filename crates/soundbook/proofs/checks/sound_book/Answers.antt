use Rattle.std.proofs.Common.{subst}
use Rattle.std.proofs.lemmas.Result.{err_from_is_err_and}
use Rattle.language.specs.Book.{Part}
use Rattle.language.specs.Closure.{Productive, UnitPath}
use Rattle.soundbook.specs.Refusals.{Lowest, Refused}
use Rattle.soundbook.proofs.Refusing.{check_refuses}
use Rattle.soundbook.proofs.checks.sound_book.Goals as goal

pub returns-in_err-formed : goal.returns-in_err-formed
returns-in_err-formed g c =
    let p = err_from_is_err_and c.from_residual.result c.from_residual.ensures.1 in
    rw (p.1, p.2) (check_refuses _ (Refused.copy c.in_err-formed.ensures))

pub returns-in-Some : goal.returns-in-Some
returns-in-Some g c =
    let same = c.in_ok-formed.ensures in
    rw c.from.ensures (check_refuses _ (Refused.unproductive same.1 (subst (λ m. Lowest m.grammar (Productive m.grammar) c.in-Some.part) same.0 c.in-Some.ensures)))

pub returns-in-Some-cyclic : goal.returns-in-Some-cyclic
returns-in-Some-cyclic g c =
    let same = c.in_ok-formed.ensures in
    rw c.from-in-Some-cyclic.ensures (check_refuses _ (Refused.cyclic same.1 (subst (λ m. (X : _) → Part m.grammar X → Productive m.grammar X) same.0 c.in_default.ensures)
    (subst (λ m. Lowest m.grammar (λ X. UnitPath m.grammar X X → ⊥) c.in-Some-cyclic.part) same.0 c.in-Some-cyclic.ensures)))
