use Rattle.std.proofs.Common.{◌≡◌, suc, ◌≤◌, subst, arith}
use Rattle.chart.specs.States.{Stands}
use Rattle.chart.proofs.Changing.{rubbed_kept, rubbed}
use Rattle.chart.proofs.Seen.{stands}
use Rattle.chart.proofs.drafts.Draft.rub_out.Goals as goal

pub returns-in_default-clause-stands : goal.returns-in_default-clause-stands
returns-in_default-clause-stands c = subst Stands c.self.view_is (stands c.self.inside.settled c.self.inside.board c.self.invariant)

pub invariant_of-self : goal.invariant_of-self
invariant_of-self c =
    let some : c.self.inside.settled.held ≡ suc c.in-Some.last = omega (arith, c.in-Some.ensures) in
    rubbed_kept c.self.inside.settled c.self.inside.board c.cut.new.self c.self.invariant c.in-Some.last c.from-place.result _ c.from-place.ensures some c.cut.ensures

pub returns-clause-stands : goal.returns-clause-stands
returns-clause-stands c =
    let some : c.self.inside.settled.held ≡ suc c.in-Some.last = omega (arith, c.in-Some.ensures) in
    let few : c.in-Some.last ≤ 100 = omega (arith, c.self.inside.settled.few) in
    (rubbed c.self.inside.settled c.self.inside.board c.cut.new.self c.self.invariant c.in-Some.last c.from-place.result few c.from-place.ensures some c.cut.ensures _ c.self.view_is).0

pub returns-clause-cases : goal.returns-clause-cases
returns-clause-cases c =
    let some : c.self.inside.settled.held ≡ suc c.in-Some.last = omega (arith, c.in-Some.ensures) in
    let few : c.in-Some.last ≤ 100 = omega (arith, c.self.inside.settled.few) in
    (rubbed c.self.inside.settled c.self.inside.board c.cut.new.self c.self.invariant c.in-Some.last c.from-place.result few c.from-place.ensures some c.cut.ensures _ c.self.view_is).1
