use Rattle.std.proofs.Common.{refl, arith}
use Rattle.chart.proofs.Marking.{none_past, blank_rows, none_marked}
use Rattle.chart.proofs.marks.Marks.clear.Goals as goal

pub invariant_of-self-in-None : goal.invariant_of-self-in-None
invariant_of-self-in-None c = record { past = none_past }

pub returns-in-Some : goal.returns-in-Some
returns-in-Some c = none_marked _ (λ k. omega (arith, c.args.self.now.past k, c.in-Some.ensures.1))

pub returns-in-None : goal.returns-in-None
returns-in-None c = blank_rows _ refl
