use Rattle.std.proofs.Common.{◌≡◌, ◌++◌, map, drop, ap, ◌∙◌, arith}
use Rattle.language.specs.Book.{right}
use Rattle.language.specs.Machine.{next}
use Rattle.reading.specs.Machines.{awaited, grammar_of}
use Rattle.reading.specs.Stacks.{stacked}
use Rattle.reading.proofs.machines.Machine.put_rest.Goals as goal

pub returns-clause-pushed : goal.returns-clause-pushed
returns-clause-pushed g c =
    let last : c.loop-place.place ≡ 1 = omega (arith, c.loop-place-test.false, c.loop-place.invariant.0) in
    c.loop-place.invariant.2
    ∙ ap (λ k. map next (drop k (right (grammar_of c.args.self.now) c.args.rule)) ++ map awaited (stacked c.args.second.now)) last
