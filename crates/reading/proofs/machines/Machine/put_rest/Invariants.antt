use Rattle.std.proofs.Common.{◌≡◌, ◌≤◌, ◌++◌, map, drop}
use Rattle.language.specs.Book.{right}
use Rattle.language.specs.Machine.{next}
use Rattle.reading.specs.Machines.{awaited, grammar_of}
use Rattle.reading.specs.Stacks.{stacked, SameRoom}
use Rattle.reading.proofs.machines.Machine.put_rest.Given as goal

abbrev pub invariant-loop-place : goal.invariant-loop-place
invariant-loop-place g l =
    (1 ≤ l.place)
    × SameRoom l.initial.second l.second
    × (map awaited (stacked l.second) ≡ map next (drop l.place (right (grammar_of l.self) l.rule)) ++ map awaited (stacked l.initial.second))
