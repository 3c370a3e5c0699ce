use Rattle.std.proofs.Common.{length}
use Rattle.draft.specs.Law.{SameChart}
use Rattle.draft.specs.States.{words}
use Rattle.unit.proofs.presses.rub_out_all.Given as goal

-- the book and the number of places stay
abbrev pub invariant-loop : goal.invariant-loop
invariant-loop l = SameChart l.initial.draft l.draft

-- the words that are still held
abbrev pub decreases-loop : goal.decreases-loop
decreases-loop l = length (words l.draft)
