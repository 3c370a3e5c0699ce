use Rattle.std.proofs.Common.{length}
use Rattle.draft.specs.States.{words}
use Rattle.unit.specs.Steps.{HoldsPrefix}
use Rattle.unit.proofs.readings.rub_out_to_programme.Given as goal

-- the words held are the first of those before, and no more of these are a programme
abbrev pub invariant-loop-draft : goal.invariant-loop-draft
invariant-loop-draft l = HoldsPrefix l.initial.draft l.draft

-- the words that are still held
abbrev pub decreases-loop-draft : goal.decreases-loop-draft
decreases-loop-draft l = length (words l.draft)
