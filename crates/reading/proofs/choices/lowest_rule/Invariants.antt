use Rattle.std.proofs.Common.{ℕ, ◌<◌}
use Rattle.draft.specs.States.{grammar, words}
use Rattle.reading.specs.Choices.{Finishes}
use Rattle.reading.proofs.choices.lowest_rule.Given as goal

-- no lower rule does
abbrev pub invariant-loop-rule : goal.invariant-loop-rule
invariant-loop-rule l = (q : ℕ) → q < l.rule → Finishes (grammar l.fn.draft) (words l.fn.draft) l.fn.part l.fn.start l.fn.end q → ⊥
