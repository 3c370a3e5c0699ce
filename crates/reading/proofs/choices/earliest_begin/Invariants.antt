use Rattle.std.proofs.Common.{ℕ, ◌<◌, ◌≤◌}
use Rattle.draft.specs.States.{grammar, words}
use Rattle.reading.specs.Choices.{PartBegins}
use Rattle.reading.proofs.choices.earliest_begin.Given as goal

-- it may not begin earlier
abbrev pub invariant-loop-begin : goal.invariant-loop-begin
invariant-loop-begin l = (j : ℕ) → l.fn.start ≤ j → j < l.begin → PartBegins (grammar l.fn.draft) (words l.fn.draft) l.fn.rule l.fn.place l.fn.start l.fn.end j → ⊥
