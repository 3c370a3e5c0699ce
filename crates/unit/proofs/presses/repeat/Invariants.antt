use Rattle.unit.proofs.Rounds.{AfterRounds}
use Rattle.unit.proofs.presses.repeat.Given as goal

abbrev pub invariant-loop-round : goal.invariant-loop-round
invariant-loop-round l = AfterRounds l.initial.draft l.draft l.fn.keys l._round l.initial.answers l.answers
