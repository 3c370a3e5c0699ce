use Rattle.unit.proofs.FirstKeys.{IsPressOfFirst}
use Rattle.unit.proofs.presses.press_all.Given as goal

abbrev pub invariant-loop-index : goal.invariant-loop-index
invariant-loop-index l = IsPressOfFirst l.initial.draft l.draft l.fn.keys l.index l.initial.answers l.answers
