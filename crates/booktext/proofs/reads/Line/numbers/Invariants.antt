use Rattle.std.proofs.Common.{◌-◌}
use Rattle.booktext.specs.Form.{AllYes, numbers}
use Rattle.booktext.proofs.reads.Line.numbers.Given as goal

abbrev pub invariant-loop-place : goal.invariant-loop-place
invariant-loop-place l = AllYes (numbers l.self.number l.self.middle.now l.from (l.place - l.from))
