use Rattle.std.proofs.Common.{◌≤◌}
use Rattle.chart.specs.Records.{grammar_of, used_of}
use Rattle.chart.proofs.Arranging.{Gathered}
use Rattle.chart.proofs.presses.Press.gather.Given as goal

abbrev pub invariant-loop-at : goal.invariant-loop-at
invariant-loop-at l = record { from : used_of l.self.settled.now ≤ l.at; gathered : Gathered (grammar_of l.self.settled.now) l.board (used_of l.self.settled.now) l.at l.wanted }
