use Rattle.chart.specs.Sifting.{Sifted}
use Rattle.chart.proofs.presses.Press.sift.Given as goal

abbrev pub invariant-loop-at : goal.invariant-loop-at
invariant-loop-at l = Sifted l.self.settled.now l.self.word l.initial.board l.board l.waiting l.at
