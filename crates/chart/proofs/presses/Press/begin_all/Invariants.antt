use Rattle.chart.specs.Filling.{Filled}
use Rattle.chart.proofs.Spanning.{BegunDown}
use Rattle.chart.proofs.presses.Press.begin_all.Given as goal

abbrev pub invariant-loop-rule : goal.invariant-loop-rule
invariant-loop-rule l =
    record {
      filled : Filled l.self.settled.now l.self.word l.initial.board l.board;
      down : BegunDown l.self.settled.now l.self.word l.board l.span.symbol l.span.start l.rule;
    }

abbrev pub decreases-loop-rule : goal.decreases-loop-rule
decreases-loop-rule l = l.rule
