use Rattle.chart.specs.Filling.{Filled}
use Rattle.chart.specs.Records.{record_of}
use Rattle.chart.proofs.Spanning.{AdvancedTo}
use Rattle.chart.proofs.presses.Press.advance_all.Given as goal

abbrev pub invariant-loop-at : goal.invariant-loop-at
invariant-loop-at l =
    record {
      filled : Filled l.self.settled.now l.self.word l.initial.board l.board;
      advanced : AdvancedTo l.self.settled.now l.self.word l.initial.board l.board (record_of l.self.settled.now l.span.start).from l.at l.span.symbol;
    }
