use Rattle.chart.proofs.Spanning.{AdvancedDown}
use Rattle.chart.proofs.presses.Press.is_advanced_at.Given as goal

abbrev pub invariant-loop-rule : goal.invariant-loop-rule
invariant-loop-rule l = record { down : AdvancedDown l.self.settled.now l.self.word l.board l.at l.symbol l.starts l.rule }

abbrev pub decreases-loop-rule : goal.decreases-loop-rule
decreases-loop-rule l = l.rule
