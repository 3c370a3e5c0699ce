use Rattle.std.proofs.Common.{ℕ, ◌<◌, ◌≤◌}
use Rattle.chart.specs.Filling.{AdvancedAt}
use Rattle.chart.proofs.presses.Press.is_advanced.Given as goal

abbrev pub invariant-loop-at : goal.invariant-loop-at
invariant-loop-at l = record { some : 1 ≤ l.at; advanced : (d : ℕ) → 1 ≤ d → d < l.at → AdvancedAt l.self.settled.now l.self.word l.board l.symbol l.starts d }
