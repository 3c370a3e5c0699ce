use Rattle.chart.proofs.Marking.{none_past}
use Rattle.chart.proofs.boards.Board.over.Goals as goal

pub invariant_of-board : goal.invariant_of-board
invariant_of-board c = record { past = none_past }
