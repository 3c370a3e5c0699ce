use Rattle.std.proofs.Common.{◌≡◌, ℕ, ◌<◌, ◌≤◌, true}
use Rattle.chart.specs.Boards.{at_place}
use Rattle.chart.specs.Records.{used_of}
use Rattle.chart.specs.Starts.{has_start}
use Rattle.chart.proofs.presses.Press.starts.Given as goal

abbrev pub invariant-loop-at : goal.invariant-loop-at
invariant-loop-at l =
    record { from : used_of l.self.settled.now ≤ l.at; held : (q : ℕ) → used_of l.self.settled.now ≤ q → q < l.at → has_start l.starts (at_place l.board q).start ≡ true }
