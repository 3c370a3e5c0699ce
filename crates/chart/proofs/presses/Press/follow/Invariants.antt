use Rattle.std.proofs.Common.{ℕ, ◌-◌, ◌<◌, ◌≤◌}
use Rattle.chart.specs.Boards.{at_place}
use Rattle.chart.specs.Filling.{Filled, PartsDone, Followed}
use Rattle.chart.specs.Records.{used_of}
use Rattle.chart.proofs.presses.Press.follow.Given as goal

abbrev pub invariant-loop-at : goal.invariant-loop-at
invariant-loop-at l =
    record {
      from : used_of l.self.settled.now ≤ l.at;
      filled : Filled l.self.settled.now l.self.word l.initial.board l.board;
      done : PartsDone l.self.settled.now l.self.word l.board l.parts;
      followed : (q : ℕ) → used_of l.self.settled.now ≤ q → q < l.at → Followed l.self.settled.now l.self.word l.parts (at_place l.board q);
    }

abbrev pub decreases-loop-at : goal.decreases-loop-at
decreases-loop-at l = l.board.limit - l.at
