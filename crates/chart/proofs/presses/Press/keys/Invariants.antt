use Rattle.std.proofs.Common.{◌≡◌, ℕ, ◌+◌, ◌<◌, ◌≤◌}
use Rattle.chart.specs.Filling.{Filled, KeyDone}
use Rattle.chart.specs.Records.{grammar_of}
use Rattle.chart.proofs.presses.Press.keys.Given as goal

abbrev pub invariant-loop-place : goal.invariant-loop-place
invariant-loop-place l =
    record {
      end : l.place-end ≡ (grammar_of l.self.settled.now).keys;
      filled : Filled l.self.settled.now l.self.word l.initial.board l.board;
      done : (c : ℕ) → 33 ≤ c → c < 33 + l.place → KeyDone l.self.settled.now l.self.word l.board c;
    }
