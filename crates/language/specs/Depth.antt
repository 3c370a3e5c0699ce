-- How deep the second and the third stack of the machine grow along the moves of a reading.
use Rattle.std.specs.Prelude.{◌≡◌, ℕ, ◌+◌, ◌*◌, ◌≤◌, List, length, take}
use Rattle.std.proofs.Math.Option.{some}
use Rattle.language.specs.Book.{Meaning}
use Rattle.language.specs.Sound.{Sound}
use Rattle.language.specs.Words.{Word}
use Rattle.language.specs.Readings.{Programme}
use Rattle.language.specs.Machine.{State, steps, initial}
use Rattle.language.specs.Moves.{moves, rules}

-- the stacks hold no more than n rules need: the second the start part, and for each rule five symbols and an end mark at
-- most; the third the left side of each
pub record Deep (s : State) (n : ℕ) : Type 0 where
  pub second : length s.second ≤ 1 + 6 * n
  pub third : length s.third ≤ n

-- wherever the first of the moves of a reading lead, in a book that the check accepts
abbrev pub DepthTheorem : Type 0
DepthTheorem =
    (m : Meaning) → Sound m → (ws : List Word) (t : Programme m.grammar ws) (k : ℕ) (s : State)
    → steps m.grammar (some (initial m.grammar ws)) (take k (moves t.reading.by t.reading.children)) ≡ some s → Deep s (rules t.reading)
