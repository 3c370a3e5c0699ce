-- What stands on the first stack of the machine.
use Rattle.std.specs.Prelude.{◌≡◌, ℕ, List, ◌∷◌, map, drop}
use Rattle.std.proofs.Math.Option.{some}
use Rattle.language.specs.Book.{Grammar}
use Rattle.language.specs.Words.{Word}
use Rattle.language.specs.Machine.{Entry, word, done, State, steps, initial}

-- the last of the words, and at most one part done above them
pub data OnePart (ws : List Word) (es : List Entry) : Type 0 where
  no_part : (k : ℕ) → es ≡ map word (drop k ws) → OnePart ws es
  one_part : (X k : ℕ) → es ≡ done X ∷ map word (drop k ws) → OnePart ws es

-- wherever moves lead, so the first stack needs no room of its own
abbrev pub FirstStackTheorem : Type 0
FirstStackTheorem = (g : Grammar) (ws : List Word) (ns : List ℕ) (s : State) → steps g (some (initial g ws)) ns ≡ some s → OnePart ws s.first
