-- What a reading of the words held answers, and what it leaves on the strip.
use Rattle.std.specs.Prelude.{◌≡◌, ℕ, ◌+◌, ◌*◌, ◌<◌, ◌≤◌, List, [], ◌∷◌, ◌++◌, length, take, drop}
use Rattle.std.proofs.Math.Option.{some}
use Rattle.language.specs.Book.{Grammar}
use Rattle.language.specs.Words.{Word}
use Rattle.language.specs.Readings.{Programme}
use Rattle.language.specs.Machine.{State, steps, initial}
use Rattle.language.specs.Depth.{Deep}
use Rattle.language.specs.Moves.{moves, inner, rules, MovesAre}
use Rattle.language.specs.Order.{First}
use Rattle.rulebook.specs.declared.faults.Fault.{Fault}
use Rattle.rulebook.specs.declared.faults.Fault.TheVariants.{NotWhole, StripShort}
use Rattle.reading.specs.Replays.{Rooms, ReplayAccepted}
use Rattle.reading.specs.Walks.{Owed}
use Rattle.reading.specs.declared.walks.Open.{Open}
use Rattle.reading.specs.declared.readings.Written.{Written}

-- the moves of the first reading of a programme
abbrev pub moves_of : {g : Grammar} {ws : List Word} → First g g.start ws → List ℕ
moves_of t = moves t.reads.reading.by t.reads.reading.children

-- how many rules the first reading has
abbrev pub rules_of : {g : Grammar} {ws : List Word} → First g g.start ws → ℕ
rules_of t = rules t.reads.reading

-- the moves of the first reading of the words stand at the front of the strip, and nothing else of it is changed; the answer
-- gives their number, and a depth that the second stack never exceeds; replay accepts them with that much room and a place
-- for each rule
pub record ReadingWritten (g : Grammar) (ws : List Word) (old new : List ℕ) (w : Written) : Type 0 where
  pub first : First g g.start ws
  pub fits : length (moves_of first) ≤ length old
  pub strip : new ≡ moves_of first ++ drop (length (moves_of first)) old
  pub many : w.moves ≡ length (moves_of first)
  pub exact : w.moves ≡ 2 * rules_of first + length ws
  pub deep : (k : ℕ) (s : State) → steps g (some (initial g ws)) (take k (moves_of first)) ≡ some s → length s.second ≤ w.depth
  pub not_deeper : w.depth ≤ 1 + 6 * rules_of first
  pub accepted : (room : Rooms) → w.depth ≤ room.second → rules_of first ≤ room.third → ReplayAccepted g ws room (moves_of first)

-- the first question answered no: the words are no programme; the strip has too few places for the moves of their first reading
pub data ReadingRefused (g : Grammar) (ws : List Word) (places : ℕ) : Fault → Type 0 where
  not_whole : (Programme g ws → ⊥) → ReadingRefused g ws places (NotWhole (length ws))
  short : (t : First g g.start ws) → places < length (moves_of t) → ReadingRefused g ws places (StripShort (length ws))

-- Of the single steps:

-- the moves of the first reading but for the last two
abbrev pub inner_of : {g : Grammar} {ws : List Word} → First g g.start ws → List ℕ
inner_of t = inner t.reads.reading.by t.reads.reading.children

-- the top rule of the first reading is opened, so all its moves but the last two are owed; and what is known of them
pub record Rooted (g : Grammar) (ws : List Word) (top : Open) (held : ℕ) : Type 0 where
  pub first : First g g.start ws
  pub owed : Owed g ws (top ∷ []) (inner_of first)
  pub words : held ≡ length ws
  pub few_words : length ws ≤ 100
  pub known : MovesAre g ws first.reads
  pub deep : (k : ℕ) (s : State) → steps g (some (initial g ws)) (take k (moves_of first)) ≡ some s → Deep s (rules_of first)
