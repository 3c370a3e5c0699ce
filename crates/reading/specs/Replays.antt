-- Whether moves are accepted as a run of the machine, and why not.
use Rattle.std.specs.Prelude.{◌≡◌, ℕ, ◌+◌, ◌<◌, ◌≤◌, List, [], length, take, slice_index}
use Rattle.std.proofs.Math.Option.{some, none}
use Rattle.language.specs.Book.{Grammar, Meaning}
use Rattle.language.specs.Sound.{Sound}
use Rattle.language.specs.Words.{Word}
use Rattle.language.specs.Readings.{Programme}
use Rattle.language.specs.Moves.{moves}
use Rattle.language.specs.Machine.{State, stacks, step, steps, initial, Complete}
use Rattle.rulebook.specs.declared.faults.Fault.{Fault}
use Rattle.rulebook.specs.declared.faults.Fault.TheVariants.{MoveRefused, StacksLeft, StackFull}

-- how many entries there is room for on the second and on the third stack
pub record Rooms : Type 0 where
  pub second : ℕ
  pub third : ℕ

abbrev pub rooms : ℕ → ℕ → Rooms
rooms n k = record { second = n; third = k }

-- a state fits the rooms
pub record StateFits (room : Rooms) (s : State) : Type 0 where
  pub second : length s.second ≤ room.second
  pub third : length s.third ≤ room.third

-- every state on the way of the moves fits, the first and the last too
abbrev pub AllFit : Grammar → List Word → Rooms → List ℕ → Type 0
AllFit g ws room ns = (k : ℕ) (s : State) → steps g (some (initial g ws)) (take k ns) ≡ some s → StateFits room s

-- the moves are allowed one after another and lead to a state, and all fits
pub record Leads (g : Grammar) (ws : List Word) (room : Rooms) (ns : List ℕ) (s : State) : Type 0 where
  pub to : steps g (some (initial g ws)) ns ≡ some s
  pub fit : AllFit g ws room ns

-- the moves are a complete run that fits
pub record ReplayAccepted (g : Grammar) (ws : List Word) (room : Rooms) (ns : List ℕ) : Type 0 where
  pub run : Complete g ws ns
  pub fit : AllFit g ws room ns

-- the first question answered no: the start symbol does not fit; a move is not allowed; its pushes do not fit; the stacks are
-- not all empty in the end
pub data ReplayRefused (g : Grammar) (ws : List Word) (room : Rooms) (ns : List ℕ) : Fault → Type 0 where
  start : (StateFits room (initial g ws) → ⊥) → ReplayRefused g ws room ns (StackFull 0)
  barred : (k : ℕ) (s : State) → k < length ns → Leads g ws room (take k ns) s → step g s (slice_index ns k) ≡ none → ReplayRefused g ws room ns (MoveRefused (k + 1))
  full : (k : ℕ) (s t : State) → k < length ns → Leads g ws room (take k ns) s → step g s (slice_index ns k) ≡ some t → (StateFits room t → ⊥) → ReplayRefused g ws room ns (StackFull (k + 1))
  left : (s : State) → Leads g ws room ns s → (s ≡ stacks [] [] [] → ⊥) → ReplayRefused g ws room ns (StacksLeft (length ns))

-- what is known of the answers: moves are refused for one reason at most, and none are both accepted and refused; those that
-- are accepted are the moves of a reading of the words, and those of every reading are accepted where they fit
pub record ReplayIs (g : Grammar) (ws : List Word) (room : Rooms) (ns : List ℕ) : Type 0 where
  pub one : (f h : Fault) → ReplayRefused g ws room ns f → ReplayRefused g ws room ns h → f ≡ h
  pub apart : (f : Fault) → ReplayAccepted g ws room ns → ReplayRefused g ws room ns f → ⊥
  pub read : ReplayAccepted g ws room ns → (t : Programme g ws) × (moves t.reading.by t.reading.children ≡ ns)
  pub all : (t : Programme g ws) → moves t.reading.by t.reading.children ≡ ns → AllFit g ws room ns → ReplayAccepted g ws room ns

abbrev pub ReplayTheorem : Type 0
ReplayTheorem = (m : Meaning) → Sound m → (ws : List Word) (room : Rooms) (ns : List ℕ) → ReplayIs m.grammar ws room ns
