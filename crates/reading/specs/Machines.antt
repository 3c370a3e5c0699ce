-- The machine as its code holds it.
use Rattle.std.specs.Prelude.{◌≡◌, ℕ, zero, suc, ◌+◌, ◌<◌, ◌≤◌, Bool, true, false, List, [], ◌∷◌, ◌++◌, map, drop, length, Option, Some, None}
use Rattle.std.proofs.Math.Option.{Option as Maybe, some, none}
use Rattle.language.specs.Book.{Grammar, left, right, size}
use Rattle.language.specs.Words.{Word}
use Rattle.language.specs.Machine.{Entry, word, done, Awaited, next, end, State, stacks, agrees}
use Rattle.rulebook.specs.declared.faults.Fault.{Fault}
use Rattle.rulebook.specs.declared.faults.Fault.TheVariants.{MoveRefused, StackFull}
use Rattle.soundbook.specs.Sounds.{sound_meaning}
use Rattle.wording.specs.Sets.{word_of}
use Rattle.reading.specs.declared.stacks.Blank.{Ghosts}
use Rattle.reading.specs.declared.stacks.Stack.{Stack}
use Rattle.reading.specs.declared.machines.Machine.{Machine}
use Rattle.reading.specs.Replays.{Rooms, StateFits, rooms}
use Rattle.reading.specs.Stacks.{stacked, places}

-- words as the sets of the keys that they match, by the test that tells each
abbrev pub sets_of : {W : Type 0} → (W → ℕ → Bool) → List W → List Word
sets_of tells ws = map (λ w. word_of (tells w)) ws

-- what a number on the second stack stands for
abbrev pub awaited : ℕ → Awaited
awaited zero = end
awaited (suc c) = next (suc c)

-- a part done, if there is one, above words
abbrev pub above : Option ℕ → List Word → List Entry
above None ws = map word ws
above (Some X) ws = done X ∷ map word ws

abbrev pub grammar_of : {W : Type 0} → Machine W → Grammar
grammar_of m = (sound_meaning m.book.now).grammar

-- the first stack, by the test that tells each word
abbrev pub first_of : {W : Type 0} → (W → ℕ → Bool) → Machine W → List Entry
first_of tells m = above m.done (sets_of tells m.unread.now)

-- the state, with the other stacks in their rooms
abbrev pub state_of : {W : Type 0} {b : Ghosts ℕ} → (W → ℕ → Bool) → Machine W → Stack ℕ b → Stack ℕ b → State
state_of tells m second third = stacks (first_of tells m) (map awaited (stacked second)) (stacked third)

-- the rooms of the second and third stack
abbrev pub rooms_of : {b : Ghosts ℕ} → Stack ℕ b → Stack ℕ b → Rooms
rooms_of second third = rooms (places second) (places third)

-- the top of the first stack agrees with a symbol
abbrev pub top_agrees : Grammar → List Entry → ℕ → Bool
top_agrees g [] c = false
top_agrees g (e ∷ es) c = agrees g e c

-- a symbol to come is on top of the second stack
abbrev pub symbol_on_top : List Awaited → Bool
symbol_on_top [] = false
symbol_on_top (end ∷ bs) = false
symbol_on_top (next B ∷ bs) = true

-- why a move is refused that leads to a state or to none: it is not allowed, or what it pushes does not fit
pub data Barred (room : Rooms) (to : Maybe State) (at : ℕ) : Fault → Type 0 where
  not_allowed : to ≡ none → Barred room to at (MoveRefused at)
  no_room : (t : State) → to ≡ some t → (StateFits room t → ⊥) → Barred room to at (StackFull at)

-- rule r is begun: its symbols but the first are to come, over an end mark, and its left side waits
pub record RuleBegun {b : Ghosts ℕ} (g : Grammar) (r : ℕ) (second second' third third' : Stack ℕ b) : Type 0 where
  pub awaiting : map awaited (stacked second') ≡ map next (drop 1 (right g r)) ++ (end ∷ map awaited (stacked second))
  pub waiting : stacked third' ≡ left g r ∷ stacked third

-- there is too little room for that
pub data RuleShort {b : Ghosts ℕ} (g : Grammar) (r : ℕ) (second third : Stack ℕ b) : Type 0 where
  second_short : places second < length (stacked second) + size g r → RuleShort g r second third
  third_short : places third ≤ length (stacked third) → RuleShort g r second third
