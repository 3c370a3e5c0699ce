-- What stands on a stack.
use Rattle.std.specs.Prelude.{◌≡◌, ℕ, List, drop, length, take, reverse}
use Rattle.reading.specs.declared.stacks.Blank.{Ghosts}
use Rattle.reading.specs.declared.stacks.Stack.{Stack}

-- the elements, the top first
abbrev pub stacked : {T : Type 0} {b : Ghosts T} → Stack T b → List T
stacked s = reverse (take s.len s.room.now)

-- what stands in the places above the top, the lowest first; with the elements it is all that the room holds
abbrev pub above_top : {T : Type 0} {b : Ghosts T} → Stack T b → List T
above_top s = drop s.len s.room.now

-- how many elements there can be
abbrev pub places : {T : Type 0} {b : Ghosts T} → Stack T b → ℕ
places s = length s.room.now

-- a stack keeps its room: the very slice that was lent, with all its places
pub record SameRoom {T : Type 0} {b : Ghosts T} (old new : Stack T b) : Type 0 where
  pub name : new.room.ghost_name ≡ old.room.ghost_name
  pub places : places new ≡ places old
