-- The theorem of the chart: what items, lit keys and whole say of programmes and their readings.
use Rattle.std.specs.Prelude.{ℕ, ◌≤◌, ◌⊎◌, ◌↔◌, List, [], ◌∷◌, ◌++◌, length, take}
use Rattle.language.specs.Book.{Grammar, Key, Meaning, left}
use Rattle.language.specs.Closure.{Productive}
use Rattle.language.specs.Sound.{Sound}
use Rattle.language.specs.Words.{Word, only, between}
use Rattle.language.specs.Readings.{Reading, Done, item, Used, Begun, Programme}
use Rattle.language.specs.Chart.{Wanted, Held, Whole}
use Rattle.language.specs.Drafts.{Lit}

-- What an item says of its own words: its rule may start there, and its symbols done read the words between.
pub record Locally (g : Grammar) (ws : List Word) (r d i k : ℕ) : Type 0 where
  pub wanted : Wanted g ws i (left g r)
  pub done : Done g r d (between i k ws)
  pub some : 1 ≤ d
  pub ends : k ≤ length ws

-- what the chart over the words tells
pub record ChartIs (g : Grammar) (ws : List Word) : Type 0 where
  -- an item is held exactly when it ends within the words and some programme that begins with the words up to its end has
  -- a reading that uses it
  pub items : (r d i k : ℕ) → Held g ws r d i k ↔ ((k ≤ length ws) × Used g (take k ws) (item r d i k))
  -- a key is lit exactly when some programme begins with the words followed by that key
  pub lit : (c : ℕ) → Lit g ws c ↔ Begun g (ws ++ (only c ∷ []))
  -- a finished item of the start part spans all words exactly when the words are a programme
  pub whole : Whole g ws ↔ Programme g ws
  -- an item is held exactly when its rule may start there and its symbols done read the words between
  pub spans : (r d i k : ℕ) → Held g ws r d i k ↔ Locally g ws r d i k

-- what can be turned into keys alone is a key or has a reading
abbrev pub TurnedTheorem : Type 0
TurnedTheorem = (g : Grammar) (X : ℕ) → Productive g X ↔ (Key g X ⊎ Reading g X)

-- the theorem, for every book that the check accepts and every list of words
abbrev pub ChartTheorem : Type 0
ChartTheorem = (m : Meaning) → Sound m → (ws : List Word) → ChartIs m.grammar ws
