-- What a draft over a list of words shows: its items, and its lit keys.
use Rattle.std.specs.Prelude.{ℕ, ◌↔◌, List, length}
use Rattle.std.specs.List.{AllByRecursion}
use Rattle.language.specs.Book.{Grammar, Key}
use Rattle.language.specs.Words.{Word}
use Rattle.language.specs.Readings.{Item, item}
use Rattle.language.specs.Chart.{Wanted, Held, HeldItem}
use Rattle.language.specs.Columns.{Among, Apart}

-- the list holds exactly the items over the words, each once
pub record Items (g : Grammar) (ws : List Word) (ts : List Item) : Type 0 where
  pub held : AllByRecursion (HeldItem g ws) ts
  pub all : (r d i k : ℕ) → Held g ws r d i k → Among (item r d i k) ts
  pub apart : Apart ts

-- a key is lit: it may follow the words
pub record Lit (g : Grammar) (ws : List Word) (c : ℕ) : Type 0 where
  pub key : Key g c
  pub wanted : Wanted g ws (length ws) c

-- the list holds exactly the lit keys
abbrev pub LitKeys : Grammar → List Word → List ℕ → Type 0
LitKeys g ws cs = (c : ℕ) → Among c cs ↔ Lit g ws c
