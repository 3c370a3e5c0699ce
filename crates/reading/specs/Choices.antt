-- By which rule the first reading of a part is, and where the children begin.
use Rattle.std.specs.Prelude.{◌≡◌, ℕ, ◌+◌, ◌<◌, ◌≤◌, ◌⊎◌, List, length, slice_index}
use Rattle.language.specs.Book.{Grammar, left, size, symbol}
use Rattle.language.specs.Words.{Word, Is, between}
use Rattle.language.specs.Readings.{Children, none, key, part, yield, count, Fits, Reads}
use Rattle.language.specs.Chart.{Wanted, Held, Spans}
use Rattle.language.specs.Choice.{EarliestHeld, ChosenHeld}
use Rattle.language.specs.Order.{Least}
use Rattle.reading.specs.declared.choices.Choice.{Choice}

-- the children are the first, or all, of those of a first reading by rule r that starts after word i
pub record FirstChildren (g : Grammar) (ws : List Word) (r i : ℕ) (ks : Children) : Type 0 where
  pub wanted : Wanted g ws i (left g r)
  pub fits : Fits g r ks
  pub is : Is (yield ks) (between i (i + length (yield ks)) ws)
  pub inside : i + length (yield ks) ≤ length ws
  pub chosen : ChosenHeld g ws r i ks

-- these are the first of the children, or all of them
abbrev pub Front : Children → Children → Type 0
Front ls none = ls ≡ none
Front ls (key ks c) = (ls ≡ key ks c) ⊎ Front ls ks
Front ls (part ks s cs) = (ls ≡ part ks s cs) ⊎ Front ls ks

-- the table tells where the child behind the first d children begins, if the rule starts after word i
abbrev pub Begin : ℕ → List ℕ → Children → Type 0
Begin i at ks = (ls : Children) → Front ls ks → count ls < count ks → slice_index at (count ls) ≡ i + length (yield ls)

-- the table tells where the children of a first reading by rule r begin, if they stand over the words from i to k
abbrev pub BeginFirst : Grammar → List Word → ℕ → ℕ → ℕ → List ℕ → Type 0
BeginFirst g ws r i k at = (ks : Children) → FirstChildren g ws r i ks → count ks ≡ size g r → i + length (yield ks) ≡ k → Begin i at ks

-- the choice is that of a reading by rule r with these children
pub record Chooses (c : Choice) (i r : ℕ) (ks : Children) : Type 0 where
  pub rule : c.rule ≡ r
  pub begins : Begin i c.begins ks

-- the choice is that of each first reading of the part over the words from i to k
abbrev pub ChoosesFirst : Grammar → List Word → ℕ → ℕ → ℕ → Choice → Type 0
ChoosesFirst g ws X i k c =
    Wanted g ws i X → k ≤ length ws → (t : Reads g X (between i k ws)) → Least t → Chooses c i t.reading.by t.reading.children

-- a rule of the part has a finished item from i to k
pub record Finishes (g : Grammar) (ws : List Word) (X i k r : ℕ) : Type 0 where
  pub heads : left g r ≡ X
  pub held : Held g ws r (size g r) i k

-- and no lower one has
pub record LowestRule (g : Grammar) (ws : List Word) (X i k r : ℕ) : Type 0 where
  pub finishes : Finishes g ws X i k r
  pub lowest : (q : ℕ) → Finishes g ws X i k q → r ≤ q

-- the child at place d of rule r, which starts after word i, may begin after word b and end at word k, as a part
pub record PartBegins (g : Grammar) (ws : List Word) (r d i k b : ℕ) : Type 0 where
  pub held : Held g ws r d i b
  pub by : ℕ
  pub finishes : Finishes g ws (symbol g r d) b k by

-- the child at place d of rule r begins after word b and ends at word k, and none could begin earlier
pub record EarliestBegin (g : Grammar) (ws : List Word) (r d i k b : ℕ) : Type 0 where
  pub held : Held g ws r d i b
  pub spans : Spans g ws (symbol g r d) b k
  pub earliest : EarliestHeld g ws r d i b k
