-- What the open rules of a walk still stand for.
use Rattle.std.specs.Prelude.{◌≡◌, ℕ, zero, suc, ◌+◌, ◌≤◌, List, [], ◌∷◌, ◌++◌, length}
use Rattle.language.specs.Book.{Grammar}
use Rattle.language.specs.Words.{Word, between}
use Rattle.language.specs.Readings.{Children, yield, count, Reads}
use Rattle.language.specs.Chart.{Wanted}
use Rattle.language.specs.Order.{Least}
use Rattle.language.specs.Moves.{inner}
use Rattle.reading.specs.Choices.{Begin, FirstChildren}
use Rattle.reading.specs.declared.walks.Open.{Open}
use Rattle.reading.specs.declared.walks.Behind.{Behind}
use Rattle.reading.specs.declared.walks.Behind.TheVariants.{Key, Part}

-- the open rule, which starts after word i, stands for the first of the children of a first reading, one at least
pub record OpenIs (g : Grammar) (ws : List Word) (o : Open) (i : ℕ) (ks : Children) : Type 0 where
  pub first : FirstChildren g ws o.choice.rule i ks
  pub begins : Begin i o.choice.begins ks
  pub done : o.done ≡ count ks
  pub some : 1 ≤ count ks
  pub end : o.end ≡ i + length (yield ks)

-- the rule is opened of each first reading of the part over the words from i to k, if it may start there
abbrev pub OpensFirst : Grammar → List Word → ℕ → ℕ → ℕ → Open → Type 0
OpensFirst g ws X i k o =
    Wanted g ws i X → k ≤ length ws → (t : Reads g X (between i k ws)) → Least t → (o.choice.rule ≡ t.reading.by) × OpenIs g ws o i t.reading.children

-- an open rule without its last child, above the others; with no child left it is gone
abbrev pub shortened : Open → ℕ → ℕ → List Open → List Open
shortened o zero k os = os
shortened o (suc d) k os = record { choice = o.choice; done = suc d; end = k } ∷ os

-- no open rule
abbrev pub blank_open : Open
blank_open = record { choice = record { rule = 0; begins = 0 ∷ 0 ∷ 0 ∷ 0 ∷ 0 ∷ 0 ∷ [] }; done = 0; end = 0 }

-- the open rules, the last first, which end at word k and follow each other down to the first word, stand for these moves
abbrev pub Pending : Grammar → List Word → List Open → ℕ → List ℕ → Type 0
Pending g ws [] k ns = (k ≡ 0) × (ns ≡ [])
Pending g ws (o ∷ os) k ns =
    (i : ℕ) × (ks : Children) × (before : List ℕ) × Pending g ws os i before × OpenIs g ws o i ks × (k ≡ i + length (yield ks)) × (ns ≡ before ++ inner o.choice.rule ks)

-- these moves are still to be written before those that are
pub record Owed (g : Grammar) (ws : List Word) (os : List Open) (ns : List ℕ) : Type 0 where
  pub end : ℕ
  pub pending : Pending g ws os end ns
  pub inside : end ≤ length ws

-- what stands behind a child's own moves: behind a part's, 0 and the mark that joins it to its rule
abbrev pub behind_moves : Behind → List ℕ
behind_moves (Key mark) = mark ∷ []
behind_moves (Part mark) = 0 ∷ mark ∷ []
