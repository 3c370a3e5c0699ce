-- What the calls of a draft answer, and what they leave.
use Rattle.std.specs.Prelude.{◌≡◌, ℕ, ◌≤◌, List, ◌↔◌}
use Rattle.language.specs.Readings.{Item}
use Rattle.language.specs.Chart.{HeldItem}
use Rattle.language.specs.Columns.{Among, Apart}
use Rattle.rulebook.specs.declared.faults.Fault.{Fault}
use Rattle.rulebook.specs.declared.faults.Fault.TheVariants.{NothingHeld}
use Rattle.chart.specs.States.{State, grammar, words, before}

-- the last word is gone, and all is as before it was pressed
pub record RubbedOut (old new : State) (n : ℕ) : Type 0 where
  pub some : 1 ≤ old.held
  pub before : new ≡ before old
  pub answer : n ≡ new.used

-- no word is held, and nothing is changed
pub record NotRubbedOut (old new : State) (f : Fault) : Type 0 where
  pub none : old.held ≡ 0
  pub fault : f ≡ NothingHeld 0
  pub same : new ≡ old

-- the items over the words held that end at word k, each once
pub record ColumnIs (d : State) (k : ℕ) (ts : List Item) : Type 0 where
  pub items : (t : Item) → Among t ts ↔ (HeldItem (grammar d) (words d) t × (t.end ≡ k))
  pub apart : Apart ts
