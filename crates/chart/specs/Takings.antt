-- What becomes of a word that is to be held.
use Rattle.std.specs.Prelude.{◌≡◌, ℕ, ◌<◌, ◌≤◌, [], ◌∷◌, ◌++◌}
use Rattle.language.specs.Words.{Word}
use Rattle.chart.specs.Overflow.{Outnumber}
use Rattle.rulebook.specs.declared.faults.Fault.{Fault}
use Rattle.rulebook.specs.declared.faults.Fault.TheVariants.{DraftFull, ChartFull}
use Rattle.chart.specs.States.{State, Stands, grammar, words, before}

-- it is the last word held, and nothing before it is changed
pub record Taken (old new : State) (w : Word) (n : ℕ) : Type 0 where
  pub stands : Stands new
  pub words : words new ≡ words old ++ (w ∷ [])
  pub before : before new ≡ old
  pub budget : new.budget ≡ old.budget
  pub answer : n ≡ new.used

-- why it is not: 100 words are held, or its items are too many
pub data TakeRefuses (d : State) (w : Word) : Fault → Type 0 where
  full : 100 ≤ d.held → TakeRefuses d w (DraftFull d.held)
  crowded : d.held < 100 → Outnumber (grammar d) d.budget (words d ++ (w ∷ [])) → TakeRefuses d w (ChartFull d.held)

-- it is not taken, and nothing is changed
pub record NotTaken (old new : State) (w : Word) (f : Fault) : Type 0 where
  pub stands : Stands old
  pub refused : TakeRefuses old w f
  pub same : new ≡ old
