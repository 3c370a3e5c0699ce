-- The answers of the questions that a press asks of a draft.
use Rattle.std.specs.Prelude.{◌≡◌, ℕ, ◌≤◌, length}
use Rattle.language.specs.Words.{Word}
use Rattle.rulebook.specs.Sets.{has}
use Rattle.rulebook.specs.declared.faults.Fault.{Fault}
use Rattle.rulebook.specs.declared.faults.Fault.TheVariants.{DraftFull, DarkWord}
use Rattle.wording.specs.declared.pressed.Matched.{Matched}
use Rattle.draft.specs.Law.{MatchesLit}
use Rattle.draft.specs.States.{DraftState, grammar, words}

-- 100 words are held
pub record WordsFull (d : DraftState) (f : Fault) : Type 0 where
  pub many : 100 ≤ length (words d)
  pub fault : f ≡ DraftFull (length (words d))

-- the word matches a lit key, and this is its set
pub record IsLit (d : DraftState) (w : Word) (m : Matched) : Type 0 where
  pub matches : MatchesLit (grammar d) (words d) w
  pub set : (c : ℕ) → has m.keys c ≡ w c

-- the word matches none
pub record IsDark (d : DraftState) (w : Word) (f : Fault) : Type 0 where
  pub none : MatchesLit (grammar d) (words d) w → ⊥
  pub fault : f ≡ DarkWord (length (words d))
