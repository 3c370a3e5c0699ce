-- What rounds answer, and what they leave in the places for answers.
use Rattle.std.specs.Prelude.{◌≡◌, ℕ, ◌≤◌, List, length}
use Rattle.rulebook.specs.declared.faults.Fault.{Fault}
use Rattle.bookreport.specs.Findings.{Accepted, TextRefused}
use Rattle.unit.specs.declared.presses.PressAnswer.{PressAnswer}
use Rattle.unit.specs.Presses.{rules, AcceptsKeys, RefusesKey, HoldsAnswers}

-- The text is in form and its book sound. With a round or more, a draft of 60,000 places accepts each key, and the place of
-- each key holds the answer to it; with none, all places are as they were.
pub record RoundsSucceed (text keys : List ℕ) (count : ℕ) (old new : List PressAnswer) : Type 0 where
  pub accepted : Accepted text
  pub presses : 1 ≤ count → AcceptsKeys (rules text) 60000 keys (length keys)
  pub answers : 1 ≤ count → HoldsAnswers (rules text) keys (length keys) old new
  pub none : count ≡ 0 → new ≡ old

-- The text or its book is refused, and all places are as they were; or a key is, and the places of those before it hold the
-- answers to them.
pub data RoundsRefuse (text keys : List ℕ) (count : ℕ) (old new : List PressAnswer) (f : Fault) : Type 0 where
  book : TextRefused text f → new ≡ old → RoundsRefuse text keys count old new f
  press : Accepted text → 1 ≤ count → (k : ℕ) → RefusesKey (rules text) 60000 keys k f → HoldsAnswers (rules text) keys k old new → RoundsRefuse text keys count old new f
