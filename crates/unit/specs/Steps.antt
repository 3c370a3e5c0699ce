-- Of the single steps: what each leaves of a draft, and of the places for answers.
use Rattle.std.specs.Prelude.{◌≡◌, ℕ, ◌<◌, ◌≤◌, List, [], ◌∷◌, ◌++◌, length, map, take}
use Rattle.language.specs.Words.{only}
use Rattle.language.specs.Readings.{Programme}
use Rattle.language.specs.Order.{First}
use Rattle.rulebook.specs.declared.faults.Fault.{Fault}
use Rattle.rulebook.specs.declared.faults.Fault.TheVariants.{NotWhole}
use Rattle.soundbook.specs.declared.sounds.SoundBook.{SoundBook}
use Rattle.bookreport.specs.Findings.{Accepted}
use Rattle.draft.specs.States.{DraftState, grammar, words}
use Rattle.draft.specs.Law.{SameChart, PressAccepts}
use Rattle.reading.specs.Written.{moves_of}
use Rattle.unit.specs.declared.failures.Failure.{Failure}
use Rattle.unit.specs.declared.failures.Failure.TheVariants.{Refused, OutOfMemory}
use Rattle.unit.specs.declared.presses.PressAnswer.{PressAnswer}
use Rattle.unit.specs.Presses.{AcceptsKeys, RefusesKey, IsAnswer, HoldsAnswers}
use Rattle.unit.specs.Readings.{ReadingsRefuse}
use Rattle.unit.specs.Rounds.{RoundsRefuse}

-- a draft of the book with 60,000 places, which holds no word
pub record IsEmptyDraft (b : SoundBook) (d : DraftState) : Type 0 where
  pub book : d.book ≡ b
  pub words : words d ≡ []
  pub places : length d.places ≡ 60000

-- a press of a key is accepted, and answered
pub record IsKeyPress (old new : DraftState) (key : ℕ) (a : PressAnswer) : Type 0 where
  pub accepted : PressAccepts (grammar old) (length old.places) (words old) (only key)
  pub same : SameChart old new
  pub answer : IsAnswer (grammar old) (words new) a
  pub words : words new ≡ words old ++ (only key ∷ [])

-- presses of all keys on a draft that held no word are accepted, and answered
pub record IsPressOfAll (old new : DraftState) (keys : List ℕ) (before after : List PressAnswer) : Type 0 where
  pub accepted : AcceptsKeys (grammar old) (length old.places) keys (length keys)
  pub same : SameChart old new
  pub words : words new ≡ map only keys
  pub answers : HoldsAnswers (grammar old) keys (length keys) before after

-- one of them is refused
pub record PressOfAllRefuses (d : DraftState) (keys : List ℕ) (before after : List PressAnswer) (f : Fault) : Type 0 where
  pub place : ℕ
  pub fails : RefusesKey (grammar d) (length d.places) keys place f
  pub answers : HoldsAnswers (grammar d) keys place before after

-- no word is held
pub record IsClear (old new : DraftState) : Type 0 where
  pub words : words new ≡ []
  pub same : SameChart old new

-- so many rounds on a draft that held no word are accepted
pub record RepeatSucceeds (d : DraftState) (keys : List ℕ) (count : ℕ) (before after : List PressAnswer) : Type 0 where
  pub accepted : 1 ≤ count → AcceptsKeys (grammar d) (length d.places) keys (length keys)
  pub answers : 1 ≤ count → HoldsAnswers (grammar d) keys (length keys) before after
  pub none : count ≡ 0 → after ≡ before

-- the words held are a prefix of those before, of which no longer prefix is a programme
pub record HoldsPrefix (old new : DraftState) : Type 0 where
  pub prefix : words new ≡ take (length (words new)) (words old)
  pub few : length (words new) ≤ length (words old)
  pub longest : (n : ℕ) → length (words new) < n → n ≤ length (words old) → Programme (grammar old) (take n (words old)) → ⊥
  pub same : SameChart old new

-- and it is a programme
pub record HoldsLongest (old new : DraftState) : Type 0 where
  pub held : HoldsPrefix old new
  pub programme : Programme (grammar old) (words new)

-- no prefix of the words held is a programme
pub record HasNoProgramme (d : DraftState) (f : Fault) : Type 0 where
  pub none : (n : ℕ) → n ≤ length (words d) → Programme (grammar d) (take n (words d)) → ⊥
  pub fault : f ≡ NotWhole 0

-- the answer of so many first readings of the words held: their moves, or what it was before
pub record IsMoveCount (d : DraftState) (count before moves : ℕ) : Type 0 where
  pub some : 1 ≤ count → (t : First (grammar d) (grammar d).start (words d)) × (moves ≡ length (moves_of t))
  pub none : count ≡ 0 → moves ≡ before

-- why rounds end early
abbrev pub RoundsFail : List ℕ → List ℕ → ℕ → List PressAnswer → List PressAnswer → Failure → Type 0
RoundsFail text keys count old new (Refused f) = RoundsRefuse text keys count old new f
RoundsFail text keys count old new OutOfMemory = Accepted text × (new ≡ old)

-- why readings end early
abbrev pub ReadingsFail : List ℕ → List ℕ → Failure → Type 0
ReadingsFail text keys (Refused f) = ReadingsRefuse text keys f
ReadingsFail text keys OutOfMemory = Accepted text
