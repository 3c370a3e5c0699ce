-- What readings answer, and what they leave in the place for the size of the reading.
use Rattle.std.specs.Prelude.{◌≡◌, ℕ, ◌<◌, ◌≤◌, List, length}
use Rattle.language.specs.Book.{Grammar}
use Rattle.language.specs.Readings.{Programme}
use Rattle.language.specs.Order.{First}
use Rattle.rulebook.specs.declared.faults.Fault.{Fault}
use Rattle.rulebook.specs.declared.faults.Fault.TheVariants.{NotWhole}
use Rattle.bookreport.specs.Findings.{Accepted, TextRefused}
use Rattle.reading.specs.Written.{moves_of}
use Rattle.unit.specs.declared.readings.ReadingSize.{ReadingSize}
use Rattle.unit.specs.Presses.{rules, first_words, AcceptsKeys, RefusesKey}

-- the longest prefix of the keys that is a programme has n keys
pub record IsLongest (g : Grammar) (keys : List ℕ) (n : ℕ) : Type 0 where
  pub few : n ≤ length keys
  pub programme : Programme g (first_words n keys)
  pub longest : (m : ℕ) → n < m → m ≤ length keys → Programme g (first_words m keys) → ⊥

-- The text is in form and its book sound, and a draft of 60,000 places accepts each key. The words are as many as the longest
-- prefix that is a programme has, and the moves as many as its first reading has; with no reading the moves are as they were.
pub record ReadingsSucceed (text keys : List ℕ) (count : ℕ) (old new : ReadingSize) : Type 0 where
  pub accepted : Accepted text
  pub presses : AcceptsKeys (rules text) 60000 keys (length keys)
  pub words : IsLongest (rules text) keys new.words
  pub moves : 1 ≤ count → (t : First (rules text) (rules text).start (first_words new.words keys)) × (new.moves ≡ length (moves_of t))
  pub none : count ≡ 0 → new.moves ≡ old.moves

-- The text or its book is refused, or a key is, or no prefix of the keys is a programme. No reading is refused for space.
pub data ReadingsRefuse (text keys : List ℕ) : Fault → Type 0 where
  book : (f : Fault) → TextRefused text f → ReadingsRefuse text keys f
  press : (f : Fault) → Accepted text → (k : ℕ) → RefusesKey (rules text) 60000 keys k f → ReadingsRefuse text keys f
  none : Accepted text → AcceptsKeys (rules text) 60000 keys (length keys)
      → ((m : ℕ) → m ≤ length keys → Programme (rules text) (first_words m keys) → ⊥) → ReadingsRefuse text keys (NotWhole 0)
