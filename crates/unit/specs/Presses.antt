-- Keys pressed in order on a new draft: which it accepts, and what it answers to each.
use Rattle.std.specs.Prelude.{◌≡◌, ℕ, ◌+◌, ◌<◌, ◌↔◌, List, Some, length, map, take, drop, slice_get, slice_index}
use Rattle.language.specs.Book.{Grammar}
use Rattle.language.specs.Words.{Word, only}
use Rattle.language.specs.Readings.{Item}
use Rattle.language.specs.Columns.{Among, Apart}
use Rattle.booktext.specs.Text.{text_meaning}
use Rattle.rulebook.specs.declared.faults.Fault.{Fault}
use Rattle.draft.specs.Law.{MayFollow, ItemsOver, PressAccepts, PressRefuses}
use Rattle.unit.specs.declared.presses.PressAnswer.{PressAnswer}

-- the rules of the book of a text
abbrev pub rules : List ℕ → Grammar
rules text = (text_meaning text).grammar

-- the words that the first k keys are
abbrev pub first_words : ℕ → List ℕ → List Word
first_words k keys = map only (take k keys)

-- a draft of n places accepts the first k keys
abbrev pub AcceptsKeys : Grammar → ℕ → List ℕ → ℕ → Type 0
AcceptsKeys g n keys k = (j : ℕ) → j < k → PressAccepts g n (first_words j keys) (only (slice_index keys j))

-- of the keys, counted from 0, number k is the first that it refuses
pub record RefusesKey (g : Grammar) (n : ℕ) (keys : List ℕ) (k : ℕ) (f : Fault) : Type 0 where
  pub inside : k < length keys
  pub before : AcceptsKeys g n keys k
  pub refused : PressRefuses g n (first_words k keys) (only (slice_index keys k)) f

-- the answer to the last of the words: how many items are over the words, and how many keys may follow them
pub record IsAnswer (g : Grammar) (ws : List Word) (a : PressAnswer) : Type 0 where
  pub items : List Item
  pub over : ItemsOver g ws items
  pub many_items : a.items ≡ length items
  pub keys : List ℕ
  pub follow : (c : ℕ) → Among c keys ↔ MayFollow g ws c
  pub apart : Apart keys
  pub many_keys : a.lit ≡ length keys

-- the places of the first k keys hold the answers to them, and all others are as they were
pub record HoldsAnswers (g : Grammar) (keys : List ℕ) (k : ℕ) (old new : List PressAnswer) : Type 0 where
  pub long : length new ≡ length old
  pub answers : (j : ℕ) (a : PressAnswer) → j < k → slice_get new j ≡ Some a → IsAnswer g (first_words (j + 1) keys) a
  pub others : drop k new ≡ drop k old
