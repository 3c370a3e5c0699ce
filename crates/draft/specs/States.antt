-- What is seen of a draft.
use Rattle.std.specs.Prelude.{ℕ, Bool, List, map, take, slice_index_or}
use Rattle.language.specs.Book.{Grammar}
use Rattle.language.specs.Words.{Word}
use Rattle.language.specs.Readings.{Item}
use Rattle.rulebook.specs.Sets.{has}
use Rattle.rulebook.specs.declared.sets.SymbolSet.{SymbolSet}
use Rattle.soundbook.specs.Sounds.{sound_meaning}
use Rattle.soundbook.specs.declared.sounds.SoundBook.{SoundBook}
use Rattle.chart.specs.Items.{blank_told}

-- the sound book; the words held, each by the set of the keys that it matches; the draft's places, which are the chart's first
-- 60,000, or all; the chart's other places; how many places are in use; the lit keys; and whether the words are a programme
pub record DraftState : Type 0 where
  pub book : SoundBook
  pub sets : List SymbolSet
  pub places : List Item
  pub beyond : List Item
  pub used : ℕ
  pub lit : List ℕ
  pub whole : Bool

-- the book's rules
abbrev pub grammar : DraftState → Grammar
grammar d = (sound_meaning d.book).grammar

-- the words held
abbrev pub words : DraftState → List Word
words d = map (λ (s : SymbolSet). has s) d.sets

-- what stands at a place
abbrev pub place : DraftState → ℕ → Item
place d q = slice_index_or d.places q blank_told

-- the places in use
abbrev pub in_use : DraftState → List Item
in_use d = take d.used d.places
