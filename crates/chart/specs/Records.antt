-- What is settled before a word is pressed.
use Rattle.std.specs.Prelude.{ℕ, ◌-◌, if◌then◌else◌, ◌==◌, List, [], ◌∷◌, ◌++◌, map, take, slice_index_or}
use Rattle.language.specs.Book.{Grammar}
use Rattle.language.specs.Words.{Word}
use Rattle.rulebook.specs.Sets.{has}
use Rattle.rulebook.specs.declared.sets.SymbolSet.{SymbolSet}
use Rattle.soundbook.specs.Sounds.{sound_meaning}
use Rattle.wording.specs.declared.pressed.Matched.{Matched}
use Rattle.chart.specs.Indexes.{corners_at}
use Rattle.chart.specs.declared.records.Record.{Record}
use Rattle.chart.specs.declared.records.Settled.{Settled}

-- the record of no word
abbrev pub blank_record : Record
blank_record = record { word = record { keys = record { mask = 0 } }; wanted = record { mask = 0 }; starts = record { mask = 0 }; from = 0; waiting = 0; past = 0 }

-- the record of a word held; words count from 1
abbrev pub record_of : Settled → ℕ → Record
record_of s k = slice_index_or s.records (k - 1) blank_record

-- the word whose keys these are
abbrev pub matching : Matched → Word
matching w = has w.keys

-- the grammar of the book
abbrev pub grammar_of : Settled → Grammar
grammar_of s = (sound_meaning s.book.now).grammar

-- the words held
abbrev pub words_of : Settled → List Word
words_of s = map (λ (r : Record). matching r.word) (take s.held s.records)

-- the words held and one more
abbrev pub words_with : Settled → Matched → List Word
words_with s w = words_of s ++ (matching w ∷ [])

-- the symbols that may start after so many words
abbrev pub wanted_in : Settled → ℕ → SymbolSet
wanted_in s k = (if k == 0 then corners_at s.index (grammar_of s).start else (record_of s k).wanted)

-- where the items of the first words end
abbrev pub past_of : Settled → ℕ → ℕ
past_of s k = (if k == 0 then 0 else (record_of s k).past)

-- how many items there are over the words held
abbrev pub used_of : Settled → ℕ
used_of s = past_of s s.held
