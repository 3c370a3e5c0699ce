-- What is seen of a draft between its calls.
use Rattle.std.specs.Prelude.{◌≡◌, ℕ, ◌-◌, ◌<◌, ◌≤◌, if◌then◌else◌, ◌==◌, min, List, ◌++◌, map, length, take, drop, replicate, slice_index_or, slice_set, IsTrue, ◌↔◌}
use Rattle.language.specs.Book.{Grammar}
use Rattle.language.specs.Words.{Word}
use Rattle.language.specs.Readings.{Item}
use Rattle.language.specs.Chart.{Wanted}
use Rattle.language.specs.Drafts.{Items}
use Rattle.rulebook.specs.Sets.{has}
use Rattle.rulebook.specs.declared.sets.SymbolSet.{SymbolSet}
use Rattle.soundbook.specs.Sounds.{sound_meaning}
use Rattle.soundbook.specs.declared.sounds.SoundBook.{SoundBook}
use Rattle.chart.specs.Items.{blank_told}

-- the record of a word: the keys that it matches, the symbols that may start after it, and its items, from one place to
-- before another
pub record WordRecord : Type 0 where
  pub keys : SymbolSet
  pub wanted : SymbolSet
  pub from : ℕ
  pub past : ℕ

-- the sound book, the symbols that may start after no word, all places of the chart, how many of them the draft may use, its
-- records, and how many words are held and places in use
pub record State : Type 0 where
  pub book : SoundBook
  pub first : SymbolSet
  pub places : List Item
  pub budget : ℕ
  pub records : List WordRecord
  pub held : ℕ
  pub used : ℕ

-- the book's rules
abbrev pub grammar : State → Grammar
grammar d = (sound_meaning d.book).grammar

-- the record of no word
abbrev pub no_word : WordRecord
no_word = record { keys = record { mask = 0 }; wanted = record { mask = 0 }; from = 0; past = 0 }

-- the record of a word held; words count from 1
abbrev pub record_at : State → ℕ → WordRecord
record_at d k = slice_index_or d.records (k - 1) no_word

-- the symbols that may start after the words held
abbrev pub expected : State → SymbolSet
expected d = (if d.held == 0 then d.first else (record_at d d.held).wanted)

-- the words held
abbrev pub words : State → List Word
words d = map (λ (r : WordRecord). has r.keys) (take d.held d.records)

-- the places in use
abbrev pub in_use : State → List Item
in_use d = take d.used d.places

-- what stands at a place
abbrev pub place : State → ℕ → Item
place d q = slice_index_or d.places q blank_told

-- a list in which the places from one to before another are blank
abbrev pub blanked : List Item → ℕ → ℕ → List Item
blanked ts from past = take from ts ++ (replicate (past - from) blank_told ++ drop past ts)

-- the record tells what may start after word k, and where the items stand that end there
pub record RecordIs (d : State) (k : ℕ) : Type 0 where
  pub wanted : (Y : ℕ) → IsTrue (has (record_at d k).wanted Y) ↔ Wanted (grammar d) (words d) k Y
  pub items : (q : ℕ) → q < d.used → ((place d q).end ≡ k) ↔ (((record_at d k).from ≤ q) × (q < (record_at d k).past))

-- what holds of a draft between its calls: its places are the first 60,000 of the chart, or all; those in use hold exactly the
-- items over the words held, each once, word by word, and the others are blank; each word has its record, and the other
-- records are blank
pub record Stands (d : State) : Type 0 where
  pub few : d.held ≤ 100
  pub budget : d.budget ≡ min 60000 (length d.places)
  pub fits : d.used ≤ d.budget
  pub items : Items (grammar d) (words d) (in_use d)
  pub first : (Y : ℕ) → IsTrue (has d.first Y) ↔ Wanted (grammar d) (words d) 0 Y
  pub rising : (p q : ℕ) → p ≤ q → q < d.used → (place d p).end ≤ (place d q).end
  pub blank : (q : ℕ) → d.used ≤ q → q < d.budget → place d q ≡ blank_told
  pub many : length d.records ≡ 100
  pub records : (k : ℕ) → 1 ≤ k → k ≤ d.held → RecordIs d k
  pub cleared : (k : ℕ) → d.held < k → k ≤ 100 → record_at d k ≡ no_word

-- a new draft: it holds no word, its places are blank, and those past them are as they were
abbrev pub opened : SoundBook → SymbolSet → List Item → State
opened b first ts = record {
  book = b;
  first = first;
  places = blanked ts 0 (min 60000 (length ts));
  budget = min 60000 (length ts);
  records = replicate 100 no_word;
  held = 0;
  used = 0;
}

-- the same without the last word, its record and its items
abbrev pub before : State → State
before d = record {
  book = d.book;
  first = d.first;
  places = blanked d.places (record_at d d.held).from d.used;
  budget = d.budget;
  records = slice_set d.records (d.held - 1) no_word;
  held = d.held - 1;
  used = (record_at d d.held).from;
}
