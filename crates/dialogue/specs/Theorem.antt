-- What follows from the law alone: a lit key is never refused as dark, and a programme that fits is keyed in whole.
use Rattle.std.specs.Prelude.{◌≡◌, ℕ, suc, ◌<◌, ◌≤◌, T, min, List, length, map, take, slice_index}
use Rattle.language.specs.Book.{Grammar}
use Rattle.language.specs.Words.{Word, only}
use Rattle.language.specs.Readings.{Item, Reading, yield, Programme}
use Rattle.rulebook.specs.declared.faults.Fault.TheVariants.{DarkWord}
use Rattle.soundbook.specs.Sounds.{sound_meaning}
use Rattle.soundbook.specs.declared.sounds.SoundBook.{SoundBook}
use Rattle.draft.specs.Law.{MayFollow, ItemsFit}
use Rattle.draft.specs.States.{words}
use Rattle.dialogue.specs.declared.calls.Call.{Call}
use Rattle.dialogue.specs.declared.calls.Call.TheVariants.{Press}
use Rattle.dialogue.specs.declared.calls.Answer.{Answer}
use Rattle.dialogue.specs.declared.calls.Answer.TheVariants.{Items, Refused}
use Rattle.dialogue.specs.Runs.{RunState, RunLaw, call_at, answer_at}

-- the presses of keys, one after another
abbrev pub presses : List ℕ → List (Call Word)
presses keys = map (λ c. Press (only c)) keys

-- the words that match just these keys
abbrev pub just : List ℕ → List Word
just keys = map only keys

-- the book's rules
abbrev pub rules : SoundBook → Grammar
rules b = (sound_meaning b).grammar

-- at each state the next of the keys is lit, and it is taken; in the end the words held are a programme
pub record KeyedWhole (g : Grammar) (keys : List ℕ) (answers : List Answer) (state : ℕ → RunState) : Type 0 where
  pub lit : (k : ℕ) → k < length keys → MayFollow g (words (state k).draft) (slice_index keys k)
  pub taken : (k : ℕ) → k < length keys → answer_at answers k ≡ Items (state (suc k)).draft.used
  pub whole : Programme g (words (state (length keys)).draft)

-- what the law shows of a sound book
pub record LawShows (b : SoundBook) : Type 0 where
  -- in every state a word that matches a lit key, when pressed, is not refused as dark
  pub never_dark : (lent : List Item) (strip : List ℕ) (calls : List (Call Word)) (answers : List Answer) (places : List Item) (left : List ℕ)
      (law : RunLaw b lent strip calls answers places left) (k : ℕ) (w : Word) (c held : ℕ) → k < length calls → call_at calls k ≡ Press w
      → MayFollow (rules b) (words (law.state k).draft) c → T (w c) → answer_at answers k ≡ Refused (DarkWord held) → ⊥
  -- there is a programme
  pub some : Reading (rules b) (rules b).start
  -- and if it has at most 100 keys, and the items over its first keys fit at every state, then the presses of its keys are
  -- presses of lit keys that make the draft whole
  pub whole : (lent : List Item) (strip : List ℕ) (answers : List Answer) (places : List Item) (left : List ℕ) (t : Reading (rules b) (rules b).start)
      → length (yield t.children) ≤ 100
      → ((k : ℕ) → k ≤ length (yield t.children) → ItemsFit (rules b) (min 60000 (length lent)) (just (take k (yield t.children))))
      → (law : RunLaw b lent strip (presses (yield t.children)) answers places left) → KeyedWhole (rules b) (yield t.children) answers law.state

-- for every sound book
abbrev pub LawTheorem : Type 0
LawTheorem = (b : SoundBook) → LawShows b
