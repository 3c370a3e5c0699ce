-- The law of a draft: what it shows at every moment, and what each call answers and leaves.
use Rattle.std.specs.Prelude.{◌≡◌, ℕ, ◌<◌, ◌≤◌, T, ◌↔◌, IsTrue, min, List, [], ◌∷◌, ◌++◌, length, take, drop}
use Rattle.language.specs.Book.{Grammar}
use Rattle.language.specs.Words.{Word, only}
use Rattle.language.specs.Readings.{Item, Begun, Used, Programme}
use Rattle.language.specs.Columns.{Among, Apart}
use Rattle.rulebook.specs.Sets.{has}
use Rattle.rulebook.specs.declared.faults.Fault.{Fault}
use Rattle.rulebook.specs.declared.faults.Fault.TheVariants.{DraftFull, DarkWord, ChartFull, NothingHeld}
use Rattle.soundbook.specs.declared.sounds.SoundBook.{SoundBook}
use Rattle.chart.specs.Items.{blank_told}
use Rattle.draft.specs.declared.lit_set.LitSet.{LitSet}
use Rattle.draft.specs.States.{DraftState, grammar, words, place, in_use}

-- A key may follow the words: some programme begins with the words followed by that key.
abbrev pub MayFollow : Grammar → List Word → ℕ → Type 0
MayFollow g ws c = Begun g (ws ++ (only c ∷ []))

-- the word matches a key that may follow
pub record MatchesLit (g : Grammar) (ws : List Word) (w : Word) : Type 0 where
  pub key : ℕ
  pub follows : MayFollow g ws key
  pub matches : T (w key)

-- The list holds exactly the items over the words, each once: those that end at word k are those that a reading of some
-- programme uses which begins with the first k words.
pub record ItemsOver (g : Grammar) (ws : List Word) (ts : List Item) : Type 0 where
  pub exact : (t : Item) → Among t ts ↔ ((t.end ≤ length ws) × Used g (take t.end ws) t)
  pub apart : Apart ts

-- the items over the words fit so many places
pub record ItemsFit (g : Grammar) (n : ℕ) (ws : List Word) : Type 0 where
  pub items : List Item
  pub over : ItemsOver g ws items
  pub few : length items ≤ n

-- At every moment: at most 100 words are held; the places in use hold exactly the items over the words held, each once, word by
-- word; the draft's other places are blank; a key is lit exactly when it may follow the words held; and the draft is whole
-- exactly when they are a programme.
pub record IsLawful (d : DraftState) : Type 0 where
  pub few : length (words d) ≤ 100
  pub few_places : length d.places ≤ 60000
  pub fits : d.used ≤ length d.places
  pub items : ItemsOver (grammar d) (words d) (in_use d)
  pub rising : (p q : ℕ) → p ≤ q → q < d.used → (place d p).end ≤ (place d q).end
  pub blank : (q : ℕ) → d.used ≤ q → q < length d.places → place d q ≡ blank_told
  pub lit : (c : ℕ) → Among c d.lit ↔ MayFollow (grammar d) (words d) c
  pub lit_apart : Apart d.lit
  pub whole : IsTrue d.whole ↔ Programme (grammar d) (words d)

-- a new draft over a chart: it holds no word, its places are the chart's first 60,000, or all, and the others are as they were
pub record IsNew (b : SoundBook) (chart : List Item) (d : DraftState) : Type 0 where
  pub book : d.book ≡ b
  pub words : d.sets ≡ []
  pub places : length d.places ≡ min 60000 (length chart)
  pub beyond : d.beyond ≡ drop (min 60000 (length chart)) chart
  pub used : d.used ≡ 0

-- the book, the number of places and all past them are as they were
pub record SameChart (old new : DraftState) : Type 0 where
  pub book : new.book ≡ old.book
  pub long : length new.places ≡ length old.places
  pub beyond : new.beyond ≡ old.beyond

-- a word is taken after those held, into n places: fewer than 100 are held, it matches a key that may follow, and the items,
-- this word held too, fit
pub record PressAccepts (g : Grammar) (n : ℕ) (ws : List Word) (w : Word) : Type 0 where
  pub room : length ws < 100
  pub matches : MatchesLit g ws w
  pub fits : ItemsFit g n (ws ++ (w ∷ []))

-- or it is refused for the first of these that does not hold
pub data PressRefuses (g : Grammar) (n : ℕ) (ws : List Word) (w : Word) : Fault → Type 0 where
  full : 100 ≤ length ws → PressRefuses g n ws w (DraftFull (length ws))
  dark : length ws < 100 → (MatchesLit g ws w → ⊥) → PressRefuses g n ws w (DarkWord (length ws))
  crowded : length ws < 100 → MatchesLit g ws w → (ItemsFit g n (ws ++ (w ∷ [])) → ⊥) → PressRefuses g n ws w (ChartFull (length ws))

-- press: the word is the last held, the items that stood stay where they are, and the answer is how many items stand
pub record PressTaken (old new : DraftState) (w : Word) (n : ℕ) : Type 0 where
  pub taken : PressAccepts (grammar old) (length old.places) (words old) w
  pub words : words new ≡ words old ++ (w ∷ [])
  pub stay : take old.used new.places ≡ in_use old
  pub same : SameChart old new
  pub answer : n ≡ new.used

-- or the word is refused, and nothing is changed
pub record PressRefused (old new : DraftState) (w : Word) (f : Fault) : Type 0 where
  pub refused : PressRefuses (grammar old) (length old.places) (words old) w f
  pub same : new ≡ old

-- rub out: the last word is gone, the items that stand were there before, and the answer is how many items stand
pub record RubOutTaken (old new : DraftState) (n : ℕ) : Type 0 where
  pub last : Word
  pub words : words old ≡ words new ++ (last ∷ [])
  pub stay : in_use new ≡ take new.used old.places
  pub same : SameChart old new
  pub answer : n ≡ new.used

-- or no word is held, and nothing is changed
pub record RubOutRefused (old new : DraftState) (f : Fault) : Type 0 where
  pub none : words old ≡ []
  pub fault : f ≡ NothingHeld 0
  pub same : new ≡ old

-- lit: the lit keys, and how many they are
pub record LitIs (d : DraftState) (l : LitSet) : Type 0 where
  pub keys : (c : ℕ) → IsTrue (has l.keys c) ↔ Among c d.lit
  pub count : l.count ≡ length d.lit
