-- Drafts of Book A as they are before a press, and what the press answers and leaves.
use Rattle.std.specs.Prelude.{◌≡◌, ℕ, ◌+◌, ◌-◌, ◌^◌, ◌≤◌, false, List, [], ◌∷◌, ◌++◌, map, length, replicate, Result, Ok, Err, MatchResult}
use Rattle.language.specs.Words.{only}
use Rattle.language.specs.Readings.{Item, item}
use Rattle.rulebook.specs.declared.sets.SymbolSet.{SymbolSet}
use Rattle.rulebook.specs.declared.faults.Fault.{Fault}
use Rattle.rulebook.specs.declared.faults.Fault.TheVariants.{DarkWord, ChartFull}
use Rattle.soundbook.specs.declared.sounds.SoundBook.{SoundBook}
use Rattle.chart.specs.Items.{blank_told}
use Rattle.draft.specs.States.{DraftState}
use Rattle.draft.specs.Law.{IsLawful, PressTaken, PressRefused}

-- the set of symbol c alone
abbrev pub alone : ℕ → SymbolSet
alone c = record { mask = 2 ^ (c - 1) }

-- A draft that is not whole: after presses of these keys, with these items in its first places, so many blank places after
-- them, where the chart ends, and these lit keys.
abbrev pub short_draft : SoundBook → List ℕ → List Item → ℕ → List ℕ → DraftState
short_draft b keys items blanks lit = record {
  book = b;
  sets = map alone keys;
  places = items ++ replicate blanks blank_told;
  beyond = [];
  used = length items;
  lit = lit;
  whole = false;
}

-- 33 held: one item
abbrev pub one_word : ℕ → SoundBook → DraftState
one_word blanks b = short_draft b (33 ∷ []) (item 3 1 0 1 ∷ []) blanks (35 ∷ [])

-- 33 35 34 held: five items
abbrev pub three_words : ℕ → SoundBook → DraftState
three_words blanks b = short_draft b (33 ∷ 35 ∷ 34 ∷ []) (item 3 1 0 1 ∷ item 3 2 0 2 ∷ item 1 1 0 2 ∷ item 2 1 0 2 ∷ item 4 1 2 3 ∷ []) blanks (35 ∷ [])

-- in 7 places, and in 8
abbrev pub seven_places : SoundBook → DraftState
seven_places = three_words 2

abbrev pub eight_places : SoundBook → DraftState
eight_places = three_words 3

-- what the contract of press says of a press of key c
pub record PressResult (c : ℕ) (old new : DraftState) (r : Result ℕ Fault) : Type 0 where
  pub lawful : IsLawful new
  pub cases : MatchResult r (PressTaken old new (only c)) (PressRefused old new (only c))

-- over a sound book that means Book A
pub record PressExamples (b : SoundBook) : Type 0 where
  -- 33 held, one item and any number of blank places: 34 is refused, and nothing is changed
  pub one_lawful : (blanks : ℕ) → 1 + blanks ≤ 60000 → IsLawful (one_word blanks b)
  pub one_press : (blanks : ℕ) (new : DraftState) (r : Result ℕ Fault) → PressResult 34 (one_word blanks b) new r → (r ≡ Err (DarkWord 1)) × (new ≡ one_word blanks b)
  -- 33 35 34 held in 7 places: 35 is refused, and five items and two blank places stay
  pub seven_lawful : IsLawful (seven_places b)
  pub seven_press : (new : DraftState) (r : Result ℕ Fault) → PressResult 35 (seven_places b) new r → (r ≡ Err (ChartFull 3)) × (new ≡ seven_places b)
  -- in 8 places: 35 is taken, and eight items stand
  pub eight_lawful : IsLawful (eight_places b)
  pub eight_press : (new : DraftState) (r : Result ℕ Fault) → PressResult 35 (eight_places b) new r → r ≡ Ok 8
