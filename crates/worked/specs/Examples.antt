-- The worked examples, of the definitions alone: books, words, items, lit keys, moves and refusals.
use Rattle.std.specs.Prelude.{◌≡◌, ℕ, List, [], ◌∷◌}
use Rattle.language.specs.Book.{Grammar}
use Rattle.language.specs.Sound.{Sound}
use Rattle.language.specs.Words.{Word, only}
use Rattle.language.specs.Readings.{Item, item, Programme}
use Rattle.language.specs.Drafts.{Items, LitKeys}
use Rattle.language.specs.Moves.{moves}
use Rattle.language.specs.Order.{First}
use Rattle.rulebook.specs.Fault.{number_of}
use Rattle.draft.specs.Law.{PressAccepts, PressRefuses}
use Rattle.rulebook.specs.declared.faults.Fault.TheVariants.{DarkWord, ChartFull, Unproductive, UnitCycle}
use Rattle.soundbook.specs.Refusals.{Refused}
use Rattle.soundbook.specs.Works.{works}
use Rattle.soundbook.specs.Sounds.{sound_meaning}
use Rattle.soundbook.specs.declared.sounds.SoundBook.{SoundBook}
use Rattle.worked.specs.Books.{book_a, letters_b, book_b, endless, circular, pressed}
use Rattle.worked.specs.Presses.{PressExamples}

-- over the words stand exactly these items, and exactly these keys are lit
pub record Shows (g : Grammar) (ws : List Word) (ts : List Item) (cs : List ℕ) : Type 0 where
  pub items : Items g ws ts
  pub lit : LitKeys g ws cs

-- the first reading of the words has these moves
pub record FirstMoves (g : Grammar) (ws : List Word) (ns : List ℕ) : Type 0 where
  pub first : First g g.start ws
  pub are : moves first.reads.reading.by first.reads.reading.children ≡ ns

pub record Examples : Type 0 where
  -- both books are sound
  pub sound_a : Sound works
  pub sound_b : Sound letters_b
  -- Book A, nothing held: three keys are lit, and it is not whole
  pub none_held : Shows book_a [] [] (33 ∷ 34 ∷ 36 ∷ [])
  pub none_short : Programme book_a [] → ⊥
  -- one word: one item, not whole; then 34 is dark, whatever the places
  pub one_held : Shows book_a (pressed (33 ∷ [])) (item 3 1 0 1 ∷ []) (35 ∷ [])
  pub one_short : Programme book_a (pressed (33 ∷ [])) → ⊥
  pub one_dark : (places : ℕ) → PressRefuses book_a places (pressed (33 ∷ [])) (only 34) (DarkWord 1)
  -- two words: four items, whole
  pub two_held : Shows book_a (pressed (33 ∷ 35 ∷ [])) (item 3 1 0 1 ∷ item 3 2 0 2 ∷ item 1 1 0 2 ∷ item 2 1 0 2 ∷ []) (33 ∷ 34 ∷ 36 ∷ [])
  pub two_whole : Programme book_a (pressed (33 ∷ 35 ∷ []))
  -- three words: five items, not whole
  pub three_held : Shows book_a (pressed (33 ∷ 35 ∷ 34 ∷ [])) (item 3 1 0 1 ∷ item 3 2 0 2 ∷ item 1 1 0 2 ∷ item 2 1 0 2 ∷ item 4 1 2 3 ∷ []) (35 ∷ [])
  pub three_short : Programme book_a (pressed (33 ∷ 35 ∷ 34 ∷ [])) → ⊥
  -- the fourth word wants 8 places: with 7 it is refused, with 8 it is taken
  pub four_crowded : PressRefuses book_a 7 (pressed (33 ∷ 35 ∷ 34 ∷ [])) (only 35) (ChartFull 3)
  pub four_taken : PressAccepts book_a 8 (pressed (33 ∷ 35 ∷ 34 ∷ [])) (only 35)
  -- what such presses answer and leave, over each sound book that means Book A
  pub presses : (b : SoundBook) → sound_meaning b ≡ works → PressExamples b
  pub four_held : Shows book_a (pressed (33 ∷ 35 ∷ 34 ∷ 35 ∷ []))
      (item 3 1 0 1 ∷ item 3 2 0 2 ∷ item 1 1 0 2 ∷ item 2 1 0 2 ∷ item 4 1 2 3 ∷ item 4 2 2 4 ∷ item 2 2 0 4 ∷ item 2 1 0 4 ∷ [])
      (33 ∷ 34 ∷ 36 ∷ [])
  pub four_moves : FirstMoves book_a (pressed (33 ∷ 35 ∷ 34 ∷ 35 ∷ [])) (3 ∷ 129 ∷ 0 ∷ 1 ∷ 0 ∷ 2 ∷ 4 ∷ 129 ∷ 0 ∷ 129 ∷ 0 ∷ 129 ∷ [])
  -- a cycle that is not ended: seven items, not whole; ended: ten items, whole
  pub cycle_held : Shows book_a (pressed (36 ∷ 35 ∷ 33 ∷ 35 ∷ []))
      (item 5 1 0 1 ∷ item 5 2 0 2 ∷ item 3 1 2 3 ∷ item 3 2 2 4 ∷ item 1 1 2 4 ∷ item 2 1 2 4 ∷ item 5 3 0 4 ∷ [])
      (33 ∷ 34 ∷ 36 ∷ 37 ∷ [])
  pub cycle_short : Programme book_a (pressed (36 ∷ 35 ∷ 33 ∷ 35 ∷ [])) → ⊥
  pub ended_held : Shows book_a (pressed (36 ∷ 35 ∷ 33 ∷ 35 ∷ 37 ∷ []))
      (item 5 1 0 1 ∷ item 5 2 0 2 ∷ item 3 1 2 3 ∷ item 3 2 2 4 ∷ item 1 1 2 4 ∷ item 2 1 2 4 ∷ item 5 3 0 4 ∷ item 5 4 0 5 ∷ item 1 1 0 5 ∷ item 2 1 0 5 ∷ [])
      (33 ∷ 34 ∷ 36 ∷ [])
  pub ended_whole : Programme book_a (pressed (36 ∷ 35 ∷ 33 ∷ 35 ∷ 37 ∷ []))
  -- Book B
  pub b_moves : FirstMoves book_b (pressed (33 ∷ 33 ∷ 33 ∷ [])) (1 ∷ 0 ∷ 2 ∷ 1 ∷ 0 ∷ 2 ∷ 1 ∷ 0 ∷ 129 ∷ 0 ∷ 129 ∷ 0 ∷ 129 ∷ [])
  -- the two unsound books
  pub endless_refused : Refused endless (Unproductive 2)
  pub circular_refused : Refused circular (UnitCycle 1)
  -- the numbers of these refusals
  pub numbers : (number_of (DarkWord 1) ≡ 22) × (number_of (ChartFull 3) ≡ 23) × (number_of (Unproductive 2) ≡ 17) × (number_of (UnitCycle 1) ≡ 18)
