-- The worked examples of Book A.
use Rattle.std.proofs.Common.{ℕ, List, [], ◌∷◌, refl}
use Rattle.language.specs.Sound.{Sound}
use Rattle.language.specs.Readings.{none, key, part, Item, item, Programme}
use Rattle.soundbook.specs.Works.{works}
use Rattle.worked.specs.Books.{book_a, pressed}
use Rattle.worked.specs.Examples.{Shows, FirstMoves}
use Rattle.worked.proofs.Sound.{sound_test}
use Rattle.worked.proofs.Computed.{tests, shows, is_whole, is_short, first_moves}

pub sound_a : Sound works
unfolding tests
sound_a = sound_test works ((2 ∷ []) ∷ [] ∷ []) refl refl refl

-- what may start after a word: a programme, a figure, more after a step, more in a cycle
abbrev programme : List ℕ
programme = 1 ∷ 2 ∷ 33 ∷ 34 ∷ 36 ∷ []

abbrev figure : List ℕ
figure = 35 ∷ []

abbrev step : List ℕ
step = 2 ∷ 33 ∷ 34 ∷ 36 ∷ []

-- the items over the words, column by column
abbrev pub one : List Item
one = item 3 1 0 1 ∷ []

abbrev two : List Item
two = item 3 1 0 1 ∷ item 3 2 0 2 ∷ item 1 1 0 2 ∷ item 2 1 0 2 ∷ []

abbrev pub three : List Item
three = item 3 1 0 1 ∷ item 3 2 0 2 ∷ item 1 1 0 2 ∷ item 2 1 0 2 ∷ item 4 1 2 3 ∷ []

abbrev pub four : List Item
four = item 3 1 0 1 ∷ item 3 2 0 2 ∷ item 1 1 0 2 ∷ item 2 1 0 2 ∷ item 4 1 2 3 ∷ item 4 2 2 4 ∷ item 2 2 0 4 ∷ item 2 1 0 4 ∷ []

abbrev cycle : List Item
cycle = item 5 1 0 1 ∷ item 5 2 0 2 ∷ item 3 1 2 3 ∷ item 3 2 2 4 ∷ item 1 1 2 4 ∷ item 2 1 2 4 ∷ item 5 3 0 4 ∷ []

abbrev ended : List Item
ended = item 5 1 0 1 ∷ item 5 2 0 2 ∷ item 3 1 2 3 ∷ item 3 2 2 4 ∷ item 1 1 2 4 ∷ item 2 1 2 4 ∷ item 5 3 0 4 ∷ item 5 4 0 5 ∷ item 1 1 0 5 ∷ item 2 1 0 5 ∷ []

-- what may start after each of the words
abbrev wanted_four : List (List ℕ)
wanted_four = programme ∷ figure ∷ step ∷ figure ∷ step ∷ []

abbrev wanted_cycle : List (List ℕ)
wanted_cycle = programme ∷ figure ∷ programme ∷ figure ∷ (37 ∷ step) ∷ step ∷ []

pub none_held : Shows book_a [] [] (33 ∷ 34 ∷ 36 ∷ [])
unfolding tests
none_held = shows works sound_a [] [] wanted_four (33 ∷ 34 ∷ 36 ∷ []) refl refl

pub none_short : Programme book_a [] → ⊥
unfolding tests
none_short = is_short works sound_a [] [] wanted_four [] refl refl

pub one_held : Shows book_a (pressed (33 ∷ [])) one (35 ∷ [])
unfolding tests
one_held = shows works sound_a (pressed (33 ∷ [])) one wanted_four (35 ∷ []) refl refl

pub one_short : Programme book_a (pressed (33 ∷ [])) → ⊥
unfolding tests
one_short = is_short works sound_a (pressed (33 ∷ [])) one wanted_four [] refl refl

pub two_held : Shows book_a (pressed (33 ∷ 35 ∷ [])) two (33 ∷ 34 ∷ 36 ∷ [])
unfolding tests
two_held = shows works sound_a (pressed (33 ∷ 35 ∷ [])) two wanted_four (33 ∷ 34 ∷ 36 ∷ []) refl refl

pub two_whole : Programme book_a (pressed (33 ∷ 35 ∷ []))
unfolding tests
two_whole = is_whole works sound_a (pressed (33 ∷ 35 ∷ [])) two wanted_four [] refl refl

pub three_held : Shows book_a (pressed (33 ∷ 35 ∷ 34 ∷ [])) three (35 ∷ [])
unfolding tests
three_held = shows works sound_a (pressed (33 ∷ 35 ∷ 34 ∷ [])) three wanted_four (35 ∷ []) refl refl

pub three_short : Programme book_a (pressed (33 ∷ 35 ∷ 34 ∷ [])) → ⊥
unfolding tests
three_short = is_short works sound_a (pressed (33 ∷ 35 ∷ 34 ∷ [])) three wanted_four [] refl refl

pub four_held : Shows book_a (pressed (33 ∷ 35 ∷ 34 ∷ 35 ∷ [])) four (33 ∷ 34 ∷ 36 ∷ [])
unfolding tests
four_held = shows works sound_a (pressed (33 ∷ 35 ∷ 34 ∷ 35 ∷ [])) four wanted_four (33 ∷ 34 ∷ 36 ∷ []) refl refl

pub four_moves : FirstMoves book_a (pressed (33 ∷ 35 ∷ 34 ∷ 35 ∷ [])) (3 ∷ 129 ∷ 0 ∷ 1 ∷ 0 ∷ 2 ∷ 4 ∷ 129 ∷ 0 ∷ 129 ∷ 0 ∷ 129 ∷ [])
unfolding tests
four_moves =
    first_moves works sound_a (pressed (33 ∷ 35 ∷ 34 ∷ 35 ∷ [])) four wanted_four [] refl
    2 (part (part none 1 (part none 3 (key (key none 33) 35))) 4 (key (key none 34) 35)) refl

pub cycle_held : Shows book_a (pressed (36 ∷ 35 ∷ 33 ∷ 35 ∷ [])) cycle (33 ∷ 34 ∷ 36 ∷ 37 ∷ [])
unfolding tests
cycle_held = shows works sound_a (pressed (36 ∷ 35 ∷ 33 ∷ 35 ∷ [])) cycle wanted_cycle (33 ∷ 34 ∷ 36 ∷ 37 ∷ []) refl refl

pub cycle_short : Programme book_a (pressed (36 ∷ 35 ∷ 33 ∷ 35 ∷ [])) → ⊥
unfolding tests
cycle_short = is_short works sound_a (pressed (36 ∷ 35 ∷ 33 ∷ 35 ∷ [])) cycle wanted_cycle [] refl refl

pub ended_held : Shows book_a (pressed (36 ∷ 35 ∷ 33 ∷ 35 ∷ 37 ∷ [])) ended (33 ∷ 34 ∷ 36 ∷ [])
unfolding tests
ended_held = shows works sound_a (pressed (36 ∷ 35 ∷ 33 ∷ 35 ∷ 37 ∷ [])) ended wanted_cycle (33 ∷ 34 ∷ 36 ∷ []) refl refl

pub ended_whole : Programme book_a (pressed (36 ∷ 35 ∷ 33 ∷ 35 ∷ 37 ∷ []))
unfolding tests
ended_whole = is_whole works sound_a (pressed (36 ∷ 35 ∷ 33 ∷ 35 ∷ 37 ∷ [])) ended wanted_cycle [] refl refl
