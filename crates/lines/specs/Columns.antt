-- Lines in which numbers stand in columns.
use Rattle.std.specs.Prelude.{ℕ, ◌-◌, List, ◌++◌, length, replicate, codes, decimal}
use Rattle.rulebook.specs.Fault.{number_of, layer_of, first_of, second_of}
use Rattle.rulebook.specs.declared.faults.Fault.{Fault}

-- the number right-justified in so many columns; one that has more digits takes a column for each
abbrev pub right_in : ℕ → ℕ → List ℕ
right_in width number = replicate (width - length (decimal number)) 32 ++ decimal number

-- the line by which a refusal is told: its four numbers in widths 4, 4, 6 and 6
abbrev pub told_fault : Fault → List ℕ
told_fault f = codes "fault" ++ (right_in 4 (number_of f) ++ (right_in 4 (layer_of f) ++ (right_in 6 (first_of f) ++ (right_in 6 (second_of f) ++ codes "\n"))))

-- the line by which an accepted word is told: its number, the items and the lit keys in widths 4, 6 and 4
abbrev pub told_word : ℕ → ℕ → ℕ → List ℕ
told_word number items lit = right_in 4 number ++ (right_in 6 items ++ (right_in 4 lit ++ codes "\n"))

-- the line by which a programme is told to be whole: the moves of its first reading in width 6
abbrev pub told_whole : ℕ → List ℕ
told_whole moves = codes "whole" ++ (right_in 6 moves ++ codes "\n")
