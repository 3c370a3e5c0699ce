-- The small books of the worked examples; Book A is the works book.
use Rattle.std.specs.Prelude.{ℕ, List, [], ◌∷◌, map, length, codes}
use Rattle.language.specs.Book.{Rule, Grammar, Meaning}
use Rattle.language.specs.Words.{Word, only}
use Rattle.soundbook.specs.Works.{works}

-- h turns into the symbols
abbrev pub turns : ℕ → List ℕ → Rule
turns h symbols = record { head = h; body = symbols }

-- a book with start part 1 whose keys are spelled by these letters
abbrev pub lettered : ℕ → List Rule → List (List ℕ) → Meaning
lettered parts rules letters = record {
  grammar = record { parts = parts; keys = length letters; start = 1; rules = rules };
  forms = map (λ s. record { kind = 0; spelling = s }) letters;
}

abbrev pub book_a : Grammar
book_a = works.grammar

-- Book B: 1 → 33; 1 → 1 1
abbrev pub letters_b : Meaning
letters_b = lettered 1 (turns 1 (33 ∷ []) ∷ turns 1 (1 ∷ 1 ∷ []) ∷ []) (codes "a" ∷ [])

abbrev pub book_b : Grammar
book_b = letters_b.grammar

-- part 2 is never turned into keys alone: 1 → 33; 1 → 34 2; 2 → 2 35
abbrev pub endless : Meaning
endless = lettered 2 (turns 1 (33 ∷ []) ∷ turns 1 (34 ∷ 2 ∷ []) ∷ turns 2 (2 ∷ 35 ∷ []) ∷ []) (codes "a" ∷ codes "b" ∷ codes "c" ∷ [])

-- part 1 is turned into itself alone: 1 → 2; 2 → 1; 2 → 33
abbrev pub circular : Meaning
circular = lettered 2 (turns 1 (2 ∷ []) ∷ turns 2 (1 ∷ []) ∷ turns 2 (33 ∷ []) ∷ []) (codes "a" ∷ [])

-- words that match one key each
abbrev pub pressed : List ℕ → List Word
pressed cs = map only cs
