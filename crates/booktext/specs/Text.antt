-- What the text of a book means. Lines have 34 bytes; lines, fields and bytes count from 0 here.
use Rattle.std.specs.Prelude.{◌≡◌, ℕ, ◌+◌, ◌*◌, ◌<◌, ◌≤◌, cond, ◌⊎◌, List, [], ◌∷◌, take, drop, Some, None, Option, MatchOption, ◌==◌, nat_lt}
use Rattle.language.specs.Book.{Rule, KeyForm, Meaning, ruled, told}
use Rattle.booktext.specs.Columns.{value}

-- the 32 columns between the letter and the newline of line n
abbrev pub middle_of : List ℕ → ℕ → List ℕ
middle_of t n = take 32 (drop (34 * n + 1) t)

-- the four columns of field j of those
abbrev pub field_of : List ℕ → ℕ → List ℕ
field_of m j = take 4 (drop (4 * j) m)

-- the 24 columns of the spelling among those
abbrev pub spelling_field : List ℕ → List ℕ
spelling_field m = take 24 (drop 8 m)

-- the number in field j of line n
abbrev pub number_at : List ℕ → ℕ → ℕ → ℕ
number_at t n j = value (field_of (middle_of t n) j)

-- the number in field j of a line, or 0 where there is no line
abbrev pub number_on : List ℕ → Option ℕ → ℕ → ℕ
number_on t None j = 0
number_on t (Some n) j = number_at t n j

-- the line of number r among count numbers from first on, whose lines begin at line top
abbrev pub Lined : (r first count top : ℕ) → Option ℕ → Type 0
Lined r first count top line = MatchOption line ((r < first) ⊎ (first + count ≤ r)) (λ n. (i : ℕ) × (i < count) × (first + i ≡ r) × (n ≡ top + i))

-- the bytes before the first space
abbrev pub spelled : List ℕ → List ℕ
spelled [] = []
spelled (b ∷ bs) = cond (b == 32) [] (b ∷ spelled bs)

-- the rule in line n; a symbol past the sixth is 0
abbrev pub rule_at : List ℕ → ℕ → Rule
rule_at t n = ruled (number_at t n 0) (number_at t n 1) (λ j. cond (nat_lt j 6) (number_at t n (2 + j)) 0)

-- the form of the key in line n
abbrev pub form_at : List ℕ → ℕ → KeyForm
form_at t n = record { kind = number_at t n 1; spelling = spelled (spelling_field (middle_of t n)) }

-- line 0 has the counts, then come the rules, then the keys
unfoldable pub text_meaning : List ℕ → Meaning
text_meaning t =
    told (number_at t 0 0) (number_at t 0 1) (number_at t 0 2) (number_at t 0 3) (λ i. rule_at t (1 + i)) (λ i. form_at t (1 + number_at t 0 3 + i))
