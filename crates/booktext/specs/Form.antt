-- What reading asks of a text, in which order, and the refusal that answers no.
use Rattle.std.specs.Prelude.{◌≡◌, ℕ, ◌+◌, ◌-◌, ◌*◌, ◌%◌, ◌<◌, ◌≤◌, min, ◌⊎◌, List, [], ◌∷◌, ◌++◌, length, drop, Result, MatchResult, ◌≢◌, slice_index}
use Rattle.std.specs.List.{range_with_len, flat_map}
use Rattle.rulebook.specs.declared.faults.Fault.{Fault}
use Rattle.rulebook.specs.declared.faults.Fault.TheVariants.{TextLength, LineMark, FieldForm, KeyNumber, LineCount}
use Rattle.booktext.specs.Columns.{Blank, shown, value}
use Rattle.booktext.specs.Text.{middle_of, field_of, spelling_field, spelled, number_at, text_meaning}

-- one question; lines and fields count from 0
pub data Question : Type 0 where
  asks_length : (len : ℕ) → Question  -- is the length a multiple of 34 in bounds
  asks_mark : (n column wanted found : ℕ) → Question  -- has line n its byte in that column
  asks_number : (n j : ℕ) (f : List ℕ) → Question  -- is field j of line n a number
  asks_blank : (n j : ℕ) (f : List ℕ) → Question  -- is field j of line n blank
  asks_spelling : (n : ℕ) (s : List ℕ) → Question  -- has line n a spelling with only spaces after it
  asks_lines : (len wanted : ℕ) → Question  -- has the text that many lines
  asks_key : (n wanted found : ℕ) → Question  -- is the key number of line n that of its place

-- bytes other than space and newline, then spaces
pub record Spelling (s : List ℕ) : Type 0 where
  pub bytes : (k : ℕ) → k < length (spelled s) → slice_index (spelled s) k ≢ 10
  pub rest : Blank (drop (length (spelled s)) s)

-- the answer is yes
abbrev pub Holds : Question → Type 0
Holds (asks_length len) = (len % 34 ≡ 0) × (34 ≤ len) × (len ≤ 5474)
Holds (asks_mark n column wanted found) = found ≡ wanted
Holds (asks_number n j f) = (v : ℕ) × (v < 10000) × (shown 4 v ≡ f)
Holds (asks_blank n j f) = Blank f
Holds (asks_spelling n s) = Spelling s
Holds (asks_lines len wanted) = len ≡ 34 * wanted
Holds (asks_key n wanted found) = found ≡ wanted

-- the refusal that answers no; its lines and columns count from 1
abbrev pub fault_of : Question → Fault
fault_of (asks_length len) = TextLength
fault_of (asks_mark n column wanted found) = LineMark (n + 1) column
fault_of (asks_number n j f) = FieldForm (n + 1) (2 + 4 * j)
fault_of (asks_blank n j f) = FieldForm (n + 1) (2 + 4 * j)
fault_of (asks_spelling n s) = FieldForm (n + 1) 10
fault_of (asks_lines len wanted) = LineCount
fault_of (asks_key n wanted found) = KeyNumber (n + 1)

-- every question is answered yes
abbrev pub AllYes : List Question → Type 0
AllYes [] = Unit {0}
AllYes (q ∷ qs) = Holds q × AllYes qs

-- the first question that is answered no has that refusal
abbrev pub FirstNo : List Question → Fault → Type 0
FirstNo [] e = ⊥
FirstNo (q ∷ qs) e = ((Holds q → ⊥) × (e ≡ fault_of q)) ⊎ (Holds q × FirstNo qs e)

-- the questions are asked in order
abbrev pub Asked : {X : Type 0} → List Question → Result X Fault → Type 0
Asked qs r = MatchResult r (λ _. AllYes qs) (λ e. FirstNo qs e)

-- fields of line n with the middle m: count of them from field j on are numbers, or are blank
abbrev pub numbers : (n : ℕ) (m : List ℕ) (j count : ℕ) → List Question
numbers n m j count = flat_map (λ k. asks_number n k (field_of m k) ∷ []) (range_with_len j count)

abbrev pub blanks : (n : ℕ) (m : List ℕ) (j count : ℕ) → List Question
blanks n m j count = flat_map (λ k. asks_blank n k (field_of m k) ∷ []) (range_with_len j count)

-- the letter and the newline of line n
abbrev pub marks : (letter n : ℕ) → List ℕ → List Question
marks letter n t = asks_mark n 1 letter (slice_index t (34 * n)) ∷ asks_mark n 34 10 (slice_index t (34 * n + 33)) ∷ []

-- the first line: four counts, four blanks
abbrev pub head_fields : List ℕ → List Question
head_fields m = numbers 0 m 0 4 ++ blanks 0 m 4 4

-- the line of a rule: left part, length, as many symbols, blanks
abbrev pub rule_fields : ℕ → List ℕ → List Question
rule_fields n m =
    asks_number n 0 (field_of m 0) ∷ asks_number n 1 (field_of m 1) ∷ (numbers n m 2 (min (value (field_of m 1)) 6) ++ blanks n m (2 + min (value (field_of m 1)) 6) (6 - min (value (field_of m 1)) 6))

-- the line of key i, counted from 0: key number, kind, spelling
abbrev pub key_fields : ℕ → List ℕ → ℕ → List Question
key_fields n m i =
    asks_number n 0 (field_of m 0) ∷ asks_number n 1 (field_of m 1) ∷ asks_spelling n (spelling_field m) ∷ asks_key n (33 + i) (value (field_of m 0)) ∷ []

abbrev pub head_questions : List ℕ → List Question
head_questions t = marks 72 0 t ++ head_fields (middle_of t 0)

abbrev pub rule_questions : List ℕ → ℕ → List Question
rule_questions t n = marks 82 n t ++ rule_fields n (middle_of t n)

abbrev pub key_questions : (t : List ℕ) (top i : ℕ) → List Question
key_questions t top i = marks 75 (top + i) t ++ key_fields (top + i) (middle_of t (top + i)) i

-- how many lines there are to be: the first, and one for each rule and key
abbrev pub lines_of : List ℕ → ℕ
lines_of t = 1 + number_at t 0 3 + number_at t 0 1

-- all that is asked of a text, in order
unfoldable pub questions : List ℕ → List Question
questions t =
    asks_length (length t) ∷ (head_questions t ++ (asks_lines (length t) (lines_of t) ∷ (flat_map (rule_questions t) (range_with_len 1 (number_at t 0 3)) ++ flat_map (key_questions t (1 + number_at t 0 3)) (range_with_len 0 (number_at t 0 1)))))

-- a text in form has one line for the counts and one for each rule and key of the book that it means
pub record Sized (t : List ℕ) : Type 0 where
  pub lines : length t ≡ 34 * (1 + length (text_meaning t).grammar.rules + (text_meaning t).grammar.keys)
  pub low : 34 ≤ length t
  pub high : length t ≤ 5474
