-- The text of a book, line by line.
use Rattle.std.specs.Prelude.{◌≡◌, ℕ, ◌+◌, ◌-◌, ◌*◌, ◌^◌, ◌<◌, ◌≤◌, cond, List, [], ◌∷◌, ◌++◌, map, length, take, drop, replicate, nat_lt}
use Rattle.std.specs.List.{range_with_len, flat_map}
use Rattle.language.specs.Book.{Grammar, KeyForm, Meaning, left, size, symbol, kind, spelling}
use Rattle.booktext.specs.Columns.{shown}
use Rattle.booktext.specs.Form.{AllYes, questions}
use Rattle.booktext.specs.Text.{text_meaning}

-- xs with ys from place a on
abbrev pub put : List ℕ → ℕ → List ℕ → List ℕ
put xs a ys = take a xs ++ (ys ++ drop (a + length ys) xs)

-- a field without a number
abbrev pub blank : List ℕ
blank = replicate 4 32

-- the field of a number of at most four digits; a blank one of any other
unfoldable pub boxed : ℕ → List ℕ
boxed v = cond (nat_lt v 10000) (shown 4 v) blank

-- a line: its letter, its fields and a newline
abbrev pub line_of : ℕ → List (List ℕ) → List ℕ
line_of letter fields = letter ∷ (flat_map (λ f. f) fields ++ (10 ∷ []))

-- the first line: the counts
abbrev pub head_line : Meaning → List ℕ
head_line m =
    line_of 72 (boxed m.grammar.parts ∷ boxed m.grammar.keys ∷ boxed m.grammar.start ∷ boxed (length m.grammar.rules) ∷ blank ∷ blank ∷ blank ∷ blank ∷ [])

-- the field of the symbol at place d of rule r, of which n are told
abbrev pub symbol_field : Grammar → (r n d : ℕ) → List ℕ
symbol_field g r n d = cond (nat_lt d n) (boxed (symbol g r d)) blank

-- the line of rule r
abbrev pub rule_line : Grammar → ℕ → List ℕ
rule_line g r = line_of 82 (boxed (left g r) ∷ boxed (size g r) ∷ map (symbol_field g r (size g r)) (range_with_len 0 6))

-- a spelling from the left of its 24 columns
abbrev pub spread : List ℕ → List ℕ
spread s = take 24 s ++ replicate (24 - length s) 32

-- the line of key c
abbrev pub key_line : List KeyForm → ℕ → List ℕ
key_line fs c = line_of 75 (boxed c ∷ boxed (kind fs c) ∷ spread (spelling fs c) ∷ [])

-- what is made of each number n is f n, a line of 34 bytes
pub record Makes (made : ℕ → List ℕ → Type 0) (f : ℕ → List ℕ) : Type 0 where
  pub line : (n : ℕ) (l : List ℕ) → n < 2 ^ 16 → made n l → l ≡ f n
  pub wide : (n : ℕ) → length (f n) ≡ 34

-- how many lines a book has
abbrev pub lines_in : Meaning → ℕ
lines_in m = 1 + length m.grammar.rules + m.grammar.keys

-- the lines of its rules, and those of its keys
unfoldable pub rules_text : Meaning → List ℕ
rules_text m = flat_map (rule_line m.grammar) (range_with_len 1 (length m.grammar.rules))

unfoldable pub keys_text : Meaning → List ℕ
keys_text m = flat_map (key_line m.forms) (range_with_len 33 m.grammar.keys)

-- the whole text of a book
unfoldable pub text_of : Meaning → List ℕ
text_of m = head_line m ++ (rules_text m ++ keys_text m)

-- the text of a book stands in the first n bytes, is in form and means that book, and the bytes past them are as they were
pub record Stands (m : Meaning) (was is : List ℕ) (n : ℕ) : Type 0 where
  pub count : n ≡ 34 * lines_in m
  pub within : n ≤ length was
  pub front : take n is ≡ text_of m
  pub means : text_meaning (take n is) ≡ m
  pub form : AllYes (questions (take n is))
  pub past : drop n is ≡ drop n was
