-- A line that is cut from a text: its letter, its newline, and the columns between them.
use Rattle.std.proofs.Common.{◌≡◌, ℕ, ◌+◌, ◌-◌, ◌*◌, ◌<◌, min, List, [], ◌∷◌, ◌++◌, length, get_or, take, drop, IsErrAnd, Result, sym, ap, ◌∙◌, subst, inr, arith}
use Rattle.std.proofs.lemmas.List.{take_all, length-drop, get_or-take, get_or-drop, take-take, drop-take, drop-drop}
use Rattle.rulebook.specs.declared.faults.Fault.{Fault}
use Rattle.booktext.specs.Columns.{value}
use Rattle.booktext.specs.Text.{middle_of, field_of}
use Rattle.booktext.specs.Form.{Question, asks_mark, asks_number, AllYes, FirstNo, Asked, numbers, blanks, marks, rule_fields}
use Rattle.booktext.proofs.Asking.{asked_err, asked_after, no_early}

module _ (t xs : List ℕ) (n : ℕ) (cut : xs ≡ take 34 (drop (34 * n) t)) where
  abbrev pub rest : List ℕ
  rest = take (length xs - 1) (drop 1 xs)

  after : rest ≡ drop 1 xs
  after = take_all (length xs - 1) (drop 1 xs) (omega (arith, length-drop 1 xs))

  at : (k : ℕ) → k < 34 → get_or xs k 0 ≡ get_or t (34 * n + k) 0
  at k h = ap (λ z. get_or z k 0) cut ∙ (get_or-take 34 (drop (34 * n) t) k 0 h ∙ get_or-drop (34 * n) t k 0)

  cut_last : get_or rest 32 0 ≡ get_or t (34 * n + 33) 0
  cut_last = ap (λ z. get_or z 32 0) after ∙ (get_or-drop 1 xs 32 0 ∙ at 33 (omega arith))

  cut_middle : take 32 rest ≡ middle_of t n
  cut_middle =
      ap (take 32) after
      ∙ (ap (λ z. take 32 (drop 1 z)) cut
      ∙ (ap (take 32) (drop-take 1 33 (drop (34 * n) t))
      ∙ (take-take 32 33 (drop 1 (drop (34 * n) t)) (omega arith)
      ∙ ap (take 32) (drop-drop 1 (34 * n) t))))

  first : get_or xs 0 0 ≡ get_or t (34 * n) 0
  first =
      let none : 34 * n + 0 ≡ 34 * n = omega arith in
      at 0 (omega arith) ∙ ap (λ k. get_or t k 0) none

  -- what is asked of the line
  module _ (letter : ℕ) (fields : ℕ → List ℕ → List Question) where
    abbrev pub asked : List Question
    asked = marks letter n t ++ fields n (middle_of t n)

    -- the letter, and no newline
    pub line_newline : {X : Type 0} (r : Result X Fault) (e : Fault) → get_or xs 0 0 ≡ letter → FirstNo (asks_mark n 34 10 (get_or rest 32 0) ∷ []) e → IsErrAnd r (λ y. y ≡ e) → Asked asked r
    line_newline r e is h same =
        asked_err asked r e same (no_early (marks letter n t) (fields n (middle_of t n)) e (inr (sym first ∙ is, subst (λ b. FirstNo (asks_mark n 34 10 b ∷ []) e) cut_last h)))

    -- the letter and the newline; the fields are asked next
    pub line_fields : {X : Type 0} (r : Result X Fault) (k : ℕ) (m : List ℕ) → get_or xs 0 0 ≡ letter → AllYes (asks_mark n 34 10 (get_or rest 32 0) ∷ []) → (k ≡ n) × (m ≡ take 32 rest) → Asked (fields k m) r → Asked asked r
    line_fields r k m is h same answered =
        asked_after (marks letter n t) (fields n (middle_of t n)) r (sym first ∙ is, (sym cut_last ∙ h.0, tt))
        (subst (λ i. Asked (fields i (middle_of t n)) r) same.0 (subst (λ z. Asked (fields k z) r) (same.1 ∙ cut_middle) answered))

-- the fields of a rule whose length s was read
module _ (n : ℕ) (m : List ℕ) (s v : ℕ) (size : s ≡ value (field_of m 1)) (few : v ≡ min s 6) (head : AllYes (asks_number n 0 (field_of m 0) ∷ [])) (length_field : AllYes (asks_number n 1 (field_of m 1) ∷ [])) where
  is : v ≡ min (value (field_of m 1)) 6
  is = few ∙ ap (λ k. min k 6) size

  count : 2 + v - 2 ≡ min (value (field_of m 1)) 6
  count = omega (arith, is)

  left_blank : 8 - (2 + min (value (field_of m 1)) 6) ≡ 6 - min (value (field_of m 1)) 6
  left_blank = omega arith

  pub rule_symbol : (e : Fault) → FirstNo (numbers n m 2 (2 + v - 2)) e → FirstNo (rule_fields n m) e
  rule_symbol e h = inr (head.0, inr (length_field.0, no_early _ _ e (subst (λ c. FirstNo (numbers n m 2 c) e) count h)))

  pub rule_rest : {X : Type 0} (r : Result X Fault) → AllYes (numbers n m 2 (2 + v - 2)) → Asked (blanks n m (2 + v) (8 - (2 + v))) r → Asked (rule_fields n m) r
  rule_rest r symbols h =
      asked_after (asks_number n 0 (field_of m 0) ∷ asks_number n 1 (field_of m 1) ∷ numbers n m 2 (min (value (field_of m 1)) 6)) _ r
      (head.0, (length_field.0, subst (λ c. AllYes (numbers n m 2 c)) count symbols))
      (subst (λ d. Asked (blanks n m (2 + min (value (field_of m 1)) 6) d) r) left_blank (subst (λ c. Asked (blanks n m (2 + c) (8 - (2 + c))) r) is h))
