-- What the lines of a text answer of the book that the text means.
use Rattle.std.proofs.Common.{◌≡◌, ℕ, ◌+◌, ◌<◌, ◌≤◌, min, cond, ltb, List, [], length, get_or, Some, None, Option, sym, refl, ap, ◌∙◌, ⊎_elim, arith}
use Rattle.std.proofs.lemmas.Bool.{cases_lt, cond-true, cond-false, lt-ltb, le-ltb}
use Rattle.std.proofs.lemmas.List.FromFn.{length-map-range_with_len}
use Rattle.language.specs.Book.{norule, noform, rule, left, size, symbol, form, kind, spelling}
use Rattle.language.proofs.Told.{rule_inside, rule_outside, form_inside, form_outside, place_inside, place_outside}
use Rattle.booktext.specs.Text.{Lined, number_at, number_on, rule_at, form_at, spelled, middle_of, spelling_field, text_meaning}

module _ (t : List ℕ) where
  -- the rule and the key form in the line that was found
  pub rule_lined : (r n : ℕ) → Lined r 1 (number_at t 0 3) 1 (Some n) → rule (text_meaning t).grammar.rules r ≡ rule_at t n
  unfolding text_meaning
  rule_lined r n (i, l, e, is) = rule_inside (number_at t 0 3) (λ i. rule_at t (1 + i)) i r l e ∙ ap (rule_at t) (sym is)

  pub rule_unlined : (r : ℕ) → Lined r 1 (number_at t 0 3) 1 None → rule (text_meaning t).grammar.rules r ≡ norule
  unfolding text_meaning
  rule_unlined r h = rule_outside (number_at t 0 3) (λ i. rule_at t (1 + i)) r h

  pub form_lined : (c n : ℕ) → Lined c 33 (number_at t 0 1) (1 + number_at t 0 3) (Some n) → form (text_meaning t).forms c ≡ form_at t n
  unfolding text_meaning
  form_lined c n (i, l, e, is) = form_inside (number_at t 0 1) (λ i. form_at t (1 + number_at t 0 3 + i)) i c l e ∙ ap (form_at t) (sym is)

  pub form_unlined : (c : ℕ) → Lined c 33 (number_at t 0 1) (1 + number_at t 0 3) None → form (text_meaning t).forms c ≡ noform
  unfolding text_meaning
  form_unlined c h = form_outside (number_at t 0 1) (λ i. form_at t (1 + number_at t 0 3 + i)) c h

  -- what the line of rule r answers
  module _ (r : ℕ) where
    pub left_answers : (line : Option ℕ) → Lined r 1 (number_at t 0 3) 1 line → number_on t line 0 ≡ left (text_meaning t).grammar r
    left_answers None h = sym (ap (λ w. w.head) (rule_unlined r h))
    left_answers (Some n) h = sym (ap (λ w. w.head) (rule_lined r n h))

    pub size_answers : (line : Option ℕ) → Lined r 1 (number_at t 0 3) 1 line → number_on t line 1 ≡ size (text_meaning t).grammar r
    size_answers None h = sym (ap (λ w. length w.body) (rule_unlined r h))
    size_answers (Some n) h = sym (ap (λ w. length w.body) (rule_lined r n h) ∙ length-map-range_with_len _ 0 (number_at t n 1))

    pub symbol_inside : (at : ℕ) (line : Option ℕ) → at < min (number_on t line 1) 6 → Lined r 1 (number_at t 0 3) 1 line → number_on t line (2 + at) ≡ symbol (text_meaning t).grammar r at
    symbol_inside at None l h = sym (ap (λ w. get_or w.body at 0) (rule_unlined r h))
    symbol_inside at (Some n) l h =
        sym (ap (λ w. get_or w.body at 0) (rule_lined r n h) ∙ (place_inside (λ j. cond (ltb j 6) (number_at t n (2 + j)) 0) (number_at t n 1) at 0 (omega arith) ∙ cond-true (ltb at 6) (number_at t n (2 + at)) 0 (lt-ltb at 6 (omega arith))))

    pub symbol_outside : (at : ℕ) (line : Option ℕ) → min (number_on t line 1) 6 ≤ at → Lined r 1 (number_at t 0 3) 1 line → 0 ≡ symbol (text_meaning t).grammar r at
    symbol_outside at None l h = sym (ap (λ w. get_or w.body at 0) (rule_unlined r h))
    symbol_outside at (Some n) l h =
        let f : ℕ → ℕ = λ j. cond (ltb j 6) (number_at t n (2 + j)) 0 in
        sym (ap (λ w. get_or w.body at 0) (rule_lined r n h) ∙ ⊎_elim
        (λ in_rule. place_inside f (number_at t n 1) at 0 in_rule ∙ cond-false (ltb at 6) (number_at t n (2 + at)) 0 (le-ltb at 6 (omega arith)))
        (λ past. place_outside f (number_at t n 1) at 0 past)
        (cases_lt at (number_at t n 1)))

  -- what the line of key c answers
  module _ (c : ℕ) where
    pub kind_answers : (line : Option ℕ) → Lined c 33 (number_at t 0 1) (1 + number_at t 0 3) line → number_on t line 1 ≡ kind (text_meaning t).forms c
    kind_answers None h = sym (ap (λ w. w.kind) (form_unlined c h))
    kind_answers (Some n) h = sym (ap (λ w. w.kind) (form_lined c n h))

    pub spelling_lined : (n : ℕ) → Lined c 33 (number_at t 0 1) (1 + number_at t 0 3) (Some n) → spelled (spelling_field (middle_of t n)) ≡ spelling (text_meaning t).forms c
    spelling_lined n h = sym (ap (λ w. w.spelling) (form_lined c n h))

    pub spelling_unlined : Lined c 33 (number_at t 0 1) (1 + number_at t 0 3) None → [] ≡ spelling (text_meaning t).forms c
    spelling_unlined h = sym (ap (λ w. w.spelling) (form_unlined c h))

-- how many rules and keys the text has
pub text_rules : (t : List ℕ) → length (text_meaning t).grammar.rules ≡ number_at t 0 3
unfolding text_meaning
text_rules t = length-map-range_with_len _ 0 (number_at t 0 3)

pub text_keys : (t : List ℕ) → (text_meaning t).grammar.keys ≡ number_at t 0 1
unfolding text_meaning
text_keys t = refl
