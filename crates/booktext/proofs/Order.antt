-- The order of the questions that are asked of a text.
use Rattle.std.proofs.Common.{◌≡◌, ℕ, ◌+◌, List, [], ◌∷◌, ◌++◌, length, IsErrAnd, IfOk, IfErr, Ok, Err, Result, sym, refl, ap, ◌∙◌, subst, ⊎_elim, arith}
use Rattle.std.specs.List.{range_with_len, flat_map}
use Rattle.rulebook.specs.Fault.{layer_of}
use Rattle.rulebook.specs.declared.faults.Fault.{Fault}
use Rattle.booktext.specs.Text.{number_at}
use Rattle.booktext.specs.Form.{Question, asks_length, asks_mark, asks_number, asks_blank, asks_spelling, asks_lines, asks_key, fault_of, AllYes, FirstNo, Asked, head_questions, rule_questions, key_questions, lines_of, questions, Sized}
use Rattle.booktext.proofs.Asking.{yes_append, yes_front, yes_back, no_early, no_late}
use Rattle.booktext.proofs.Meant.{text_rules, text_keys}

-- every refusal of a question is one of the text
pub layer_text : (q : Question) → layer_of (fault_of q) ≡ 1
layer_text (asks_length len) = refl
layer_text (asks_mark n column wanted found) = refl
layer_text (asks_number n j f) = refl
layer_text (asks_blank n j f) = refl
layer_text (asks_spelling n s) = refl
layer_text (asks_lines len wanted) = refl
layer_text (asks_key n wanted found) = refl

pub no_layer : (qs : List Question) (e : Fault) → FirstNo qs e → layer_of e ≡ 1
no_layer [] e h = absurd h
no_layer (q ∷ qs) e h = ⊎_elim (λ here. ap layer_of here.1 ∙ layer_text q) (λ later. no_layer qs e later.1) h

-- the five steps of reading
module _ (t : List ℕ) where
  abbrev pub long : List Question
  long = asks_length (length t) ∷ []

  abbrev pub counted : List Question
  counted = asks_lines (length t) (lines_of t) ∷ []

  abbrev pub rules : List Question
  rules = flat_map (rule_questions t) (range_with_len 1 (number_at t 0 3))

  abbrev pub keys : List Question
  keys = flat_map (key_questions t (1 + number_at t 0 3)) (range_with_len 0 (number_at t 0 1))

  -- what is asked after the length, and after the first line
  abbrev past_length : List Question
  past_length = head_questions t ++ (counted ++ (rules ++ keys))

  abbrev past_head : List Question
  past_head = counted ++ (rules ++ keys)

  pub all_yes : AllYes long → AllYes (head_questions t) → AllYes counted → AllYes rules → AllYes keys → AllYes (questions t)
  unfolding questions
  all_yes a b c d e = yes_append long past_length a (yes_append (head_questions t) past_head b (yes_append counted (rules ++ keys) c (yes_append rules keys d e)))

  -- each of them where all is answered yes
  pub record Steps : Type 0 where
    pub long_yes : AllYes long
    pub head_yes : AllYes (head_questions t)
    pub counted_yes : AllYes counted
    pub rules_yes : AllYes rules
    pub keys_yes : AllYes keys

  pub steps : AllYes (questions t) → Steps
  unfolding questions
  steps h =
      let past = yes_back long past_length h in
      let after = yes_back (head_questions t) past_head past in
      let lines = yes_back counted (rules ++ keys) after in
      record { long_yes = yes_front long past_length h; head_yes = yes_front (head_questions t) past_head past; counted_yes = yes_front counted (rules ++ keys) after; rules_yes = yes_front rules keys lines; keys_yes = yes_back rules keys lines }

  module _ (e : Fault) where
    pub no_length : FirstNo long e → FirstNo (questions t) e
    unfolding questions
    no_length h = no_early long past_length e h

    pub no_head : AllYes long → FirstNo (head_questions t) e → FirstNo (questions t) e
    unfolding questions
    no_head a h = no_late long past_length e a (no_early (head_questions t) past_head e h)

    past_first : AllYes long → AllYes (head_questions t) → FirstNo past_head e → FirstNo (questions t) e
    unfolding questions
    past_first a b h = no_late long past_length e a (no_late (head_questions t) past_head e b h)

    pub no_count : AllYes long → AllYes (head_questions t) → FirstNo counted e → FirstNo (questions t) e
    no_count a b h = past_first a b (no_early counted (rules ++ keys) e h)

    pub no_rule : AllYes long → AllYes (head_questions t) → AllYes counted → FirstNo rules e → FirstNo (questions t) e
    no_rule a b c h = past_first a b (no_late counted (rules ++ keys) e c (no_early rules keys e h))

    pub no_key : AllYes long → AllYes (head_questions t) → AllYes counted → AllYes rules → FirstNo keys e → FirstNo (questions t) e
    no_key a b c d h = past_first a b (no_late counted (rules ++ keys) e c (no_late rules keys e d h))

    -- what a refusal answers
    pub refusal : {X : Type 0} (r : Result X Fault) (P : X → Type 0) → IsErrAnd r (λ y. y ≡ e) → FirstNo (questions t) e → Asked (questions t) r × IfOk r P × IfErr r (λ y. layer_of y ≡ 1)
    refusal (Ok x) P is h = absurd is
    refusal (Err y) P is h = (subst (FirstNo (questions t)) (sym is) h, tt, ap layer_of is ∙ no_layer (questions t) e h)

  -- the length, by what the text means
  pub sized : AllYes long → AllYes counted → Sized t
  sized a c = record { lines = omega (arith, c.0, text_rules t, text_keys t); low = a.0.1; high = a.0.2 }
