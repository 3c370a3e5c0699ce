-- The text of a sound book is in form.
use Rattle.std.proofs.Common.{◌≡◌, ℕ, zero, suc, ◌+◌, ◌-◌, ◌*◌, ◌%◌, ◌<◌, ◌≤◌, min, ltb, List, [], ◌∷◌, ◌++◌, length, get_or, take, drop, replicate, sym, refl, ap, ◌∙◌, subst, arith}
use Rattle.std.specs.List.{range_with_len, flat_map}
use Rattle.std.proofs.lemmas.List.{append_assoc, length-append, length-replicate, take_all, take_at, drop_at, drop-drop}
use Rattle.std.proofs.lemmas.Bool.{cond-true, cond-false, lt-ltb, le-ltb}
use Rattle.language.specs.Book.{Grammar, Meaning, left, size, symbol, kind, spelling}
use Rattle.language.proofs.Told.{place_inside}
use Rattle.booktext.specs.Columns.{Blank, shown, value}
use Rattle.booktext.specs.Text.{middle_of, field_of, number_at, spelled, spelling_field, text_meaning}
use Rattle.booktext.specs.Form.{Question, asks_number, asks_blank, Holds, Spelling, AllYes, marks, numbers, blanks, head_fields as head_asked, rule_fields, key_fields, head_questions, rule_questions, key_questions, lines_of, questions}
use Rattle.booktext.specs.Written.{put, blank, boxed, head_line, symbol_field, spread, rules_text, keys_text, lines_in, text_of, Stands}
use Rattle.booktext.proofs.Again.{Lies, letter_at, newline_at, flat, head_fields, head_lies, rule_lies, key_lies, head_field, rule_field, Fitting, keys_is, rules_is, size_is, past_number, key_middle, spread_again, text_again, value_boxed}
use Rattle.booktext.proofs.Asking.{yes_append}
use Rattle.booktext.proofs.Filled.{head_length, rules_length, text_length, spread_length}
use Rattle.booktext.proofs.Laid.{put_put, rule_to, boxed_length}
use Rattle.booktext.proofs.Order.{all_yes}

yes_number : (n j : ℕ) (f : List ℕ) (v : ℕ) → f ≡ boxed v → v < 10000 → Holds (asks_number n j f)
unfolding boxed
yes_number n j f v e h = (v, h, sym (e ∙ cond-true (ltb v 10000) (shown 4 v) blank (lt-ltb v 10000 h)))

yes_blank : (n j : ℕ) (f : List ℕ) → f ≡ blank → Holds (asks_blank n j f)
yes_blank n j f e = subst Blank (sym e) refl

yes_all : (f : ℕ → List Question) (a n : ℕ) → ((i : ℕ) → a ≤ i → i < a + n → AllYes (f i)) → AllYes (flat_map f (range_with_len a n))
yes_all f a zero h = tt
yes_all f a (suc n) h = yes_append (f a) (flat_map f (range_with_len (a + 1) n)) (h a (omega arith) (omega arith)) (yes_all f (a + 1) n (λ i l k. h i (omega arith) (omega arith)))

yes_marks : (t : List ℕ) (n letter : ℕ) (fs : List (List ℕ)) → Lies t n letter fs → AllYes (marks letter n t)
yes_marks t n letter fs l = (letter_at t n letter fs l, (newline_at t n letter fs l, tt))

-- a spelling in its columns is in form
spread_form : (s : List ℕ) → length s ≤ 24 → ((x : ℕ) → x ≤ 32 → (j : ℕ) → j < length s → get_or s j 0 ≡ x → ⊥) → Spelling (spread s)
spread_form s l apart =
    let again : spelled (spread s) ≡ s = spread_again s l (apart 32 (omega arith)) in
    let blanks : List ℕ = replicate (24 - length s) 32 in
    let back : blanks ≡ drop (length s) (spread s) = sym (ap (λ t. drop (length s) (t ++ blanks)) (take_all 24 s l) ∙ drop_at s blanks (length s) refl) in
    let blank_back : Blank blanks = ap (λ n. replicate n 32) (sym (length-replicate {A = ℕ} (24 - length s) 32)) in
    record {
      bytes = λ k h n. apart 10 (omega arith) k (subst (λ z. k < length z) again h) (ap (λ z. get_or z k 0) (sym again) ∙ n);
      rest = subst (λ z. Blank (drop (length z) (spread s))) (sym again) (subst Blank back blank_back);
    }

module _ (m : Meaning) (fit : Fitting m) where
  abbrev t : List ℕ
  t = text_of m

  abbrev gr : Grammar
  gr = m.grammar

  yes_head : AllYes (head_questions t)
  yes_head = yes_append (marks 72 0 t) (head_asked (middle_of t 0)) (yes_marks t 0 72 (head_fields m) (head_lies m))
      (num 0 gr.parts (omega arith) refl fit.parts, (num 1 gr.keys (omega arith) refl (omega (arith, fit.keys)), (num 2 gr.start (omega arith) refl fit.start, (num 3 (length gr.rules) (omega arith) refl (omega (arith, fit.rules)), (gap 4 (omega arith) refl, (gap 5 (omega arith) refl, (gap 6 (omega arith) refl, (gap 7 (omega arith) refl, tt)))))))) where
        num : (j v : ℕ) → j < 8 → get_or (head_fields m) j [] ≡ boxed v → v < 10000 → Holds (asks_number 0 j (field_of (middle_of t 0) j))
        num j v l e h = yes_number 0 j _ v (head_field m j l ∙ e) h

        gap : (j : ℕ) → j < 8 → get_or (head_fields m) j [] ≡ blank → Holds (asks_blank 0 j (field_of (middle_of t 0) j))
        gap j l e = yes_blank 0 j _ (head_field m j l ∙ e)

  -- the line of a rule
  module _ (r i : ℕ) (e : 1 + i ≡ r) (l : i < length gr.rules) where
    abbrev n : ℕ
    n = min (number_at t r 1) 6

    size_here : number_at t r 1 ≡ size gr r
    size_here = size_is m fit r i e l

    field_here : (j : ℕ) → 2 ≤ j → j < 8 → field_of (middle_of t r) j ≡ symbol_field gr r (size gr r) (j - 2)
    field_here j low high =
        let place : j ≡ suc (suc (j - 2)) = omega arith in
        rule_field m r i j e l high ∙ (ap (λ k. get_or (rule_to gr r (size gr r)) k []) place ∙ place_inside (symbol_field gr r (size gr r)) 6 (j - 2) [] (omega arith))

    small_symbol : (d : ℕ) → d < size gr r → symbol gr r d < 10000
    small_symbol d h = fit.symbols r (record { low = omega arith; high = omega arith }) d h

    yes_symbols : AllYes (numbers r (middle_of t r) 2 n)
    yes_symbols = yes_all (λ k. asks_number r k (field_of (middle_of t r) k) ∷ []) 2 n
        (λ j low high. let d : j - 2 < size gr r = omega (arith, size_here) in
        (yes_number r j _ (symbol gr r (j - 2)) (field_here j low (omega arith) ∙ cond-true (ltb (j - 2) (size gr r)) (boxed (symbol gr r (j - 2))) blank (lt-ltb (j - 2) (size gr r) d)) (small_symbol (j - 2) d), tt))

    yes_gaps : AllYes (blanks r (middle_of t r) (2 + n) (6 - n))
    yes_gaps = yes_all (λ k. asks_blank r k (field_of (middle_of t r) k) ∷ []) (2 + n) (6 - n)
        (λ j low high. let d : size gr r ≤ j - 2 = omega (arith, size_here) in
        (yes_blank r j _ (field_here j (omega arith) (omega arith) ∙ cond-false (ltb (j - 2) (size gr r)) (boxed (symbol gr r (j - 2))) blank (le-ltb (j - 2) (size gr r) d)), tt))

    left_small : left gr r < 10000
    left_small = fit.lefts r (record { low = omega arith; high = omega arith })

    size_small : size gr r < 10000
    size_small = omega (arith, fit.sizes r (record { low = omega arith; high = omega arith }))

    yes_rule : AllYes (rule_questions t r)
    yes_rule = yes_append (marks 82 r t) (rule_fields r (middle_of t r)) (yes_marks t r 82 (rule_to gr r (size gr r)) (rule_lies m r i e l))
        (yes_number r 0 _ (left gr r) (rule_field m r i 0 e l (omega arith)) left_small, (yes_number r 1 _ (size gr r) (rule_field m r i 1 e l (omega arith)) size_small, yes_append (numbers r (middle_of t r) 2 n) (blanks r (middle_of t r) (2 + n) (6 - n)) yes_symbols yes_gaps))

  -- the line of a key
  module _ (i n : ℕ) (top : n ≡ 1 + length gr.rules + i) (l : i < gr.keys) where
    abbrev c : ℕ
    c = 33 + i

    abbrev fs : List (List ℕ)
    fs = boxed c ∷ boxed (kind m.forms c) ∷ spread (spelling m.forms c) ∷ []

    number_here : field_of (middle_of t n) 0 ≡ boxed c
    number_here = ap (λ z. field_of z 0) (key_middle m fit c i n refl top l) ∙ take_at (boxed c) (boxed (kind m.forms c) ++ (spread (spelling m.forms c) ++ [])) 4 (boxed_length c)

    kind_here : field_of (middle_of t n) 1 ≡ boxed (kind m.forms c)
    kind_here =
        ap (λ z. field_of z 1) (key_middle m fit c i n refl top l)
        ∙ (ap (take 4) (past_number m fit c i n refl top l) ∙ take_at (boxed (kind m.forms c)) (spread (spelling m.forms c) ++ []) 4 (boxed_length (kind m.forms c)))

    spelling_here : spelling_field (middle_of t n) ≡ spread (spelling m.forms c)
    spelling_here =
        let back : drop 8 (flat fs) ≡ spread (spelling m.forms c) ++ [] =
        sym (drop-drop 4 4 (flat fs)) ∙ (ap (drop 4) (past_number m fit c i n refl top l) ∙ drop_at (boxed (kind m.forms c)) (spread (spelling m.forms c) ++ []) 4 (boxed_length (kind m.forms c))) in
        ap spelling_field (key_middle m fit c i n refl top l) ∙ (ap (take 24) back ∙ take_at (spread (spelling m.forms c)) [] 24 (spread_length (spelling m.forms c)))

    kind_small : kind m.forms c < 10000
    kind_small = fit.kinds c (record { low = omega arith; high = omega arith })

    spelling_form : Spelling (spread (spelling m.forms c))
    spelling_form = spread_form (spelling m.forms c) (fit.shorts c (record { low = omega arith; high = omega arith })) (fit.apart c (record { low = omega arith; high = omega arith }))

    key_small : c < 10000
    key_small = omega (arith, fit.keys)

    yes_key : AllYes (marks 75 n t ++ key_fields n (middle_of t n) i)
    yes_key = yes_append (marks 75 n t) (key_fields n (middle_of t n) i) (yes_marks t n 75 fs (key_lies m fit c i n refl top l))
        (yes_number n 0 _ c number_here key_small, (yes_number n 1 _ (kind m.forms c) kind_here kind_small, (subst Spelling (sym spelling_here) spelling_form, (ap value number_here ∙ value_boxed c key_small, tt))))

  -- all questions
  pub written_form : AllYes (questions t)
  written_form =
      all_yes t (size_form, tt) yes_head (lines_form, tt)
      (yes_all (rule_questions t) 1 (number_at t 0 3) (λ r low high. yes_rule r (r - 1) (omega arith) (omega (arith, rules_is m fit))))
      (yes_all (key_questions t (1 + number_at t 0 3)) 0 (number_at t 0 1) (λ i low high. yes_key i (1 + number_at t 0 3 + i) (omega (arith, rules_is m fit)) (omega (arith, keys_is m fit)))) where
        size_form : (length t % 34 ≡ 0) × (34 ≤ length t) × (length t ≤ 5474)
        size_form = (omega (arith, text_length m), omega (arith, text_length m), omega (arith, text_length m, fit.rules, fit.keys))

        lines_form : length t ≡ 34 * lines_of t
        lines_form = omega (arith, text_length m, rules_is m fit, keys_is m fit)

-- the three parts of a text, one after another
pub stands : (m : Meaning) (l0 l1 l2 l3 head : List ℕ) (n : ℕ) → n ≡ 34 * lines_in m → Fitting m → length m.forms ≡ m.grammar.keys → n ≤ length l0 → head ≡ head_line m → l1 ≡ put l0 0 head → l2 ≡ put l1 34 (rules_text m) → l3 ≡ put l2 (34 * (1 + length m.grammar.rules)) (keys_text m) → Stands m l0 l3 n
unfolding text_of
stands m l0 l1 l2 l3 head n e fit each l is e1 e2 e3 =
    let two : l2 ≡ put l0 0 (head_line m ++ rules_text m) =
    e2 ∙ (ap (λ t. put t 34 (rules_text m)) (e1 ∙ ap (put l0 0) is) ∙ put_put l0 (head_line m) (rules_text m) 0 34 (omega (arith, head_length m)) (omega arith)) in
    let three : l3 ≡ put l0 0 ((head_line m ++ rules_text m) ++ keys_text m) =
    e3 ∙ (ap (λ t. put t (34 * (1 + length m.grammar.rules)) (keys_text m)) two ∙ put_put l0 (head_line m ++ rules_text m) (keys_text m) 0 (34 * (1 + length m.grammar.rules)) (omega (arith, length-append (head_line m) (rules_text m), head_length m, rules_length m)) (omega arith)) in
    let all : l3 ≡ text_of m ++ drop (0 + length (text_of m)) l0 = three ∙ ap (put l0 0) (append_assoc (head_line m) (rules_text m) (keys_text m)) in
    let long : length (text_of m) ≡ n = text_length m ∙ sym e in
    let past : 0 + length (text_of m) ≡ n = omega arith in
    let front : take n l3 ≡ text_of m = ap (take n) all ∙ take_at (text_of m) (drop (0 + length (text_of m)) l0) n long in
    record {
      count = e;
      within = l;
      front = front;
      means = ap text_meaning front ∙ text_again m fit each;
      form = subst (λ z. AllYes (questions z)) (sym front) (written_form m fit);
      past = ap (drop n) all ∙ (drop_at (text_of m) (drop (0 + length (text_of m)) l0) n long ∙ ap (λ k. drop k l0) past);
    }
