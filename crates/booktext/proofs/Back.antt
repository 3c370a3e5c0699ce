-- A text in form is the text of the book that it means.
use Rattle.std.proofs.Common.{◌≡◌, ℕ, zero, suc, ◌+◌, ◌-◌, ◌*◌, ◌<◌, ◌≤◌, min, ltb, List, [], ◌∷◌, ◌++◌, map, length, get_or, take, drop, replicate, Some, sym, refl, ap, ◌∙◌, subst, arith}
use Rattle.std.specs.List.{range_with_len, flat_map}
use Rattle.std.proofs.lemmas.List.FromFn.{fill_by_all}
use Rattle.std.proofs.lemmas.List.{append-nil, append_assoc, length-take, length-drop, take_all, take-append-drop, drop_all, drop-drop, drop_more}
use Rattle.std.proofs.lemmas.Bool.{cond-true, cond_both, lt-ltb, ltb-true, ltb-false}
use Rattle.language.specs.Book.{Grammar, KeyForm, size, symbol, kind, spelling}
use Rattle.language.proofs.Told.{place_inside}
use Rattle.booktext.specs.Columns.{Blank, shown, value}
use Rattle.booktext.specs.Text.{Lined, middle_of, field_of, number_at, spelled, spelling_field, text_meaning}
use Rattle.booktext.specs.Form.{asks_number, asks_blank, Holds, Spelling, AllYes, marks, numbers, blanks, head_fields as head_asked, rule_fields, key_fields, head_questions, rule_questions, key_questions, questions}
use Rattle.booktext.specs.Written.{blank, boxed, line_of, head_line, symbol_field, rule_line, spread, key_line, rules_text, keys_text, text_of}
use Rattle.booktext.proofs.Again.{flat, head_fields}
use Rattle.booktext.proofs.Asking.{yes_front, yes_back, yes_at}
use Rattle.booktext.proofs.Laid.{rule_to, spread_to}
use Rattle.booktext.proofs.Meant.{left_answers, size_answers, symbol_inside, kind_answers, spelling_lined, text_rules, text_keys}
use Rattle.booktext.proofs.Order.{steps}
use Rattle.booktext.proofs.Shown.{value_shown}
use Rattle.booktext.proofs.Spelled.{spelled_front, spelled_short}

-- a field in form is written back from its number, or as blanks
number_back : (n j : ℕ) (f : List ℕ) → Holds (asks_number n j f) → boxed (value f) ≡ f
unfolding boxed
number_back n j f (v, l, s) =
    let is : value f ≡ v = ap value (sym s) ∙ value_shown v l in
    ap boxed is ∙ (cond-true (ltb v 10000) (shown 4 v) blank (lt-ltb v 10000 l) ∙ s)

blank_back : (f : List ℕ) → length f ≡ 4 → Blank f → blank ≡ f
blank_back f e h = sym (h ∙ ap (λ n. replicate n 32) e)

-- a spelling in form is written back
spread_back : (s : List ℕ) (n : ℕ) → length s ≡ 24 → Blank (drop n s) → spread_to n s ≡ s
spread_back s n e h =
    let rest : 24 - n ≡ length (drop n s) = omega (arith, length-drop n s) in
    ap (λ z. take n s ++ z) (ap (λ k. replicate k 32) rest ∙ sym h) ∙ take-append-drop n s

spelling_back : (s : List ℕ) → length s ≡ 24 → Spelling s → spread (spelled s) ≡ s
spelling_back s e h =
    ap (λ z. z ++ replicate (24 - length (spelled s)) 32) (take_all 24 (spelled s) (omega (arith, spelled_short s)) ∙ sym (spelled_front s)) ∙ spread_back s (length (spelled s)) e h.rest

-- the fields of columns, and what comes after them, are the columns
module _ (m : List ℕ) where
  fields_back : (j k : ℕ) → flat (map (field_of m) (range_with_len j k)) ++ drop (4 * (j + k)) m ≡ drop (4 * j) m
  fields_back j zero =
      let same : 4 * (j + 0) ≡ 4 * j = omega arith in
      ap (λ n. drop n m) same
  fields_back j (suc k) =
      let last : 4 * (j + suc k) ≡ 4 * (j + 1 + k) = omega arith in
      let next : 4 * (j + 1) ≡ 4 * j + 4 = omega arith in
      append_assoc (field_of m j) (flat (map (field_of m) (range_with_len (j + 1) k))) (drop (4 * (j + suc k)) m)
      ∙ (ap (λ t. field_of m j ++ t) (ap (λ n. flat (map (field_of m) (range_with_len (j + 1) k)) ++ drop n m) last ∙ (fields_back (j + 1) k ∙ (ap (λ n. drop n m) next ∙ sym (drop-drop 4 (4 * j) m))))
      ∙ take-append-drop 4 (drop (4 * j) m))

  module _ (long : length m ≡ 32) where
    -- eight fields
    eight_back : (fs : List (List ℕ)) → fs ≡ map (field_of m) (range_with_len 0 8) → flat fs ≡ m
    eight_back fs e =
        let all = map (field_of m) (range_with_len 0 8) in
        ap flat e ∙ (sym (append-nil (flat all)) ∙ (ap (λ z. flat all ++ z) (sym (drop_all 32 m (omega arith))) ∙ fields_back 0 8))

    -- two fields and a spelling
    three_back : (a b s : List ℕ) → a ≡ field_of m 0 → b ≡ field_of m 1 → s ≡ spelling_field m → flat (a ∷ b ∷ s ∷ []) ≡ m
    three_back a b s ea eb es =
        let last : s ++ [] ≡ drop 8 m = append-nil s ∙ (es ∙ take_all 24 (drop 8 m) (omega (arith, length-drop 8 m))) in
        let whole : field_of m 0 ++ (field_of m 1 ++ drop 8 m) ≡ m = simp append_assoc at (fields_back 0 2) in
        cc

-- lines of a text, by what stands from the line on
module _ (t : List ℕ) where
  line_back : (n letter : ℕ) (fs : List (List ℕ)) → 34 * n + 34 ≤ length t → AllYes (marks letter n t) → flat fs ≡ middle_of t n → drop (34 * n) t ≡ line_of letter fs ++ drop (34 * n + 34) t
  line_back n letter fs l (first, (last, _)) e =
      let after : 34 * n + 1 + 32 ≡ 34 * n + 33 = omega arith in
      let past : 34 * n + 33 + 1 ≡ 34 * n + 34 = omega arith in
      let newline : drop 32 (drop (34 * n + 1) t) ≡ 10 ∷ drop (34 * n + 34) t =
      drop-drop 32 (34 * n + 1) t ∙ (ap (λ k. drop k t) after ∙ (drop_more t (34 * n + 33) 0 (omega arith) ∙ (ap (λ b. b ∷ drop (34 * n + 33 + 1) t) last ∙ ap (λ k. 10 ∷ drop k t) past))) in
      drop_more t (34 * n) 0 (omega arith)
      ∙ (ap (λ b. b ∷ drop (34 * n + 1) t) first
      ∙ ap (λ z. letter ∷ z) (sym (take-append-drop 32 (drop (34 * n + 1) t)) ∙ (ap (λ z. middle_of t n ++ z) newline ∙ (ap (λ z. z ++ (10 ∷ drop (34 * n + 34) t)) (sym e) ∙ sym (append_assoc (flat fs) (10 ∷ []) (drop (34 * n + 34) t))))))

  -- the lines for k numbers from a on, which stand from line b on
  lines_back : (f : ℕ → List ℕ) (a b k : ℕ) → ((i r n : ℕ) → i < k → a + i ≡ r → b + i ≡ n → drop (34 * n) t ≡ f r ++ drop (34 * n + 34) t) → drop (34 * b) t ≡ flat_map f (range_with_len a k) ++ drop (34 * (b + k)) t
  lines_back f a b zero each =
      let same : 34 * b ≡ 34 * (b + 0) = omega arith in
      ap (λ n. drop n t) same
  lines_back f a b (suc k) each =
      let next : 34 * b + 34 ≡ 34 * (b + 1) = omega arith in
      let last : 34 * (b + 1 + k) ≡ 34 * (b + suc k) = omega arith in
      each 0 a b (omega arith) (omega arith) (omega arith)
      ∙ (ap (λ z. f a ++ z) (ap (λ n. drop n t) next ∙ (lines_back f (a + 1) (b + 1) k (λ i r n l e m. each (suc i) r n (omega arith) (omega arith) (omega arith)) ∙ ap (λ n. flat_map f (range_with_len (a + 1) k) ++ drop n t) last))
      ∙ sym (append_assoc (f a) (flat_map f (range_with_len (a + 1) k)) (drop (34 * (b + suc k)) t)))

  middle_long : (n : ℕ) → 34 * n + 34 ≤ length t → length (middle_of t n) ≡ 32
  middle_long n l = length-take 32 (drop (34 * n + 1) t) ∙ omega (arith, length-drop (34 * n + 1) t)

  four_long : (n j : ℕ) → 34 * n + 34 ≤ length t → j < 8 → length (field_of (middle_of t n) j) ≡ 4
  four_long n j l h = length-take 4 (drop (4 * j) (middle_of t n)) ∙ omega (arith, length-drop (4 * j) (middle_of t n), middle_long n l)

  abbrev g : Grammar
  g = (text_meaning t).grammar

  abbrev fs : List KeyForm
  fs = (text_meaning t).forms

  -- the first line
  module _ (l : 34 ≤ length t) where
    abbrev columns : List ℕ
    columns = middle_of t 0

    head_gap : (j : ℕ) → j < 8 → Blank (field_of columns j) → blank ≡ field_of columns j
    head_gap j h b = blank_back (field_of columns j) (four_long 0 j l h) b

    head_each : AllYes (head_asked columns) → head_fields (text_meaning t) ≡ map (field_of columns) (range_with_len 0 8)
    unfolding text_meaning
    head_each (n0, (n1, (n2, (n3, (b4, (b5, (b6, (b7, _)))))))) =
        let e0 = number_back 0 0 (field_of columns 0) n0 in
        let e1 = number_back 0 1 (field_of columns 1) n1 in
        let e2 = number_back 0 2 (field_of columns 2) n2 in
        let e3 = ap boxed (text_rules t) ∙ number_back 0 3 (field_of columns 3) n3 in
        let e4 = head_gap 4 (omega arith) b4 in
        let e5 = head_gap 5 (omega arith) b5 in
        let e6 = head_gap 6 (omega arith) b6 in
        let e7 = head_gap 7 (omega arith) b7 in
        cc

    head_back : AllYes (head_questions t) → t ≡ head_line (text_meaning t) ++ drop 34 t
    head_back h = line_back 0 72 (head_fields (text_meaning t)) l (yes_front (marks 72 0 t) (head_asked columns) h) (eight_back columns (middle_long 0 l) (head_fields (text_meaning t)) (head_each (yes_back (marks 72 0 t) (head_asked columns) h)))

  -- the line of rule r
  module _ (i r n : ℕ) (l : 34 * n + 34 ≤ length t) (few : i < number_at t 0 3) (e : 1 + i ≡ r) (top : 1 + i ≡ n) (h : AllYes (rule_questions t n)) where
    abbrev m : List ℕ
    m = middle_of t n

    abbrev count : ℕ
    count = min (number_at t n 1) 6

    lined : Lined r 1 (number_at t 0 3) 1 (Some n)
    lined = (i, few, e, sym top)

    asked : AllYes (rule_fields n m)
    asked = yes_back (marks 82 n t) (rule_fields n m) h

    size_here : number_at t n 1 ≡ size g r
    size_here = size_answers t r (Some n) lined

    symbol_back : (d : ℕ) → d < size g r → d < 6 → boxed (symbol g r d) ≡ field_of m (suc (suc d))
    symbol_back d inside small =
        let next : 2 + d ≡ suc (suc d) = omega arith in
        let told = yes_front (numbers n m 2 count) (blanks n m (2 + count) (6 - count)) asked.1.1 in
        ap boxed (sym (symbol_inside t r d (Some n) (omega (arith, size_here)) lined) ∙ ap (number_at t n) next)
        ∙ number_back n (suc (suc d)) (field_of m (suc (suc d))) (yes_at (λ k. asks_number n k (field_of m k) ∷ []) 2 d count (suc (suc d)) (omega arith) (omega (arith, size_here)) told).0

    gap_back : (d : ℕ) → size g r ≤ d → d < 6 → blank ≡ field_of m (suc (suc d))
    gap_back d past small =
        let left_out = yes_back (numbers n m 2 count) (blanks n m (2 + count) (6 - count)) asked.1.1 in
        blank_back (field_of m (suc (suc d))) (four_long n (suc (suc d)) l (omega arith))
        (yes_at (λ k. asks_blank n k (field_of m k) ∷ []) (2 + count) (d - count) (6 - count) (suc (suc d)) (omega (arith, size_here)) (omega (arith, size_here)) left_out).0

    rule_each : (j : ℕ) → j < 8 → get_or (rule_to g r (size g r)) j [] ≡ field_of m j
    rule_each zero small = ap boxed (sym (left_answers t r (Some n) lined)) ∙ number_back n 0 (field_of m 0) asked.0
    rule_each (suc zero) small = ap boxed (sym size_here) ∙ number_back n 1 (field_of m 1) asked.1.0
    rule_each (suc (suc d)) small =
        place_inside (symbol_field g r (size g r)) 6 d [] (omega arith)
        ∙ cond_both (ltb d (size g r)) (boxed (symbol g r d)) blank (λ f. f ≡ field_of m (suc (suc d)))
        (λ is. symbol_back d (ltb-true d (size g r) is) (omega arith))
        (λ is. gap_back d (ltb-false d (size g r) is) (omega arith))

    rule_back : drop (34 * n) t ≡ rule_line g r ++ drop (34 * n + 34) t
    rule_back =
        line_back n 82 (rule_to g r (size g r)) l (yes_front (marks 82 n t) (rule_fields n m) h)
        (eight_back m (middle_long n l) (rule_to g r (size g r)) (fill_by_all (field_of m) (rule_to g r (size g r)) 8 [] refl rule_each))

  -- the line of key c
  module _ (i c n : ℕ) (l : 34 * n + 34 ≤ length t) (few : i < number_at t 0 1) (e : 33 + i ≡ c) (top : 1 + number_at t 0 3 + i ≡ n) (h : AllYes (marks 75 n t ++ key_fields n (middle_of t n) i)) where
    found : Lined c 33 (number_at t 0 1) (1 + number_at t 0 3) (Some n)
    found = (i, few, e, sym top)

    key_back : drop (34 * n) t ≡ key_line fs c ++ drop (34 * n + 34) t
    key_back =
        let m = middle_of t n in
        let long = middle_long n l in
        let wide : length (spelling_field m) ≡ 24 = length-take 24 (drop 8 m) ∙ omega (arith, length-drop 8 m, long) in
        let (number_yes, (kind_yes, (spelling_yes, (place_yes, _)))) = yes_back (marks 75 n t) (key_fields n m i) h in
        line_back n 75 (boxed c ∷ boxed (kind fs c) ∷ spread (spelling fs c) ∷ []) l (yes_front (marks 75 n t) (key_fields n m i) h)
        (three_back m long (boxed c) (boxed (kind fs c)) (spread (spelling fs c))
        (ap boxed (sym (place_yes ∙ e)) ∙ number_back n 0 (field_of m 0) number_yes)
        (ap boxed (sym (kind_answers t c (Some n) found)) ∙ number_back n 1 (field_of m 1) kind_yes)
        (ap spread (sym (spelling_lined t c n found)) ∙ spelling_back (spelling_field m) wide spelling_yes))

  -- the whole text, whether the book is sound or not
  pub back_again : AllYes (questions t) → text_of (text_meaning t) ≡ t
  unfolding text_of rules_text keys_text
  back_again h =
      let yes = steps t h in
      let rules = number_at t 0 3 in
      let keys = number_at t 0 1 in
      let long : length t ≡ 34 * (1 + rules + keys) = yes.counted_yes.0 in
      let rules_are : drop 34 t ≡ rules_text (text_meaning t) ++ drop (34 * (1 + rules)) t =
      lines_back (rule_line g) 1 1 rules (λ i r n l e top. rule_back i r n (omega arith) l e top (yes_at (rule_questions t) 1 i rules n top l yes.rules_yes))
      ∙ ap (λ k. flat_map (rule_line g) (range_with_len 1 k) ++ drop (34 * (1 + rules)) t) (sym (text_rules t)) in
      let keys_are : drop (34 * (1 + rules)) t ≡ keys_text (text_meaning t) =
      lines_back (key_line fs) 33 (1 + rules) keys (λ i c n l e top. key_back i c n (omega arith) l e top (subst (λ k. AllYes (marks 75 k t ++ key_fields k (middle_of t k) i)) top (yes_at (key_questions t (1 + rules)) 0 i keys i (omega arith) l yes.keys_yes)))
      ∙ (ap (λ z. flat_map (key_line fs) (range_with_len 33 keys) ++ z) (drop_all (34 * (1 + rules + keys)) t (omega arith))
      ∙ (append-nil _ ∙ ap (λ k. flat_map (key_line fs) (range_with_len 33 k)) (sym (text_keys t)))) in
      sym (head_back yes.long_yes.0.1 yes.head_yes ∙ ap (λ z. head_line (text_meaning t) ++ z) (rules_are ∙ ap (λ z. rules_text (text_meaning t) ++ z) keys_are))
