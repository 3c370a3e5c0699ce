-- What the text of a book means is the book again.
use Rattle.std.proofs.Common.{◌≡◌, ℕ, zero, suc, ◌+◌, ◌-◌, ◌*◌, ◌<◌, ◌≤◌, cond, eqb, ltb, List, [], ◌∷◌, ◌++◌, map, length, get_or, take, drop, replicate, sym, refl, ap, ◌∙◌, ⊎_elim, arith}
use mathlib.Core.Logic.{∥∥₁_elim}
use mathlib.Core.HLevel.{⊥_prop}
use native.Mathlib.Bridge.{le_prop}
use Rattle.std.specs.List.{range_with_len, flat_map}
use Rattle.std.proofs.lemmas.List.FromFn.{fill_by_all}
use Rattle.std.proofs.lemmas.List.{append_assoc, length-append, take_all, take_at, drop_at, drop-drop, get_or_at}
use Rattle.std.proofs.lemmas.Bool.{cond-true, cond-false, lt-ltb, ne_eqb}
use Rattle.language.specs.Book.{Rule, KeyForm, norule, noform, Grammar, Meaning, Numbered, Key, rule, left, size, symbol, form, kind, spelling}
use Rattle.language.specs.Sound.{Sound, CountsFit, RuleFits, FormFits, named, figure, shortened, Letter, small, hyphen, Lettered}
use Rattle.language.proofs.Told.{place_inside, rule_place, form_place}
use Rattle.soundbook.specs.Rows.{form_of}
use Rattle.soundbook.specs.Tables.{meaning_of}
use Rattle.soundbook.specs.declared.tables.TableOf.{TableOf}
use Rattle.soundbook.proofs.Listing.{read_long}
use Rattle.booktext.specs.Columns.{shown, value}
use Rattle.booktext.specs.Text.{middle_of, field_of, number_at, rule_at, form_at, text_meaning, spelled, spelling_field}
use Rattle.booktext.specs.Written.{blank, boxed, line_of, head_line, symbol_field, rule_line, key_line, spread, rules_text, keys_text, text_of}
use Rattle.booktext.proofs.Shown.{value_shown}
use Rattle.booktext.proofs.Laid.{Fours, rule_to, rule_four, boxed_length}
use Rattle.booktext.proofs.Filled.{lines_length, head_length, rule_length, key_length, flat_length, rules_length, spread_length}

-- the fields of a line, one after another
abbrev pub flat : List (List ℕ) → List ℕ
flat fs = flat_map (λ f. f) fs

-- the line with these fields stands after n others
pub record Lies (t : List ℕ) (n letter : ℕ) (fs : List (List ℕ)) : Type 0 where
  pub pre : List ℕ
  pub rest : List ℕ
  pub split : t ≡ pre ++ (line_of letter fs ++ rest)
  pub before : length pre ≡ 34 * n
  pub wide : length (flat fs) ≡ 32

module _ (t : List ℕ) (n letter : ℕ) (fs : List (List ℕ)) (l : Lies t n letter fs) where
  pub middle_at : middle_of t n ≡ flat fs
  middle_at =
      ap (take 32) (sym (drop-drop 1 (34 * n) t) ∙ ap (drop 1) (ap (drop (34 * n)) l.split ∙ drop_at l.pre (line_of letter fs ++ l.rest) (34 * n) l.before))
      ∙ (ap (take 32) (append_assoc (flat fs) (10 ∷ []) l.rest) ∙ take_at (flat fs) ((10 ∷ []) ++ l.rest) 32 l.wide)

  pub letter_at : get_or t (34 * n) 0 ≡ letter
  letter_at = ap (λ z. get_or z (34 * n) 0) l.split ∙ get_or_at l.pre letter ((flat fs ++ (10 ∷ [])) ++ l.rest) 0 (34 * n) l.before

  pub newline_at : get_or t (34 * n + 33) 0 ≡ 10
  newline_at =
      ap (λ z. get_or z (34 * n + 33) 0) (l.split ∙ regroup l.pre (flat fs) l.rest)
      ∙ get_or_at (l.pre ++ (letter ∷ flat fs)) 10 l.rest 0 (34 * n + 33) (omega (arith, length-append l.pre (letter ∷ flat fs), l.before, l.wide)) where
        regroup : (a b c : List ℕ) → a ++ ((letter ∷ (b ++ (10 ∷ []))) ++ c) ≡ (a ++ (letter ∷ b)) ++ (10 ∷ c)
        regroup a b c = simp append_assoc

-- a field of it
pub field_at : (fs : List (List ℕ)) (j : ℕ) → Fours fs → j < length fs → field_of (flat fs) j ≡ get_or fs j []
field_at [] j h l = absurd (omega arith)
field_at (f ∷ fs) zero h l = take_at f (flat fs) 4 h.0
field_at (f ∷ fs) (suc j) h l =
    let next : 4 * suc j ≡ 4 + 4 * j = omega arith in
    ap (take 4) (ap (λ n. drop n (f ++ flat fs)) next ∙ (sym (drop-drop (4 * j) 4 (f ++ flat fs)) ∙ ap (drop (4 * j)) (drop_at f (flat fs) 4 h.0)))
    ∙ field_at fs j h.1 (omega arith)

pub value_boxed : (v : ℕ) → v < 10000 → value (boxed v) ≡ v
unfolding boxed
value_boxed v h = ap value (cond-true (ltb v 10000) (shown 4 v) blank (lt-ltb v 10000 h)) ∙ value_shown v h

-- the line for number a + i among those from a on
module _ (f : ℕ → List ℕ) where
  pub lines_split : (a n i j : ℕ) → a + i ≡ j → i < n → flat_map f (range_with_len a n) ≡ flat_map f (range_with_len a i) ++ (f j ++ flat_map f (range_with_len (j + 1) (n - (i + 1))))
  lines_split a zero i j e l = absurd (omega arith)
  lines_split a (suc n) zero j e l =
      let same : a ≡ j = omega arith in
      let left_over : n ≡ suc n - (0 + 1) = omega arith in
      ap (λ k. f k ++ flat_map f (range_with_len (k + 1) n)) same ∙ ap (λ k. f j ++ flat_map f (range_with_len (j + 1) k)) left_over
  lines_split a (suc n) (suc i) j e l =
      let left_over : n - (i + 1) ≡ suc n - (suc i + 1) = omega arith in
      ap (λ t. f a ++ t) (lines_split (a + 1) n i j (omega arith) (omega arith) ∙ ap (λ k. flat_map f (range_with_len (a + 1) i) ++ (f j ++ flat_map f (range_with_len (j + 1) k))) left_over)
      ∙ sym (append_assoc (f a) (flat_map f (range_with_len (a + 1) i)) (f j ++ flat_map f (range_with_len (j + 1) (suc n - (suc i + 1)))))

meaning_same : (p p' k k' s s' : ℕ) (rs rs' : List Rule) (fs fs' : List KeyForm) → p ≡ p' → k ≡ k' → s ≡ s' → rs ≡ rs' → fs ≡ fs' → ◌≡◌ {A = Meaning} (record { grammar = record { parts = p; keys = k; start = s; rules = rs }; forms = fs }) (record { grammar = record { parts = p'; keys = k'; start = s'; rules = rs' }; forms = fs' })
meaning_same p p' k k' s s' rs rs' fs fs' ep ek es er ef = cc

-- a spelling in its columns, cut off at the first space
spelled_blank : (k : ℕ) → spelled (replicate k 32) ≡ []
spelled_blank zero = refl
spelled_blank (suc k) = refl

spelled_again : (s : List ℕ) (k : ℕ) → ((j : ℕ) → j < length s → get_or s j 0 ≡ 32 → ⊥) → spelled (s ++ replicate k 32) ≡ s
spelled_again [] k h = spelled_blank k
spelled_again (x ∷ s) k h =
    cond-false (eqb x 32) [] (x ∷ spelled (s ++ replicate k 32)) (ne_eqb x 32 (h 0 (omega arith)))
    ∙ ap (λ t. x ∷ t) (spelled_again s k (λ j l. h (suc j) (omega arith)))

letter_apart : (b x : ℕ) → x ≤ 32 → Letter b → b ≡ x → ⊥
letter_apart b x l (small low high) e = omega arith
letter_apart b x l (hyphen is) e = omega arith

-- what the form of a key of a sound book keeps to
pub record Spread (w : KeyForm) : Type 0 where
  pub few : w.kind < 10000
  pub short : length w.spelling ≤ 24
  pub apart : (x : ℕ) → x ≤ 32 → (j : ℕ) → j < length w.spelling → get_or w.spelling j 0 ≡ x → ⊥

lettered_apart : (least : ℕ) (s : List ℕ) → Lettered least s → (x : ℕ) → x ≤ 32 → (j : ℕ) → j < length s → get_or s j 0 ≡ x → ⊥
lettered_apart least s h x m j l e = letter_apart (get_or s j 0) x m (h.letters j l) e

form_spread : (w : KeyForm) → FormFits w → Spread w
form_spread w (named k h) = record { few = omega arith; short = h.high; apart = lettered_apart 1 w.spelling h }
form_spread w (figure k h) = record { few = omega arith; short = omega arith; apart = λ x m j l e. omega arith }
form_spread w (shortened k h) = record { few = omega arith; short = h.high; apart = lettered_apart 3 w.spelling h }

pub spread_again : (s : List ℕ) → length s ≤ 24 → ((j : ℕ) → j < length s → get_or s j 0 ≡ 32 → ⊥) → spelled (spread s) ≡ s
spread_again s l h = ap (λ t. spelled (t ++ replicate (24 - length s) 32)) (take_all 24 s l) ∙ spelled_again s (24 - length s) h

-- what the text of a book rests on: numbers of at most four figures, few symbols, short spellings without spaces and newlines
pub record Fitting (m : Meaning) : Type 0 where
  pub parts : m.grammar.parts < 10000
  pub keys : m.grammar.keys ≤ 32
  pub start : m.grammar.start < 10000
  pub rules : length m.grammar.rules ≤ 128
  pub lefts : (r : ℕ) → Numbered m.grammar r → (rule m.grammar.rules r).head < 10000
  pub sizes : (r : ℕ) → Numbered m.grammar r → length (rule m.grammar.rules r).body ≤ 6
  pub symbols : (r : ℕ) → Numbered m.grammar r → (k : ℕ) → k < length (rule m.grammar.rules r).body → get_or (rule m.grammar.rules r).body k 0 < 10000
  pub kinds : (c : ℕ) → Key m.grammar c → (form m.forms c).kind < 10000
  pub shorts : (c : ℕ) → Key m.grammar c → length (form m.forms c).spelling ≤ 24
  pub apart : (c : ℕ) → Key m.grammar c → (x : ℕ) → x ≤ 32 → (j : ℕ) → j < length (form m.forms c).spelling → get_or (form m.forms c).spelling j 0 ≡ x → ⊥

symbol_small : (g : Grammar) (w : Rule) → CountsFit g → RuleFits g w → (k : ℕ) → k < length w.body → get_or w.body k 0 < 10000
symbol_small g w counts fits k h = ⊎_elim (λ p. omega (arith, p.high, counts.few_parts)) (λ p. omega (arith, p.high, counts.few_keys)) (fits.symbols k h)

pub fitting : (m : Meaning) → ∥ Sound m ∥₁ → Fitting m
fitting m h = record {
  parts = ∥∥₁_elim h le_prop (λ w. omega (arith, w.formed.counts.few_parts));
  keys = ∥∥₁_elim h le_prop (λ w. w.formed.counts.few_keys);
  start = ∥∥₁_elim h le_prop (λ w. omega (arith, w.formed.counts.start_part.high, w.formed.counts.few_parts));
  rules = ∥∥₁_elim h le_prop (λ w. w.formed.counts.few_rules);
  lefts = λ r n. ∥∥₁_elim h le_prop (λ w. omega (arith, (w.formed.rules r n).turns.high, w.formed.counts.few_parts));
  sizes = λ r n. ∥∥₁_elim h le_prop (λ w. (w.formed.rules r n).few_symbols);
  symbols = λ r n k l. ∥∥₁_elim h le_prop (λ w. symbol_small m.grammar (rule m.grammar.rules r) w.formed.counts (w.formed.rules r n) k l);
  kinds = λ c k. ∥∥₁_elim h le_prop (λ w. (form_spread (form m.forms c) (w.formed.keys c k)).few);
  shorts = λ c k. ∥∥₁_elim h le_prop (λ w. (form_spread (form m.forms c) (w.formed.keys c k)).short);
  apart = λ c k x s j l e. ∥∥₁_elim h ⊥_prop (λ w. (form_spread (form m.forms c) (w.formed.keys c k)).apart x s j l e);
}

module _ (m : Meaning) where
  abbrev pub g : Grammar
  g = m.grammar

  abbrev pub head_fields : List (List ℕ)
  head_fields = boxed g.parts ∷ boxed g.keys ∷ boxed g.start ∷ boxed (length g.rules) ∷ blank ∷ blank ∷ blank ∷ blank ∷ []

  pub head_four : Fours head_fields
  head_four = (boxed_length _, (boxed_length _, (boxed_length _, (boxed_length _, (refl, (refl, (refl, (refl, tt))))))))

  pub head_lies : Lies (text_of m) 0 72 head_fields
  unfolding text_of
  head_lies = record { pre = []; rest = rules_text m ++ keys_text m; split = refl; before = refl; wide = flat_length head_fields head_four }

  pub rule_lies : (r i : ℕ) → 1 + i ≡ r → i < length g.rules → Lies (text_of m) r 82 (rule_to g r (size g r))
  unfolding text_of rules_text
  rule_lies r i e l =
      let before = flat_map (rule_line g) (range_with_len 1 i) in
      let after = flat_map (rule_line g) (range_with_len (r + 1) (length g.rules - (i + 1))) in
      record {
        pre = head_line m ++ before;
        rest = after ++ keys_text m;
        split = ap (λ t. head_line m ++ (t ++ keys_text m)) (lines_split (rule_line g) 1 (length g.rules) i r e l) ∙ regroup (head_line m) before (rule_line g r) after (keys_text m);
        before = omega (arith, length-append (head_line m) before, head_length m, lines_length (rule_line g) (rule_length g) 1 i);
        wide = flat_length (rule_to g r (size g r)) (rule_four g r (size g r));
      } where
        regroup : (a b c d e : List ℕ) → a ++ ((b ++ (c ++ d)) ++ e) ≡ (a ++ b) ++ (c ++ (d ++ e))
        regroup a b c d e = simp append_assoc

  -- the fields of the first line and of a rule
  pub head_field : (j : ℕ) → j < 8 → field_of (middle_of (text_of m) 0) j ≡ get_or head_fields j []
  head_field j l = ap (λ t. field_of t j) (middle_at (text_of m) 0 72 head_fields head_lies) ∙ field_at head_fields j head_four l

  pub rule_field : (r i j : ℕ) → 1 + i ≡ r → i < length g.rules → j < 8 → field_of (middle_of (text_of m) r) j ≡ get_or (rule_to g r (size g r)) j []
  rule_field r i j e l h =
      ap (λ t. field_of t j) (middle_at (text_of m) r 82 (rule_to g r (size g r)) (rule_lies r i e l)) ∙ field_at (rule_to g r (size g r)) j (rule_four g r (size g r)) h

  -- the numbers of the first line and of a rule
  number_head : (j v : ℕ) → j < 8 → get_or head_fields j [] ≡ boxed v → v < 10000 → number_at (text_of m) 0 j ≡ v
  number_head j v l e h = ap value (head_field j l ∙ e) ∙ value_boxed v h

  number_rule : (r i j v : ℕ) → 1 + i ≡ r → i < length g.rules → j < 8 → get_or (rule_to g r (size g r)) j [] ≡ boxed v → v < 10000 → number_at (text_of m) r j ≡ v
  number_rule r i j v e l h is few = ap value (rule_field r i j e l h ∙ is) ∙ value_boxed v few

  module _ (fit : Fitting m) where
    -- the rule in a line is the rule that was written there
    module _ (r i : ℕ) (e : 1 + i ≡ r) (l : i < length g.rules) where
      pub there : Numbered g r
      there = record { low = omega arith; high = omega arith }

      pub head_is : number_at (text_of m) r 0 ≡ (rule g.rules r).head
      head_is = number_rule r i 0 (left g r) e l (omega arith) refl (fit.lefts r there)

      pub size_is : number_at (text_of m) r 1 ≡ length (rule g.rules r).body
      size_is = number_rule r i 1 (size g r) e l (omega arith) refl (omega (arith, fit.sizes r there))

      symbol_is : (k : ℕ) → k < length (rule g.rules r).body → get_or (rule g.rules r).body k 0 ≡ cond (ltb k 6) (number_at (text_of m) r (2 + k)) 0
      symbol_is k h =
          let few : k < 6 = omega (arith, fit.sizes r there) in
          let place : 2 + k ≡ suc (suc k) = omega arith in
          let stands : get_or (rule_to g r (size g r)) (2 + k) [] ≡ boxed (symbol g r k) =
          ap (λ n. get_or (rule_to g r (size g r)) n []) place ∙ (place_inside (symbol_field g r (size g r)) 6 k [] few ∙ cond-true (ltb k (size g r)) (boxed (symbol g r k)) blank (lt-ltb k (size g r) h)) in
          sym (cond-true (ltb k 6) (number_at (text_of m) r (2 + k)) 0 (lt-ltb k 6 few) ∙ number_rule r i (2 + k) (symbol g r k) e l (omega arith) stands (fit.symbols r there k h))

      pub rule_again : rule_at (text_of m) r ≡ rule g.rules r
      rule_again =
          let at : ℕ → ℕ = λ j. cond (ltb j 6) (number_at (text_of m) r (2 + j)) 0 in
          let w = rule g.rules r in
          let body : map at (range_with_len 0 (number_at (text_of m) r 1)) ≡ w.body =
          ap (λ n. map at (range_with_len 0 n)) size_is ∙ sym (fill_by_all at w.body (length w.body) 0 refl symbol_is) in
          ap (λ h. record { head = h; body = map at (range_with_len 0 (number_at (text_of m) r 1)) }) head_is ∙ ap (λ b. record { head = w.head; body = b }) body

    -- the form in a line is that of the key that was written there
    module _ (c i n : ℕ) (e : 33 + i ≡ c) (top : n ≡ 1 + length g.rules + i) (l : i < g.keys) where
      abbrev pub s : List ℕ
      s = spelling m.forms c

      abbrev pub fields : List (List ℕ)
      fields = boxed c ∷ boxed (kind m.forms c) ∷ spread s ∷ []

      key_flat : length (flat fields) ≡ 32
      key_flat = omega (arith, length-append (flat fields) (10 ∷ []), key_length m.forms c)

      pub key_lies : Lies (text_of m) n 75 fields
      unfolding text_of keys_text
      key_lies =
          let before = flat_map (key_line m.forms) (range_with_len 33 i) in
          let after = flat_map (key_line m.forms) (range_with_len (c + 1) (g.keys - (i + 1))) in
          record {
            pre = head_line m ++ (rules_text m ++ before);
            rest = after;
            split = ap (λ t. head_line m ++ (rules_text m ++ t)) (lines_split (key_line m.forms) 33 g.keys i c e l) ∙ regroup_keys (head_line m) (rules_text m) before (key_line m.forms c) after;
            before = omega (arith, length-append (head_line m) (rules_text m ++ before), length-append (rules_text m) before, head_length m, rules_length m, lines_length (key_line m.forms) (key_length m.forms) 33 i);
            wide = key_flat;
          } where
            regroup_keys : (a b c d e : List ℕ) → a ++ (b ++ (c ++ (d ++ e))) ≡ (a ++ (b ++ c)) ++ (d ++ e)
            regroup_keys a b c d e = simp append_assoc

      pub key_middle : middle_of (text_of m) n ≡ flat fields
      key_middle = middle_at (text_of m) n 75 fields key_lies

      pub past_number : drop 4 (flat fields) ≡ boxed (kind m.forms c) ++ (spread s ++ [])
      past_number = drop_at (boxed c) (boxed (kind m.forms c) ++ (spread s ++ [])) 4 (boxed_length c)

      pub here : Key g c
      here = record { low = omega arith; high = omega arith }

      kind_is : number_at (text_of m) n 1 ≡ (form m.forms c).kind
      kind_is =
          ap (λ t. value (field_of t 1)) key_middle
          ∙ (ap (λ t. value (take 4 t)) past_number ∙ (ap value (take_at (boxed (kind m.forms c)) (spread s ++ []) 4 (boxed_length (kind m.forms c))) ∙ value_boxed (kind m.forms c) (fit.kinds c here)))

      spelling_is : spelled (spelling_field (middle_of (text_of m) n)) ≡ (form m.forms c).spelling
      spelling_is =
          let back : drop 8 (flat fields) ≡ spread s ++ [] =
          sym (drop-drop 4 4 (flat fields)) ∙ (ap (drop 4) past_number ∙ drop_at (boxed (kind m.forms c)) (spread s ++ []) 4 (boxed_length (kind m.forms c))) in
          ap (λ t. spelled (spelling_field t)) key_middle
          ∙ (ap (λ t. spelled (take 24 t)) back ∙ (ap spelled (take_at (spread s) [] 24 (spread_length s)) ∙ spread_again s (fit.shorts c here) (fit.apart c here 32 (omega arith))))

      pub form_again : form_at (text_of m) n ≡ form m.forms c
      form_again =
          ap (λ k. record { kind = k; spelling = spelled (spelling_field (middle_of (text_of m) n)) }) kind_is ∙ ap (λ x. record { kind = (form m.forms c).kind; spelling = x }) spelling_is

    pub parts_is : number_at (text_of m) 0 0 ≡ g.parts
    parts_is = number_head 0 g.parts (omega arith) refl fit.parts

    pub keys_is : number_at (text_of m) 0 1 ≡ g.keys
    keys_is = number_head 1 g.keys (omega arith) refl (omega (arith, fit.keys))

    pub start_is : number_at (text_of m) 0 2 ≡ g.start
    start_is = number_head 2 g.start (omega arith) refl fit.start

    pub rules_is : number_at (text_of m) 0 3 ≡ length g.rules
    rules_is = number_head 3 (length g.rules) (omega arith) refl (omega (arith, fit.rules))

    rules_again : map (λ i. rule_at (text_of m) (1 + i)) (range_with_len 0 (number_at (text_of m) 0 3)) ≡ g.rules
    rules_again =
        let f : ℕ → Rule = λ i. rule_at (text_of m) (1 + i) in
        ap (λ n. map f (range_with_len 0 n)) rules_is
        ∙ sym (fill_by_all f g.rules (length g.rules) norule refl
        (λ k l. let next : k + 1 ≡ 1 + k = omega arith in
        sym (rule_place g.rules k) ∙ (ap (rule g.rules) next ∙ sym (rule_again (1 + k) k refl l))))

    forms_again : length m.forms ≡ g.keys → map (λ i. form_at (text_of m) (1 + number_at (text_of m) 0 3 + i)) (range_with_len 0 (number_at (text_of m) 0 1)) ≡ m.forms
    forms_again each =
        let f : ℕ → KeyForm = λ i. form_at (text_of m) (1 + number_at (text_of m) 0 3 + i) in
        ap (λ n. map f (range_with_len 0 n)) keys_is
        ∙ sym (fill_by_all f m.forms g.keys noform each
        (λ k l. sym (form_place m.forms k) ∙ sym (form_again (33 + k) k (1 + number_at (text_of m) 0 3 + k) refl (omega (arith, rules_is)) l)))

    -- the whole book again, where every key has one form
    pub text_again : length m.forms ≡ g.keys → text_meaning (text_of m) ≡ m
    unfolding text_meaning
    text_again each = meaning_same _ _ _ _ _ _ _ _ _ _ parts_is keys_is start_is rules_again (forms_again each)

-- every key of a table has one form
pub each_form : {R K : ℕ} (t : TableOf R K) → length (meaning_of t).forms ≡ (meaning_of t).grammar.keys
unfolding meaning_of
each_form t = read_long t.keys form_of
