-- A space that is filled with the lines of a book.
use Rattle.std.proofs.Common.{◌≡◌, ℕ, zero, suc, ◌+◌, ◌-◌, ◌*◌, ◌≤◌, List, [], ◌∷◌, ◌++◌, length, take, replicate, sym, refl, ap, ◌∙◌, arith}
use Rattle.std.specs.List.{range_with_len, flat_map}
use Rattle.std.proofs.lemmas.List.{append-nil, append_assoc, length-append, length-take, length-replicate}
use Rattle.language.specs.Book.{Grammar, KeyForm, Meaning, size, kind, spelling}
use Rattle.booktext.specs.Written.{put, blank, boxed, line_of, head_line, rule_line, key_line, spread, rules_text, keys_text, lines_in, text_of}
use Rattle.booktext.proofs.Laid.{Fours, put_put, boxed_length, rule_to, rule_four}

-- every line has 34 bytes
pub flat_length : (fs : List (List ℕ)) → Fours fs → length (flat_map (λ f. f) fs) ≡ 4 * length fs
flat_length [] h = refl
flat_length (f ∷ fs) h = length-append f (flat_map (λ f. f) fs) ∙ omega (arith, h.0, flat_length fs h.1)

line_length : (letter : ℕ) (fs : List (List ℕ)) → length fs ≡ 8 → Fours fs → length (line_of letter fs) ≡ 34
line_length letter fs e h = omega (arith, length-append (flat_map (λ f. f) fs) (10 ∷ []), flat_length fs h)

pub head_length : (m : Meaning) → length (head_line m) ≡ 34
head_length m =
    line_length 72 (boxed m.grammar.parts ∷ boxed m.grammar.keys ∷ boxed m.grammar.start ∷ boxed (length m.grammar.rules) ∷ blank ∷ blank ∷ blank ∷ blank ∷ []) refl
    (boxed_length _, (boxed_length _, (boxed_length _, (boxed_length _, (refl, (refl, (refl, (refl, tt))))))))

pub rule_length : (g : Grammar) (r : ℕ) → length (rule_line g r) ≡ 34
rule_length g r = line_length 82 (rule_to g r (size g r)) refl (rule_four g r (size g r))

pub spread_length : (s : List ℕ) → length (spread s) ≡ 24
spread_length s = omega (arith, length-append (take 24 s) (replicate (24 - length s) 32), length-take 24 s, length-replicate {A = ℕ} (24 - length s) 32)

pub key_length : (fs : List KeyForm) (c : ℕ) → length (key_line fs c) ≡ 34
key_length fs c =
    let a = boxed c in
    let b = boxed (kind fs c) in
    let s = spread (spelling fs c) in
    omega (arith, length-append (a ++ (b ++ (s ++ []))) (10 ∷ []), length-append a (b ++ (s ++ [])), length-append b (s ++ []), length-append s [], boxed_length c, boxed_length (kind fs c), spread_length (spelling fs c))

-- lines for each number from a on
module _ (f : ℕ → List ℕ) (each : (i : ℕ) → length (f i) ≡ 34) where
  pub lines_length : (a k : ℕ) → length (flat_map f (range_with_len a k)) ≡ 34 * k
  lines_length a zero = refl
  lines_length a (suc k) = length-append (f a) (flat_map f (range_with_len (a + 1) k)) ∙ omega (arith, each a, lines_length (a + 1) k)

  lines_more : (a k j : ℕ) → a + k ≡ j → flat_map f (range_with_len a (suc k)) ≡ flat_map f (range_with_len a k) ++ f j
  lines_more a zero j e =
      let same : a ≡ j = omega arith in
      append-nil (f a) ∙ ap f same
  lines_more a (suc k) j e =
      ap (λ t. f a ++ t) (lines_more (a + 1) k j (omega arith)) ∙ sym (append_assoc (f a) (flat_map f (range_with_len (a + 1) k)) (f j))

  -- one line more after those that stand from b on
  pub filled_more : (xs was is line : List ℕ) (b c a k j n : ℕ) → was ≡ put xs b (flat_map f (range_with_len a k)) → is ≡ put was c line → line ≡ f j → a + k ≡ j → c ≡ b + 34 * k → c ≤ length xs → n ≡ suc k → is ≡ put xs b (flat_map f (range_with_len a n))
  filled_more xs was is line b c a k j n e at same e_j e_c l e_n =
      at
      ∙ (ap (λ t. put t c line) e
      ∙ (ap (put (put xs b (flat_map f (range_with_len a k))) c) same
      ∙ (put_put xs (flat_map f (range_with_len a k)) (f j) b c (omega (arith, lines_length a k)) l
      ∙ ap (put xs b) (sym (lines_more a k j e_j) ∙ ap (λ i. flat_map f (range_with_len a i)) (sym e_n)))))

-- the same lines by another count and place
pub filled_all : (f : ℕ → List ℕ) (xs is : List ℕ) (b c a k n : ℕ) → is ≡ put xs b (flat_map f (range_with_len a k)) → b ≡ c → k ≡ n → is ≡ put xs c (flat_map f (range_with_len a n))
filled_all f xs is b c a k n e same all = e ∙ (ap (λ m. put xs m (flat_map f (range_with_len a k))) same ∙ ap (λ m. put xs c (flat_map f (range_with_len a m))) all)

pub rules_length : (m : Meaning) → length (rules_text m) ≡ 34 * length m.grammar.rules
unfolding rules_text
rules_length m = lines_length (rule_line m.grammar) (rule_length m.grammar) 1 (length m.grammar.rules)

pub keys_length : (m : Meaning) → length (keys_text m) ≡ 34 * m.grammar.keys
unfolding keys_text
keys_length m = lines_length (key_line m.forms) (key_length m.forms) 33 m.grammar.keys

pub text_length : (m : Meaning) → length (text_of m) ≡ 34 * lines_in m
unfolding text_of
text_length m =
    omega (arith, length-append (head_line m) (rules_text m ++ keys_text m), length-append (rules_text m) (keys_text m), head_length m, rules_length m, keys_length m)
