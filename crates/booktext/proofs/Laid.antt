-- Fields laid into lines, and lines laid into a space.
use Rattle.std.proofs.Common.{◌≡◌, ℕ, zero, suc, ◌+◌, ◌-◌, ◌*◌, ◌^◌, ◌<◌, ◌≤◌, min, ltb, List, [], ◌∷◌, ◌++◌, map, length, get_or, take, drop, set, replicate, Decides, Ok, Err, OnOk, OnErr, Result, is_ok, sym, refl, ap, ◌∙◌, ⊎_elim, arith}
use Rattle.std.specs.List.{range_with_len, flat_map}
use Rattle.std.proofs.lemmas.List.FromFn.{length-map-range_with_len}
use Rattle.std.proofs.lemmas.List.{append-nil, append_assoc, length-append, length-take, drop_at, drop-drop, set_at, take_more}
use Rattle.std.proofs.lemmas.Bool.{false≢true, cases_lt, cond-true, cond-false, cond_both, lt-ltb, le-ltb}
use Rattle.language.specs.Book.{Grammar, KeyForm, Meaning, left, size, symbol, kind, spelling}
use Rattle.booktext.specs.Columns.{shown}
use Rattle.booktext.specs.Written.{put, blank, boxed, line_of, head_line, symbol_field, key_line, spread}
use Rattle.booktext.proofs.Spelled.{take_min}

-- past the front f
pub put_later : (f xs : List ℕ) (a k : ℕ) (ys : List ℕ) → k ≡ length f + a → put (f ++ xs) k ys ≡ f ++ put xs a ys
put_later [] xs a k ys e =
    let same : k ≡ a = omega arith in
    ap (λ n. put xs n ys) same
put_later (x ∷ f) xs a zero ys e = absurd (omega arith)
put_later (x ∷ f) xs a (suc k) ys e =
    let step : suc k + length ys ≡ suc (k + length ys) = omega arith in
    ap (λ d. x ∷ (take k (f ++ xs) ++ (ys ++ drop d (x ∷ (f ++ xs))))) step ∙ ap (λ t. x ∷ t) (put_later f xs a k ys (omega arith))

-- one after another
pub put_put : (xs ys zs : List ℕ) (a b : ℕ) → b ≡ a + length ys → b ≤ length xs → put (put xs a ys) b zs ≡ put xs a (ys ++ zs)
put_put xs ys zs a b e h =
    let front : b ≡ length (take a xs ++ ys) + 0 = omega (arith, length-append (take a xs) ys, length-take a xs) in
    let past : a + length ys + (0 + length zs) ≡ a + length (ys ++ zs) = omega (arith, length-append ys zs) in
    ap (λ t. put t b zs) (sym (append_assoc (take a xs) ys (drop (a + length ys) xs)))
    ∙ (put_later (take a xs ++ ys) (drop (a + length ys) xs) 0 b zs front
    ∙ (ap (λ t. (take a xs ++ ys) ++ (zs ++ t)) (drop-drop (0 + length zs) (a + length ys) xs ∙ ap (λ n. drop n xs) past)
    ∙ (append_assoc (take a xs) ys (zs ++ drop (a + length (ys ++ zs)) xs)
    ∙ ap (λ t. take a xs ++ t) (sym (append_assoc ys zs (drop (a + length (ys ++ zs)) xs))))))

-- a field has four columns
pub boxed_length : (v : ℕ) → length (boxed v) ≡ 4
unfolding boxed
boxed_length v = cond_both (ltb v 10000) (shown 4 v) blank (λ f. length f ≡ 4) (λ _. refl) (λ _. refl)

pub boxed_set : {X E : Type 0} (v : ℕ) (r : Result X E) (f : List ℕ) → Decides (is_ok r) ((1 ≤ 4) × (v < 10 ^ 4)) → OnOk r (f ≡ shown 4 v) → OnErr r (f ≡ blank) → f ≡ boxed v
unfolding boxed
boxed_set v (Ok x) f h set kept = set ∙ sym (cond-true (ltb v 10000) (shown 4 v) blank (lt-ltb v 10000 (h.0 refl).1))
boxed_set v (Err e) f h set kept = kept ∙ sym (cond-false (ltb v 10000) (shown 4 v) blank (le-ltb v 10000 (⊎_elim (λ l. absurd (false≢true (h.1 (omega arith, l)))) (λ l. l) (cases_lt v 10000))))

-- all fields have four columns
abbrev pub Fours : List (List ℕ) → Type 0
Fours [] = Unit {0}
Fours (f ∷ fs) = (length f ≡ 4) × Fours fs

pub fours_set : (fs : List (List ℕ)) (j : ℕ) (ys : List ℕ) → length ys ≡ 4 → Fours fs → Fours (set fs j ys)
fours_set [] j ys e h = tt
fours_set (f ∷ fs) zero ys e h = (e, h.1)
fours_set (f ∷ fs) (suc j) ys e h = (h.0, fours_set fs j ys e h.1)

flat_put : (fs : List (List ℕ)) (j : ℕ) (ys tail : List ℕ) → j < length fs → Fours fs → length ys ≡ 4 → put (flat_map (λ f. f) fs ++ tail) (4 * j) ys ≡ flat_map (λ f. f) (set fs j ys) ++ tail
flat_put [] j ys tail l h e = absurd (omega arith)
flat_put (f ∷ fs) zero ys tail l h e =
    ap (λ t. ys ++ t) (ap (drop (0 + length ys)) (append_assoc f (flat_map (λ f. f) fs) tail) ∙ drop_at f (flat_map (λ f. f) fs ++ tail) (0 + length ys) (omega (arith, h.0))) ∙ sym (append_assoc ys (flat_map (λ f. f) fs) tail)
flat_put (f ∷ fs) (suc j) ys tail l h e =
    ap (λ xs. put xs (4 * suc j) ys) (append_assoc f (flat_map (λ f. f) fs) tail)
    ∙ (put_later f (flat_map (λ f. f) fs ++ tail) (4 * j) (4 * suc j) ys (omega (arith, h.0))
    ∙ (ap (λ t. f ++ t) (flat_put fs j ys tail (omega arith) h.1 e) ∙ sym (append_assoc f (flat_map (λ f. f) (set fs j ys)) tail)))

-- a number set into field j of a line
pub field_laid : (letter j v w : ℕ) (fs : List (List ℕ)) (was is : List ℕ) → was ≡ line_of letter fs → j < length fs → Fours fs → v ≡ w → is ≡ put was (1 + 4 * j) (boxed v) → is ≡ line_of letter (set fs j (boxed w))
field_laid letter j v w fs was is e l h same at =
    at
    ∙ (ap (λ x. put x (1 + 4 * j) (boxed v)) e
    ∙ (ap (λ k. put (line_of letter fs) (1 + 4 * j) (boxed k)) same
    ∙ (put_later (letter ∷ []) (flat_map (λ f. f) fs ++ (10 ∷ [])) (4 * j) (1 + 4 * j) (boxed w) (omega arith)
    ∙ ap (λ t. letter ∷ t) (flat_put fs j (boxed w) (10 ∷ []) l h (boxed_length w)))))

-- a line without fields
abbrev pub blanks : List (List ℕ)
blanks = blank ∷ blank ∷ blank ∷ blank ∷ blank ∷ blank ∷ blank ∷ blank ∷ []

pub blanks_four : Fours blanks
blanks_four = (refl, (refl, (refl, (refl, (refl, (refl, (refl, (refl, tt))))))))

-- the symbols of a rule, one more
pub symbols_more : (g : Grammar) (r n : ℕ) (a b : List ℕ) → n < 6 → set (a ∷ b ∷ map (symbol_field g r n) (range_with_len 0 6)) (2 + n) (boxed (symbol g r n)) ≡ a ∷ b ∷ map (symbol_field g r (n + 1)) (range_with_len 0 6)
symbols_more g r zero a b h = refl
symbols_more g r (suc zero) a b h = refl
symbols_more g r (suc (suc zero)) a b h = refl
symbols_more g r (suc (suc (suc zero))) a b h = refl
symbols_more g r (suc (suc (suc (suc zero)))) a b h = refl
symbols_more g r (suc (suc (suc (suc (suc zero))))) a b h = refl
symbols_more g r (suc (suc (suc (suc (suc (suc n)))))) a b h = absurd (omega arith)

pub symbols_four : (g : Grammar) (r n : ℕ) → Fours (map (symbol_field g r n) (range_with_len 0 6))
symbols_four g r n = (four 0, (four 1, (four 2, (four 3, (four 4, (four 5, tt)))))) where
  four : (d : ℕ) → length (symbol_field g r n d) ≡ 4
  four d = cond_both (ltb d n) (boxed (symbol g r d)) blank (λ f. length f ≡ 4) (λ _. boxed_length (symbol g r d)) (λ _. refl)

-- n bytes of a spelling in its columns
abbrev pub spread_to : ℕ → List ℕ → List ℕ
spread_to n s = take n s ++ replicate (24 - n) 32

key_shape : (a b t u : List ℕ) → line_of 75 (a ∷ b ∷ (t ++ u) ∷ []) ≡ (75 ∷ (a ++ (b ++ t))) ++ (u ++ (10 ∷ []))
key_shape a b t u = simp (append_assoc, append-nil)

-- one byte more
pub spread_more : (a b s line : List ℕ) (n k byte : ℕ) → length a ≡ 4 → length b ≡ 4 → n < length s → n < 24 → k ≡ n → byte ≡ get_or s n 0 → line ≡ line_of 75 (a ∷ b ∷ spread_to n s ∷ []) → set line (9 + k) byte ≡ line_of 75 (a ∷ b ∷ spread_to (n + 1) s ∷ [])
spread_more a b s line n k byte ea eb l m same is e =
    let rest : List ℕ = replicate (24 - (n + 1)) 32 in
    let count : 24 - n ≡ suc (24 - (n + 1)) = omega arith in
    let blanks : replicate (24 - n) 32 ≡ 32 ∷ rest = ap (λ m. replicate m 32) count in
    let front : length (75 ∷ (a ++ (b ++ take n s))) ≡ 9 + k = omega (arith, length-append a (b ++ take n s), length-append b (take n s), length-take n s) in
    let more : take n s ++ (byte ∷ []) ≡ take (n + 1) s = ap (λ x. take n s ++ (x ∷ [])) is ∙ sym (take_more s n 0 l) in
    ap (λ z. set z (9 + k) byte) (e ∙ (key_shape a b (take n s) (replicate (24 - n) 32) ∙ ap (λ u. (75 ∷ (a ++ (b ++ take n s))) ++ (u ++ (10 ∷ []))) blanks))
    ∙ (set_at (75 ∷ (a ++ (b ++ take n s))) 32 (rest ++ (10 ∷ [])) byte (9 + k) front
    ∙ (reshape a b (take n s) (rest ++ (10 ∷ [])) byte
    ∙ (ap (λ t. (75 ∷ (a ++ (b ++ t))) ++ (rest ++ (10 ∷ []))) more ∙ sym (key_shape a b (take (n + 1) s) rest)))) where
      reshape : (a b t u : List ℕ) (x : ℕ) → (75 ∷ (a ++ (b ++ t))) ++ (x ∷ u) ≡ (75 ∷ (a ++ (b ++ (t ++ (x ∷ []))))) ++ u
      reshape a b t u x = simp append_assoc

spread_all : (s : List ℕ) (n : ℕ) → n ≡ min (length s) 24 → spread_to n s ≡ spread s
spread_all s n e =
    let blanks : 24 - n ≡ 24 - length s = omega arith in
    ap (λ t. t ++ replicate (24 - n) 32) (take_min s 24 n (omega arith)) ∙ ap (λ k. take 24 s ++ replicate k 32) blanks

-- the counts of a book, one after another
pub head_laid : (m : Meaning) (l0 l1 l2 l3 l4 : List ℕ) (p k s r : ℕ) → l0 ≡ line_of 72 blanks
    → p ≡ m.grammar.parts → l1 ≡ put l0 1 (boxed p) → k ≡ m.grammar.keys → l2 ≡ put l1 5 (boxed k) → s ≡ m.grammar.start → l3 ≡ put l2 9 (boxed s) → r ≡ length m.grammar.rules → l4 ≡ put l3 13 (boxed r) → l4 ≡ head_line m
head_laid m l0 l1 l2 l3 l4 p k s r e0 ep e1 ek e2 es e3 er e4 =
    let f1 = set blanks 0 (boxed m.grammar.parts) in
    let f2 = set f1 1 (boxed m.grammar.keys) in
    let f3 = set f2 2 (boxed m.grammar.start) in
    let h1 : Fours f1 = fours_set blanks 0 _ (boxed_length _) blanks_four in
    let h2 : Fours f2 = fours_set f1 1 _ (boxed_length _) h1 in
    let h3 : Fours f3 = fours_set f2 2 _ (boxed_length _) h2 in
    let s1 : l1 ≡ line_of 72 f1 = field_laid 72 0 p m.grammar.parts blanks l0 l1 e0 (omega arith) blanks_four ep e1 in
    let s2 : l2 ≡ line_of 72 f2 = field_laid 72 1 k m.grammar.keys f1 l1 l2 s1 (omega arith) h1 ek e2 in
    let s3 : l3 ≡ line_of 72 f3 = field_laid 72 2 s m.grammar.start f2 l2 l3 s2 (omega arith) h2 es e3 in
    field_laid 72 3 r (length m.grammar.rules) f3 l3 l4 s3 (omega arith) h3 er e4

-- two numbers at the front of a line
pub two_laid : (letter a b x y : ℕ) (l0 l1 l2 : List ℕ) → l0 ≡ line_of letter blanks → x ≡ a → l1 ≡ put l0 1 (boxed x) → y ≡ b → l2 ≡ put l1 5 (boxed y) → l2 ≡ line_of letter (set (set blanks 0 (boxed a)) 1 (boxed b))
two_laid letter a b x y l0 l1 l2 e0 ea e1 eb e2 =
    field_laid letter 1 y b (set blanks 0 (boxed a)) l1 l2 (field_laid letter 0 x a blanks l0 l1 e0 (omega arith) blanks_four ea e1) (omega arith) (fours_set blanks 0 (boxed a) (boxed_length a) blanks_four) eb e2

-- the fields of rule r with n symbols told
abbrev pub rule_to : Grammar → (r n : ℕ) → List (List ℕ)
rule_to g r n = boxed (left g r) ∷ boxed (size g r) ∷ map (symbol_field g r n) (range_with_len 0 6)

pub rule_four : (g : Grammar) (r n : ℕ) → Fours (rule_to g r n)
rule_four g r n = (boxed_length (left g r), (boxed_length (size g r), symbols_four g r n))

pub rule_more : (g : Grammar) (r n v : ℕ) (was is : List ℕ) → n < 6 → was ≡ line_of 82 (rule_to g r n) → v ≡ symbol g r n → is ≡ put was (1 + 4 * (2 + n)) (boxed v) → is ≡ line_of 82 (rule_to g r (n + 1))
rule_more g r n v was is l e same at =
    field_laid 82 (2 + n) v (symbol g r n) (rule_to g r n) was is e (omega (arith, length-map-range_with_len (symbol_field g r n) 0 6)) (rule_four g r n) same at
    ∙ ap (line_of 82) (symbols_more g r n (boxed (left g r)) (boxed (size g r)) l)

-- all of a spelling told, in the line of key c
pub key_all : (fs : List KeyForm) (c n : ℕ) (line : List ℕ) → n ≡ min (length (spelling fs c)) 24 → line ≡ line_of 75 (boxed c ∷ boxed (kind fs c) ∷ spread_to n (spelling fs c) ∷ []) → line ≡ key_line fs c
key_all fs c n line e is = is ∙ ap (λ s. line_of 75 (boxed c ∷ boxed (kind fs c) ∷ s ∷ [])) (spread_all (spelling fs c) n e)
