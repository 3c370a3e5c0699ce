-- The words between two places, put together and taken apart.
use Rattle.std.proofs.Common.{◌≡◌, ℕ, suc, ◌+◌, ◌-◌, ◌<◌, ◌≤◌, T, List, [], ◌∷◌, ◌++◌, length, get_or, take, drop, sym, ap, ◌∙◌, subst, arith, length-drop, length-take, length-take-le, drop-cons, take-take, drop-drop, take-add}
use lib.Seq.{take-length}
use Rattle.std.proofs.lemmas.List.{drop-take}
use Rattle.language.specs.Words.{Word, blank, Begins, Is, between}
use Rattle.language.proofs.Words.{is_append, begins_back}

module _ (ws : List Word) where
  -- how many they are
  pub length_between : (i k : ℕ) → i ≤ k → k ≤ length ws → length (between i k ws) ≡ k - i
  length_between i k h l = length-take-le (k - i) (drop i ws) (omega (arith, length-drop i ws))

  -- the first k words, and all
  pub between_first : (k : ℕ) → between 0 k ws ≡ take k ws
  between_first k = ap (λ n. take n ws) (omega arith)

  pub between_all : between 0 (length ws) ws ≡ ws
  between_all = between_first (length ws) ∙ take-length ws

  -- no word
  pub between_none : (k : ℕ) → between k k ws ≡ []
  between_none k = let e : k - k ≡ 0 = omega arith in ap (λ n. take n (drop k ws)) e

  -- one word
  pub between_one : (j : ℕ) → j < length ws → between j (suc j) ws ≡ get_or ws j blank ∷ []
  between_one j h =
      let e : suc j - j ≡ 1 = omega arith in
      ap (λ n. take n (drop j ws)) e ∙ ap (take 1) (drop-cons ws j blank h)

  -- words between two places: the second is past the first
  pub between_some : (i k : ℕ) → 1 ≤ length (between i k ws) → i < k
  between_some i k h = omega (arith, length-take (k - i) (drop i ws))

  -- put together
  pub between_join : (i j k : ℕ) → i ≤ j → j ≤ k → between i j ws ++ between j k ws ≡ between i k ws
  between_join i j k h l =
      let a : (j - i) + (k - j) ≡ k - i = omega arith in
      let b : i + (j - i) ≡ j = omega arith in
      let rest = drop-drop (j - i) i ws ∙ ap (λ n. drop n ws) b in
      ap (λ us. between i j ws ++ take (k - j) us) (sym rest) ∙ (sym (take-add (j - i) (k - j) (drop i ws)) ∙ ap (λ n. take n (drop i ws)) a)

  -- the first word and the others
  pub between_cons : (j k : ℕ) → j < k → k ≤ length ws → between j k ws ≡ get_or ws j blank ∷ between (suc j) k ws
  between_cons j k h l = sym (between_join j (suc j) k (omega arith) h) ∙ ap (λ us. us ++ between (suc j) k ws) (between_one j (omega arith))

  -- behind the first i words
  pub take_between : (i k : ℕ) → i ≤ k → take i ws ++ between i k ws ≡ take k ws
  take_between i k h = ap (λ us. us ++ between i k ws) (sym (between_first i)) ∙ (between_join 0 i k (omega arith) h ∙ between_first k)

  -- the first n of them
  pub between_front : (i k n : ℕ) → i + n ≤ k → take n (between i k ws) ≡ between i (i + n) ws
  between_front i k n h =
      let e : n ≡ i + n - i = omega arith in
      take-take n (k - i) (drop i ws) (omega arith) ∙ ap (λ m. take m (drop i ws)) e

  -- without the first n of them
  pub between_back : (i k n : ℕ) → i + n ≤ k → drop n (between i k ws) ≡ between (i + n) k ws
  between_back i k n h =
      let e : k - i ≡ n + (k - (i + n)) = omega arith in
      ap (λ m. drop n (take m (drop i ws))) e ∙ (drop-take n (k - (i + n)) (drop i ws) ∙ ap (take (k - (i + n))) (drop-drop n i ws))

  -- keys that are the first words up to i, and keys behind them that are the words up to k
  pub is_between : (p q : List ℕ) (i k : ℕ) → i ≤ k → Is p (take i ws) → Is q (between i k ws) → Is (p ++ q) (take k ws)
  is_between p q i k l h b = subst (Is (p ++ q)) (take_between i k l) (is_append p (take i ws) q (between i k ws) h b)

  -- keys that begin with the words between, without those in front of them
  pub begins_next : (p q : List ℕ) (i k : ℕ) → i + length p ≤ k → Begins (p ++ q) (between i k ws) → Begins q (between (i + length p) k ws)
  begins_next p q i k l b = subst (Begins q) (between_back i k (length p) l) (begins_back p q (between i k ws) b)

  -- the first of them matches its word
  pub begins_match : (c : ℕ) (q : List ℕ) (j k : ℕ) → j < k → k ≤ length ws → Begins (c ∷ q) (between j k ws) → T (get_or ws j blank c)
  begins_match c q j k l short b = (subst (Begins (c ∷ q)) (between_cons j k l short) b).0
