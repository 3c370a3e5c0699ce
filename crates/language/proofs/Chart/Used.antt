-- What readings use within the words is held, and the key behind the words may start there.
use Rattle.std.proofs.Common.{◌≡◌, ℕ, ◌+◌, ◌-◌, ◌<◌, ◌≤◌, List, [], ◌∷◌, ◌++◌, length, get_or, sym, ap, ◌∙◌, subst, inl, inr, ⊎_elim, arith, length-append}
use Rattle.std.proofs.lemmas.List.{get_or_append_left, get_or-append-add}
use Rattle.std.proofs.lemmas.Bool.{cases_lt}
use Rattle.language.specs.Book.{Grammar, left, size, symbol}
use Rattle.language.specs.Words.{Word, Begins, between}
use Rattle.language.specs.Readings.{Children, none, key, part, yield, count, Fits, Item, reached, Uses}
use Rattle.language.specs.Chart.{Wanted, HeldItem}
use Rattle.language.proofs.Words.{begins_assoc}
use Rattle.language.proofs.Chart.Between.{begins_next}
use Rattle.language.proofs.Chart.Complete.{dotted_wanted, dotted_held, children_dotted}
use Rattle.language.proofs.Chart.Proper.{Proper}
use Rattle.language.proofs.Fits.{fits_numbered}

-- items that children use end where the children start or later
uses_after : (r i : ℕ) (ks : Children) (u : Item) → Uses r i ks u → i ≤ u.end
uses_after r i none u w = absurd w
uses_after r i (key ks c) u (inl w) = uses_after r i ks u w
uses_after r i (key ks c) u (inr e) = omega (arith, ap (λ t. t.end) e)
uses_after r i (part ks s cs) u (inl w) = uses_after r i ks u w
uses_after r i (part ks s cs) u (inr (inl w)) = omega (arith, uses_after s (i + length (yield ks)) cs u w)
uses_after r i (part ks s cs) u (inr (inr e)) = omega (arith, ap (λ t. t.end) e)

-- children of a rule that may start after word i, whose keys, and then others, begin with the words up to k
module _ (g : Grammar) (proper : Proper g) (ws : List Word) (k : ℕ) (short : k ≤ length ws) where
  last_held : (r i : ℕ) (ks : Children) (rest : List ℕ) → Wanted g ws i (left g r) → Fits g r ks → Begins (yield ks ++ rest) (between i k ws)
      → 1 ≤ count ks → (u : Item) → u ≡ reached r i ks → u.end ≤ k → HeldItem g ws u
  last_held r i ks rest w f b some u e l = subst (HeldItem g ws) (sym e)
      (dotted_held g ws r (count ks) i (i + length (yield ks)) (children_dotted g proper ws k short r i ks rest w f b (omega (arith, ap (λ t. t.end) e))) some)

  -- the symbol behind children may start where they end
  pub behind_wanted : (r i X : ℕ) (ks : Children) (rest : List ℕ) → Wanted g ws i (left g r) → Fits g r ks → Begins (yield ks ++ rest) (between i k ws)
      → i + length (yield ks) ≤ k → count ks < size g r → symbol g r (count ks) ≡ X → Wanted g ws (i + length (yield ks)) X
  behind_wanted r i X ks rest w f b near l e =
      let j = i + length (yield ks) in
      dotted_wanted g ws r (count ks) i j X (fits_numbered g r ks f) (children_dotted g proper ws k short r i ks rest w f b near) l e

  -- the items that they use and that end at word k or before are held
  pub uses_held : (r i : ℕ) (ks : Children) (rest : List ℕ) → Wanted g ws i (left g r) → Fits g r ks → Begins (yield ks ++ rest) (between i k ws)
      → (u : Item) → Uses r i ks u → u.end ≤ k → HeldItem g ws u
  uses_held r i none rest w f b u v l = absurd v
  uses_held r i (key ks c) rest w f b u (inl v) l = uses_held r i ks (c ∷ rest) w f.0 (begins_assoc (yield ks) (c ∷ []) rest (between i k ws) b) u v l
  uses_held r i (key ks c) rest w f b u (inr e) l = last_held r i (key ks c) rest w f b (omega arith) u e l
  uses_held r i (part ks s cs) rest w f b u (inl v) l = uses_held r i ks (yield cs ++ rest) w f.0 (begins_assoc (yield ks) (yield cs) rest (between i k ws) b) u v l
  uses_held r i (part ks s cs) rest w f b u (inr (inl v)) l =
      let j = i + length (yield ks) in
      let b' = begins_assoc (yield ks) (yield cs) rest (between i k ws) b in
      let near : j ≤ k = omega (arith, uses_after s j cs u v) in
      uses_held s j cs rest (behind_wanted r i (left g s) ks (yield cs ++ rest) w f.0 b' near f.1 f.2) f.3 (begins_next ws (yield ks) (yield cs ++ rest) i k near b') u v l
  uses_held r i (part ks s cs) rest w f b u (inr (inr e)) l = last_held r i (part ks s cs) rest w f b (omega arith) u e l

  -- the key behind word k, in the front or in the back of keys
  front_wanted : (p q : List ℕ) (i : ℕ) → i ≤ k → k < i + length p → Wanted g ws k (get_or p (k - i) 0) → Wanted g ws k (get_or (p ++ q) (k - i) 0)
  front_wanted p q i l h w = subst (Wanted g ws k) (sym (get_or_append_left p q 0 (k - i) (omega arith))) w

  back_wanted : (p q : List ℕ) (i n : ℕ) → i + length p + n ≡ k → Wanted g ws k (get_or q n 0) → Wanted g ws k (get_or (p ++ q) (k - i) 0)
  back_wanted p q i n e w =
      let same : length p + n ≡ k - i = omega arith in
      subst (Wanted g ws k) (sym (get_or-append-add p q n 0) ∙ ap (λ m. get_or (p ++ q) m 0) same) w

  -- if their keys go on behind word k, then the next key may start there
  pub key_wanted : (r i : ℕ) (ks : Children) (rest : List ℕ) → Wanted g ws i (left g r) → Fits g r ks → Begins (yield ks ++ rest) (between i k ws)
      → i ≤ k → k < i + length (yield ks) → Wanted g ws k (get_or (yield ks) (k - i) 0)
  key_wanted r i none rest w f b l h = absurd (omega arith)
  key_wanted r i (key ks c) rest w f b l h =
      let j = i + length (yield ks) in
      let b' = begins_assoc (yield ks) (c ∷ []) rest (between i k ws) b in
      let front = λ (q : k < j). front_wanted (yield ks) (c ∷ []) i l q (key_wanted r i ks (c ∷ rest) w f.0 b' l q) in
      let here = λ (e : j ≡ k). subst (λ n. Wanted g ws n c) e (behind_wanted r i c ks (c ∷ rest) w f.0 b' (omega arith) f.1 f.2) in
      let last = λ (e : j ≡ k). back_wanted (yield ks) (c ∷ []) i 0 (omega arith) (here e) in
      ⊎_elim front (λ q. last (omega (arith, length-append (yield ks) (c ∷ [])))) (cases_lt k j)
  key_wanted r i (part ks s cs) rest w f b l h =
      let j = i + length (yield ks) in
      let b' = begins_assoc (yield ks) (yield cs) rest (between i k ws) b in
      let front = λ (q : k < j). front_wanted (yield ks) (yield cs) i l q (key_wanted r i ks (yield cs ++ rest) w f.0 b' l q) in
      let start = λ (q : j ≤ k). behind_wanted r i (left g s) ks (yield cs ++ rest) w f.0 b' q f.1 f.2 in
      let below = λ (q : j ≤ k). key_wanted s j cs rest (start q) f.3 (begins_next ws (yield ks) (yield cs ++ rest) i k q b') q (omega (arith, length-append (yield ks) (yield cs))) in
      ⊎_elim front (λ q. back_wanted (yield ks) (yield cs) i (k - j) (omega arith) (below q)) (cases_lt k j)
