-- How many items there can be: every place that an item may have, listed.
use Rattle.std.proofs.Common.{◌≡◌, ℕ, zero, suc, ◌+◌, ◌*◌, ◌/◌, ◌<◌, ◌≤◌, List, [], ◌∷◌, ◌++◌, length, get_or, sym, refl, ap, ◌∙◌, subst, ⊎_elim, suc-mul, mul-suc, mul-add, add-one, arith, length-append}
use Rattle.std.specs.List.{AllByRecursion}
use Rattle.std.proofs.lemmas.Bool.{cases_order}
use Rattle.language.specs.Book.{Rule, Grammar, norule, rule}
use Rattle.language.specs.Words.{Word}
use Rattle.language.specs.Readings.{Item, item}
use Rattle.language.specs.Chart.{Held, HeldItem}
use Rattle.language.specs.Columns.{InBounds, lengths, Among, Apart}
use Rattle.language.proofs.Told.{rule_place}
use Rattle.language.proofs.Pigeonhole.{no_more}
use Rattle.language.proofs.Members.{all_among, among_front, among_back, upto, upto_length, upto_among}

-- for rules numbered from q: the items told by f at each rule and each number of its symbols
dots : (ℕ → ℕ → Item) → ℕ → List Rule → List Item
dots f q [] = []
dots f q (w ∷ rs) = upto (f q) (length w.body) ++ dots f (suc q) rs

dots_length : (f : ℕ → ℕ → Item) (q : ℕ) (rs : List Rule) → length (dots f q rs) ≡ lengths rs
unfolding dots
dots_length f q [] = refl
dots_length f q (w ∷ rs) = simp length-append (omega (arith, upto_length (f q) (length w.body), dots_length f (suc q) rs))

dots_among : (f : ℕ → ℕ → Item) (q : ℕ) (rs : List Rule) (j r d : ℕ) → q + j ≡ r → j < length rs → 1 ≤ d → d ≤ length (get_or rs j norule).body
    → Among (f r d) (dots f q rs)
unfolding dots
dots_among f q [] j r d e h l u = absurd (omega arith)
dots_among f q (w ∷ rs) zero r d e h l u =
    let same : q ≡ r = omega arith in
    among_front (f r d) (upto (f q) (length w.body)) (dots f (suc q) rs) (subst (λ x. Among (f x d) (upto (f q) (length w.body))) same (upto_among (f q) (length w.body) d l u))
dots_among f q (w ∷ rs) (suc j) r d e h l u =
    among_back (f r d) (upto (f q) (length w.body)) (dots f (suc q) rs) (dots_among f (suc q) rs j r d (omega arith) (omega arith) l u)

-- how the number of spans grows with a word
half_step : (n : ℕ) → suc n * (suc n + 1) / 2 ≡ suc n + n * (n + 1) / 2
half_step n = omega (arith, suc-mul n (suc n + 1), mul-add n (suc n) 1, mul-suc n n, mul-add n n 1)

module _ (rs : List Rule) where
  -- the places of items that end at word k and start after fewer than n words
  starts : ℕ → ℕ → List Item
  starts k zero = []
  starts k (suc i) = dots (λ r d. item r d i k) 1 rs ++ starts k i

  starts_length : (k n : ℕ) → length (starts k n) ≡ lengths rs * n
  unfolding starts
  starts_length k zero = omega arith
  starts_length k (suc n) = simp length-append (omega (arith, dots_length (λ r d. item r d n k) 1 rs, starts_length k n, mul-suc (lengths rs) n))

  starts_among : (r d i k n : ℕ) → i < n → Among (item r d i k) (dots (λ s e. item s e i k) 1 rs) → Among (item r d i k) (starts k n)
  unfolding starts
  starts_among r d i k zero h m = absurd (omega arith)
  starts_among r d i k (suc n) h m = ⊎_elim here (⊎_elim (λ l. there (starts_among r d i k n l m)) (λ b. absurd (omega arith))) (cases_order i n)
    where
      here : i ≡ n → Among (item r d i k) (dots (λ s e. item s e n k) 1 rs ++ starts k n)
      here p = among_front (item r d i k) (dots (λ s e. item s e n k) 1 rs) (starts k n) (subst (λ x. Among (item r d i k) (dots (λ s e. item s e x k) 1 rs)) p m)

      there : Among (item r d i k) (starts k n) → Among (item r d i k) (dots (λ s e. item s e n k) 1 rs ++ starts k n)
      there l = among_back (item r d i k) (dots (λ s e. item s e n k) 1 rs) (starts k n) l

  -- the places of items that end at one of the first n words
  columns : ℕ → List Item
  columns zero = []
  columns (suc n) = starts (suc n) (suc n) ++ columns n

  columns_length : (n : ℕ) → length (columns n) ≡ lengths rs * (n * (n + 1) / 2)
  unfolding columns
  columns_length zero = omega arith
  columns_length (suc n) =
      let step = half_step n in
      simp length-append (rw step (omega (arith, starts_length (suc n) (suc n), columns_length n, mul-add (lengths rs) (suc n) (n * (n + 1) / 2))))

  columns_among : (r d i k n : ℕ) → 1 ≤ k → k ≤ n → Among (item r d i k) (starts k k) → Among (item r d i k) (columns n)
  unfolding columns
  columns_among r d i k zero l h m = absurd (omega arith)
  columns_among r d i k (suc n) l h m = ⊎_elim here (⊎_elim (λ b. there (columns_among r d i k n l (omega arith) m)) (λ b. absurd (omega arith))) (cases_order k (suc n))
    where
      here : k ≡ suc n → Among (item r d i k) (starts (suc n) (suc n) ++ columns n)
      here p = among_front (item r d i k) (starts (suc n) (suc n)) (columns n) (subst (λ x. Among (item r d i k) (starts x x)) p m)

      there : Among (item r d i k) (columns n) → Among (item r d i k) (starts (suc n) (suc n) ++ columns n)
      there b = among_back (item r d i k) (starts (suc n) (suc n)) (columns n) b

module _ (g : Grammar) (ws : List Word) (bounds : (r d i k : ℕ) → Held g ws r d i k → InBounds g ws r d i k) where
  place_of : (r d i k : ℕ) → InBounds g ws r d i k → Among (item r d i k) (columns g.rules (length ws))
  place_of zero d i k b = absurd (omega (arith, b.rule.low))
  place_of (suc r) d i k b =
      let same : rule g.rules (suc r) ≡ get_or g.rules r norule = ap (rule g.rules) (sym (add-one r)) ∙ rule_place g.rules r in
      let long : d ≤ length (get_or g.rules r norule).body = subst (λ w. d ≤ length w.body) same b.not_past in
      columns_among g.rules (suc r) d i k (length ws) (omega (arith, b.forward)) b.ends
      (starts_among g.rules (suc r) d i k k b.forward
      (dots_among (λ s e. item s e i k) 1 g.rules r (suc r) d (omega arith) b.rule.high b.some_done long))

  all_placed : (ts : List Item) → AllByRecursion (HeldItem g ws) ts → (t : Item) → Among t ts → Among t (columns g.rules (length ws))
  all_placed ts a t m = place_of t.rule t.done t.start t.end (bounds t.rule t.done t.start t.end (all_among (HeldItem g ws) ts t a m))

  -- at most L n (n + 1) / 2 items over n words
  pub few_items : (ts : List Item) → AllByRecursion (HeldItem g ws) ts → Apart ts → length ts ≤ lengths g.rules * (length ws * (length ws + 1) / 2)
  few_items ts a p = subst (λ x. length ts ≤ x) (columns_length g.rules (length ws)) (no_more ts (columns g.rules (length ws)) p (all_placed ts a))
