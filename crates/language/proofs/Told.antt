-- What the questions answer of a book that is told by its counts and by what stands at each number.
use Rattle.std.proofs.Common.{◌≡◌, ℕ, zero, suc, ◌+◌, ◌-◌, ◌<◌, ◌≤◌, leb, ◌⊎◌, List, ◌∷◌, map, length, get_or, refl, ap, ◌∙◌, ⊎_elim, add-one, arith}
use Rattle.std.specs.List.{range_with_len}
use Rattle.std.proofs.lemmas.List.{get_or_past}
use Rattle.std.proofs.lemmas.Bool.{cond-true, cond-false, le-leb, lt-leb}
use Rattle.std.proofs.lemmas.List.FromFn.{get_or-map-range_with_len, length-map-range_with_len}
use Rattle.language.specs.Book.{Rule, KeyForm, norule, noform, rule, form}

-- what stands at place i of n places, and past them
pub place_inside : {X : Type 0} (f : ℕ → X) (n i : ℕ) (d : X) → i < n → get_or (map f (range_with_len 0 n)) i d ≡ f i
place_inside f n i d h = get_or-map-range_with_len f 0 n i i d h (omega arith)

pub place_outside : {X : Type 0} (f : ℕ → X) (n i : ℕ) (d : X) → n ≤ i → get_or (map f (range_with_len 0 n)) i d ≡ d
place_outside f n i d h = get_or_past (map f (range_with_len 0 n)) i d (omega (arith, length-map-range_with_len f 0 n))

-- the rule and the form at a place counted from 0
pub rule_place : (rs : List Rule) (i : ℕ) → rule rs (i + 1) ≡ get_or rs i norule
unfolding rule
rule_place rs i = ap (λ r. get_or (norule ∷ rs) r norule) (add-one i)

pub form_place : (fs : List KeyForm) (i : ℕ) → form fs (33 + i) ≡ get_or fs i noform
unfolding form
form_place fs i =
    let same : 33 + i - 33 ≡ i = omega arith in
    cond-true (leb 33 (33 + i)) _ noform (le-leb 33 (33 + i) (omega arith)) ∙ ap (λ j. get_or fs j noform) same

-- a rule and a form outside the book
pub rule_past : (rs : List Rule) (r : ℕ) → (r < 1) ⊎ (1 + length rs ≤ r) → rule rs r ≡ norule
unfolding rule
rule_past rs zero h = refl
rule_past rs (suc r) h = get_or_past rs r norule (⊎_elim (λ l. omega arith) (λ l. omega arith) h)

pub form_past : (fs : List KeyForm) (c : ℕ) → (c < 33) ⊎ (33 + length fs ≤ c) → form fs c ≡ noform
unfolding form
form_past fs c = ⊎_elim
    (λ l. cond-false (leb 33 c) _ noform (lt-leb 33 c l))
    (λ l. cond-true (leb 33 c) _ noform (le-leb 33 c (omega arith)) ∙ get_or_past fs (c - 33) noform (omega arith))

-- rule r of n rules that are told by f
module _ (n : ℕ) (f : ℕ → Rule) where
  pub rule_inside : (i r : ℕ) → i < n → 1 + i ≡ r → rule (map f (range_with_len 0 n)) r ≡ f i
  unfolding rule
  rule_inside i zero h e = absurd (omega arith)
  rule_inside i (suc r) h e =
      let same : r ≡ i = omega arith in
      ap (λ k. get_or (map f (range_with_len 0 n)) k norule) same ∙ place_inside f n i norule h

  pub rule_outside : (r : ℕ) → (r < 1) ⊎ (1 + n ≤ r) → rule (map f (range_with_len 0 n)) r ≡ norule
  rule_outside r h = rule_past (map f (range_with_len 0 n)) r (rw (length-map-range_with_len f 0 n) h)

-- the form of key c among n keys that are told by f
module _ (n : ℕ) (f : ℕ → KeyForm) where
  pub form_inside : (i c : ℕ) → i < n → 33 + i ≡ c → form (map f (range_with_len 0 n)) c ≡ f i
  unfolding form
  form_inside i c h e =
      let same : c - 33 ≡ i = omega arith in
      cond-true (leb 33 c) _ noform (le-leb 33 c (omega arith)) ∙ (ap (λ k. get_or (map f (range_with_len 0 n)) k noform) same ∙ place_inside f n i noform h)

  pub form_outside : (c : ℕ) → (c < 33) ⊎ (33 + n ≤ c) → form (map f (range_with_len 0 n)) c ≡ noform
  form_outside c h = form_past (map f (range_with_len 0 n)) c (rw (length-map-range_with_len f 0 n) h)
