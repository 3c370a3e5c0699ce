-- Four columns and the number that they show.
use Rattle.std.proofs.Common.{◌≡◌, ℕ, ◌+◌, ◌-◌, ◌*◌, ◌/◌, ◌%◌, ◌<◌, true, eqb, List, [], ◌∷◌, Some, None, Option, unwrap_or, sym, refl, ap, ◌∙◌, ⊎_elim, arith, MatchOption}
use Rattle.std.proofs.lemmas.Bool.{false≢true, eqb-true, eq-eqb, and_parts, and_from, cond-true, cond-false, cases_Bool}
use Rattle.std.proofs.lemmas.Bool.Decides.{nat_tests}
use Rattle.booktext.specs.Columns.{mark, shown, same, weighed, value}

-- a column weighs the last figure of the number up to it
pub mark_weighs : (m : ℕ) → mark m - 48 ≡ m % 10
mark_weighs m = grind (arith, nat_tests)

-- what four columns that show a number weigh
pub shown_weighs : (v : ℕ) → weighed 0 (shown 4 v) ≡ ((v / 10 / 10 / 10 % 10 * 10 + v / 10 / 10 % 10) * 10 + v / 10 % 10) * 10 + v % 10
shown_weighs v = omega (arith, mark_weighs (v / 10 / 10 / 10), mark_weighs (v / 10 / 10), mark_weighs (v / 10))

pub same_true : (xs ys : List ℕ) → same xs ys ≡ true → xs ≡ ys
same_true [] [] e = refl
same_true [] (b ∷ ys) e = absurd (false≢true e)
same_true (a ∷ xs) [] e = absurd (false≢true e)
same_true (a ∷ xs) (b ∷ ys) e =
    let both = and_parts (eqb a b) (same xs ys) e in
    let head = eqb-true a b both.0 in
    let tail = same_true xs ys both.1 in
    cc

pub same_refl : (xs : List ℕ) → same xs xs ≡ true
same_refl [] = refl
same_refl (a ∷ xs) = and_from (eqb a a) (same xs xs) (eq-eqb a a refl) (same_refl xs)

-- columns that show what they weigh
value_of : (f : List ℕ) (v : ℕ) → weighed 0 f ≡ v → f ≡ shown 4 v → value f ≡ v
unfolding value
value_of f v w e =
    let is : same f (shown 4 (weighed 0 f)) ≡ true = ap (λ n. same f (shown 4 n)) w ∙ (ap (same f) (sym e) ∙ same_refl f) in
    cond-true (same f (shown 4 (weighed 0 f))) (weighed 0 f) 0 is ∙ w

-- columns that show a number have its value
pub value_shown : (v : ℕ) → v < 10000 → value (shown 4 v) ≡ v
value_shown v h = value_of (shown 4 v) v (omega (arith, shown_weighs v)) refl

-- columns that show no number have the value 0
pub value_none : (f : List ℕ) → ((v : ℕ) → v < 10000 → shown 4 v ≡ f → ⊥) → value f ≡ 0
unfolding value
value_none f none = ⊎_elim
    (λ e. let s = same_true f (shown 4 (weighed 0 f)) e in
    let w = ap (weighed 0) s ∙ shown_weighs (weighed 0 f) in
    absurd (none (weighed 0 f) (omega arith) (sym s)))
    (λ e. cond-false _ _ 0 e)
    (cases_Bool (same f (shown 4 (weighed 0 f))))

-- what the columns are read as is their value
pub value_read : (f : List ℕ) (o : Option ℕ) → MatchOption o ((v : ℕ) → v < 10000 → shown 4 v ≡ f → ⊥) (λ v. (v < 10000) × (shown 4 v ≡ f)) → unwrap_or o 0 ≡ value f
value_read f None h = sym (value_none f h)
value_read f (Some v) h = sym (value_shown v h.0) ∙ ap value h.1
