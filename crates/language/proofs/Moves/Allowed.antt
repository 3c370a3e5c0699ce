-- Which moves are allowed, told by the tops of the stacks.
use Rattle.std.proofs.Common.{◌≡◌, ℕ, true, eqb, List, [], ◌∷◌, ◌++◌, map, drop, refl, ap, subst}
use mathlib.Core.Option.{Option, some, none}
use Rattle.std.proofs.lemmas.Bool.{cond_both, eqb-true}
use Rattle.language.specs.Book.{Grammar, Numbered, left, right, symbol}
use Rattle.language.proofs.Moves.Fronts.{cons_apart, none_on}
use Rattle.language.proofs.Tests.{rule_test}
use Rattle.language.specs.Machine.{Entry, Awaited, next, end, State, stacks, is_rule, agrees, reduce, move, remove, step, steps}

-- the tops of the first and second stack are not an entry and a symbol to come
abbrev pub Blocked : List Entry → List Awaited → Type 0
Blocked [] bs = Unit {0}
Blocked (e ∷ es) [] = Unit {0}
Blocked (e ∷ es) (end ∷ bs) = Unit {0}
Blocked (e ∷ es) (next B ∷ bs) = ⊥

-- so with an end mark on top, or with nothing to come
pub end_blocked : (es : List Entry) (bs : List Awaited) → Blocked es (end ∷ bs)
end_blocked [] bs = tt
end_blocked (e ∷ es) bs = tt

pub empty_blocked : (es : List Entry) → Blocked es []
empty_blocked [] = tt
empty_blocked (e ∷ es) = tt

module _ (g : Grammar) where
  -- the moves lead to empty stacks, from where earlier moves led
  abbrev Empties : Option State → List ℕ → Type 0
  Empties s ns = steps g s ns ≡ some (stacks [] [] [])

  -- or from a state
  abbrev pub Ends : State → List ℕ → Type 0
  Ends s ns = Empties (some s) ns

  -- where an entry is left on the first or the second stack, some move is left
  pub some_first : (e : Entry) (es : List Entry) (bs : List Awaited) (ls : List ℕ) → Ends (stacks (e ∷ es) bs ls) [] → ⊥
  some_first e es bs ls h = let s : stacks (e ∷ es) bs ls ≡ stacks [] [] [] = cc in cons_apart e es (ap (λ t. t.first) s)

  pub some_second : (es : List Entry) (b : Awaited) (bs : List Awaited) (ls : List ℕ) → Ends (stacks es (b ∷ bs) ls) [] → ⊥
  some_second es b bs ls h = let s : stacks es (b ∷ bs) ls ≡ stacks [] [] [] = cc in cons_apart b bs (ap (λ t. t.second) s)

  -- a step is a move, a removal or a reduction by a rule, or refused
  pub step_cases : (s : State) (n : ℕ) (P : Option State → Type 0) → (n ≡ 0 → P (move s.first s.second s.third))
      → (n ≡ 129 → P (remove g s.first s.second s.third)) → (Numbered g n → P (reduce g n s.first s.second s.third)) → P none → P (step g s n)
  step_cases s n P moved removed reduced no_step =
      cond_both (eqb n 0) _ _ P (λ e. moved (eqb-true n 0 e)) λ e.
      cond_both (eqb n 129) _ _ P (λ e. removed (eqb-true n 129 e)) λ e.
      cond_both (is_rule g n) _ _ P (λ e. reduced (rule_test g n e)) λ e. no_step

  -- then nothing is reduced or removed
  blocked_refused : (n : ℕ) (es : List Entry) (bs : List Awaited) (ls : List ℕ) → Blocked es bs → (none ≡ remove g es bs ls) × (none ≡ reduce g n es bs ls)
  blocked_refused n [] bs ls a = (refl, refl)
  blocked_refused n (e ∷ es) [] ls a = (refl, refl)
  blocked_refused n (e ∷ es) (end ∷ bs) ls a = (refl, refl)
  blocked_refused n (e ∷ es) (next B ∷ bs) ls a = absurd a

  -- so only move 0 is allowed
  pub only_move : (es : List Entry) (bs : List Awaited) (ls : List ℕ) (n : ℕ) (q : List ℕ) → Blocked es bs → Ends (stacks es bs ls) (n ∷ q)
      → (n ≡ 0) × Empties (move es bs ls) q
  only_move es bs ls n q a =
      let P : Option State → Type 0 = λ s. Empties s q → (n ≡ 0) × Empties (move es bs ls) q in
      let none_left : P none = λ h. absurd (none_on g q _ h) in
      let e = blocked_refused n es bs ls a in
      step_cases (stacks es bs ls) n P (λ z h. (z, h)) (λ z. subst P e.0 none_left) (λ z. subst P e.1 none_left) none_left

  -- an entry and a symbol to come on top: the entry is removed with the symbol, or begins a rule
  pub take_cases : (e : Entry) (es : List Entry) (B : ℕ) (bs : List Awaited) (ls : List ℕ) (n : ℕ) (q : List ℕ) {R : Type 0}
      → (n ≡ 129 → agrees g e B ≡ true → Ends (stacks es bs ls) q → R)
      → (Numbered g n → agrees g e (symbol g n 0) ≡ true → Ends (stacks es (map next (drop 1 (right g n)) ++ (end ∷ next B ∷ bs)) (left g n ∷ ls)) q → R)
      → Ends (stacks (e ∷ es) (next B ∷ bs) ls) (n ∷ q) → R
  take_cases e es B bs ls n q {R} removed reduced =
      let P : Option State → Type 0 = λ s. Empties s q → R in
      let none_left : P none = λ h. absurd (none_on g q _ h) in
      step_cases (stacks (e ∷ es) (next B ∷ bs) ls) n P (λ z. none_left) (λ z. cond_both (agrees g e B) _ _ P (removed z) (λ a. none_left))
      (λ z. cond_both (agrees g e (symbol g n 0)) _ _ P (reduced z) (λ a. none_left)) none_left
