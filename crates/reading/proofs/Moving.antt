-- What the moves of the code do to the stacks.
use Rattle.std.proofs.Common.{◌≡◌, ℕ, zero, suc, ◌+◌, ◌<◌, ◌≤◌, Bool, true, false, cond, ◌&&◌, List, [], ◌∷◌, ◌++◌, map, drop, length, eqb, refl, sym, ap, ◌∙◌, subst, arith, length-append, length-drop}
use Rattle.std.proofs.lemmas.List.{length-map}
use Rattle.std.proofs.Math.Option.{some, none}
use Rattle.std.proofs.lemmas.Bool.{and_parts, cond-true, cond-false, ne_eqb}
use Rattle.language.specs.Book.{Grammar, left, right, size, symbol}
use Rattle.language.specs.Machine.{Entry, Awaited, next, end, State, stacks, is_rule, agrees, reduce, move, remove, step}
use Rattle.rulebook.specs.declared.faults.Fault.{Fault}
use Rattle.rulebook.specs.declared.faults.Fault.TheVariants.{StackFull}
use Rattle.language.proofs.Tests.{rule_test}
use Rattle.soundbook.proofs.Plain.{Plain}
use Rattle.reading.specs.declared.stacks.Blank.{Ghosts}
use Rattle.reading.specs.declared.stacks.Stack.{Stack}
use Rattle.reading.specs.Stacks.{stacked}
use Rattle.reading.specs.Machines.{awaited, rooms_of, top_agrees, symbol_on_top, Barred, no_room, RuleBegun, RuleShort, second_short, third_short}
use Rattle.reading.specs.Replays.{Rooms}

-- a number that is no end mark is a symbol
pub awaited_next : (c : ℕ) → 1 ≤ c → awaited c ≡ next c
awaited_next zero h = let no : ⊥ = omega arith in absurd no
awaited_next (suc c) h = refl

-- no end mark is on top, or no left side is to be done
pub data NoEnd (xs ls : List ℕ) : Type 0 where
  empty : xs ≡ [] → NoEnd xs ls
  symbol_top : (x : ℕ) (rest : List ℕ) → xs ≡ x ∷ rest → 1 ≤ x → NoEnd xs ls
  no_left : (x : ℕ) (rest : List ℕ) → xs ≡ x ∷ rest → ls ≡ [] → NoEnd xs ls

-- then no end mark is taken off
pub move_none : (es : List Entry) (xs ls : List ℕ) → NoEnd xs ls → move es (map awaited xs) ls ≡ none
move_none es xs ls (empty h) = subst (λ ys. move es (map awaited ys) ls ≡ none) (sym h) refl
move_none es xs ls (symbol_top x rest h low) = subst (λ ys. move es (map awaited ys) ls ≡ none) (sym h) (under x low)
  where
    under : (x : ℕ) → 1 ≤ x → move es (awaited x ∷ map awaited rest) ls ≡ none
    under zero k = let no : ⊥ = omega arith in absurd no
    under (suc x) k = refl
move_none es xs ls (no_left x rest h e) = subst (λ ys. move es (map awaited ys) ls ≡ none) (sym h) (subst (λ ks. move es (awaited x ∷ map awaited rest) ks ≡ none) (sym e) (under x))
  where
    under : (x : ℕ) → move es (awaited x ∷ map awaited rest) [] ≡ none
    under zero = refl
    under (suc x) = refl

-- the tops of the first and second stack do not agree
pub data Differ (g : Grammar) (es : List Entry) (xs : List ℕ) : Type 0 where
  nothing : xs ≡ [] → Differ g es xs
  end_top : (rest : List ℕ) → xs ≡ 0 ∷ rest → Differ g es xs
  other : (x : ℕ) (rest : List ℕ) → xs ≡ x ∷ rest → top_agrees g es x ≡ false → Differ g es xs

-- then nothing is taken off
pub remove_none : (g : Grammar) (es : List Entry) (xs ls : List ℕ) → Differ g es xs → remove g es (map awaited xs) ls ≡ none
remove_none g [] xs ls d = refl
remove_none g (e ∷ es) xs ls (nothing h) = subst (λ ys. remove g (e ∷ es) (map awaited ys) ls ≡ none) (sym h) refl
remove_none g (e ∷ es) xs ls (end_top rest h) = subst (λ ys. remove g (e ∷ es) (map awaited ys) ls ≡ none) (sym h) refl
remove_none g (e ∷ es) xs ls (other x rest h a) = subst (λ ys. remove g (e ∷ es) (map awaited ys) ls ≡ none) (sym h) (under x a)
  where
    under : (x : ℕ) → agrees g e x ≡ false → remove g (e ∷ es) (awaited x ∷ map awaited rest) ls ≡ none
    under zero k = refl
    under (suc x) k = rw k refl

-- the state once rule r is begun
abbrev pub begun : Grammar → ℕ → State → State
begun g r s = stacks (drop 1 s.first) (map next (drop 1 (right g r)) ++ (end ∷ s.second)) (left g r ∷ s.third)

-- a rule is begun where a test of the tops passes
reduce_is : (g : Grammar) (r : ℕ) (es : List Entry) (bs : List Awaited) (ls : List ℕ)
    → reduce g r es bs ls ≡ cond (symbol_on_top bs && top_agrees g es (symbol g r 0)) (some (begun g r (stacks es bs ls))) none
reduce_is g r [] [] ls = refl
reduce_is g r [] (end ∷ bs) ls = refl
reduce_is g r [] (next B ∷ bs) ls = refl
reduce_is g r (e ∷ es) [] ls = refl
reduce_is g r (e ∷ es) (end ∷ bs) ls = refl
reduce_is g r (e ∷ es) (next B ∷ bs) ls = refl

-- two tests, one inside the other
both_tests : {A : Type 0} (p q : Bool) (x y : A) → cond p (cond q x y) y ≡ cond (p && q) x y
both_tests true q x y = refl
both_tests false q x y = refl

-- the test of the tops and of the number
abbrev pub may_begin : Grammar → ℕ → State → Bool
may_begin g r s = is_rule g r && (symbol_on_top s.second && top_agrees g s.first (symbol g r 0))

-- so is a number that is neither of the other moves
step_is : (g : Grammar) (s : State) (r : ℕ) → (r ≡ 0 → ⊥) → (r ≡ 129 → ⊥) → step g s r ≡ cond (may_begin g r s) (some (begun g r s)) none
step_is g s r z x =
    cond-false (eqb r 0) _ _ (ne_eqb r 0 z)
    ∙ (cond-false (eqb r 129) _ _ (ne_eqb r 129 x)
    ∙ (ap (λ o. cond (is_rule g r) o none) (reduce_is g r s.first s.second s.third)
    ∙ both_tests (is_rule g r) (symbol_on_top s.second && top_agrees g s.first (symbol g r 0)) _ _))

-- a rule has its symbols but the first to come, and an end mark
begun_long : (g : Grammar) (r : ℕ) (s : State) → 1 ≤ size g r → length (begun g r s).second ≡ length s.second + size g r
begun_long g r s h =
    let rest = drop 1 (right g r) in
    omega (arith, length-append (map next rest) (end ∷ s.second), length-map rest next, length-drop 1 (right g r))

module _ (g : Grammar) (s : State) (r : ℕ) (other : (r ≡ 0 → ⊥) × (r ≡ 129 → ⊥)) where
  pub step_none : false ≡ may_begin g r s → step g s r ≡ none
  step_none h = step_is g s r other.0 other.1 ∙ cond-false _ _ _ (sym h)

  pub step_begun : true ≡ may_begin g r s → step g s r ≡ some (begun g r s)
  step_begun h = step_is g s r other.0 other.1 ∙ cond-true _ _ _ (sym h)

  -- stacks with a rule begun
  begun_state : (es : List Entry) (bs : List Awaited) (ls : List ℕ) → es ≡ drop 1 s.first → bs ≡ map next (drop 1 (right g r)) ++ (end ∷ s.second)
      → ls ≡ left g r ∷ s.third → begun g r s ≡ stacks es bs ls
  begun_state es bs ls e b l = rw (e, b, l) refl

  -- where its symbols and an end mark do not fit, or its left side
  second_full : (room : Rooms) (at : ℕ) → true ≡ may_begin g r s → 1 ≤ size g r → room.second < length s.second + size g r → Barred room (step g s r) at (StackFull at)
  second_full room at h low full =
      let long = begun_long g r s low in
      no_room (begun g r s) (step_begun h) (λ fits. omega (arith, fits.second, long))

  third_full : (room : Rooms) (at : ℕ) → true ≡ may_begin g r s → room.third ≤ length s.third → Barred room (step g s r) at (StackFull at)
  third_full room at h full = no_room (begun g r s) (step_begun h) (λ fits. omega (arith, fits.third))

-- what the code leaves when it begins a rule, and why it does not
module _ {b : Ghosts ℕ} (g k : Grammar) (same : k ≡ g) (r at : ℕ) (other : (r ≡ 0 → ⊥) × (r ≡ 129 → ⊥)) (es fs : List Entry)
    (second second' third third' : Stack ℕ b) (test : true ≡ may_begin g r (stacks es (map awaited (stacked second)) (stacked third))) where
  abbrev before : State
  before = stacks es (map awaited (stacked second)) (stacked third)

  pub leads_on : fs ≡ drop 1 es → RuleBegun k r second second' third third' → step g before r ≡ some (stacks fs (map awaited (stacked second')) (stacked third'))
  leads_on e p =
      let q : RuleBegun g r second second' third third' = subst (λ h. RuleBegun h r second second' third third') same p in
      step_begun g before r other test ∙ ap some (begun_state g before r other _ _ _ e q.awaiting q.waiting)

  pub stops : (f : Fault) → Plain g → (f ≡ StackFull at) × RuleShort k r second third → Barred (rooms_of second third) (step g before r) at f
  stops f p (e, n) = subst (Barred (rooms_of second third) (step g before r) at) (sym e) (short (subst (λ h. RuleShort h r second third) same n))
    where
      short : RuleShort g r second third → Barred (rooms_of second third) (step g before r) at (StackFull at)
      short (second_short h) =
          let low = p.some_symbols r (rule_test g r (and_parts _ _ (sym test)).0) in
          second_full g before r other (rooms_of second third) at test low (omega (arith, h, length-map (stacked second) awaited))
      short (third_short h) = third_full g before r other (rooms_of second third) at test h
