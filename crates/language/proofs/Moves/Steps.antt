-- Single moves of the machine on the stacks of a rule that is partly done, and moves one after the other.
use Rattle.std.proofs.Common.{◌≡◌, ℕ, zero, suc, ◌<◌, ◌≤◌, true, T, eqb, List, [], ◌∷◌, ◌++◌, map, length, drop, sym, refl, ap, ◌∙◌, arith, drop-cons}
use mathlib.Core.Option.{Option, some, none}
use denote.Floats.{is_true}
use Rattle.std.proofs.lemmas.List.{drop_all}
use Rattle.std.proofs.lemmas.Bool.{cond-true, cond-false, and_from, eq-eqb, ne_eqb}
use Rattle.language.specs.Book.{Grammar, Key, Numbered, left, right, size, symbol}
use Rattle.language.specs.Words.{Word}
use Rattle.language.specs.Machine.{Entry, word, done, Awaited, next, end, State, stacks, is_rule, agrees, reduce, move, remove, step, after, steps}
use Rattle.language.specs.Moves.{behind}
use Rattle.language.proofs.Tests.{test_key, test_rule}

-- moves put together lead where the second ones lead from where the first ones led
pub steps_append : (g : Grammar) (s : Option State) (p q : List ℕ) → steps g s (p ++ q) ≡ steps g (steps g s p) q
steps_append g s [] q = refl
steps_append g s (n ∷ p) q = steps_append g (after g s n) p q

-- a word that matches a key agrees with it
pub word_agrees : (g : Grammar) (w : Word) (c : ℕ) → Key g c → T (w c) → agrees g (word w) c ≡ true
word_agrees g w c k h = and_from _ (w c) (test_key g c k) (is_true (w c) h)

-- a part that is done agrees with itself
pub done_agrees : (g : Grammar) (X c : ℕ) → c ≡ X → agrees g (done X) c ≡ true
done_agrees g X c e = eq-eqb X c (sym e)

-- the stacks when d symbols of rule r are done: es is left of the first, and the others were bs and ls before the rule
abbrev pub within : Grammar → ℕ → ℕ → List Entry → List Awaited → List ℕ → State
within g r zero es bs ls = stacks es bs ls
within g r (suc d) es bs ls = stacks es (map next (drop (suc d) (right g r)) ++ (end ∷ bs)) (left g r ∷ ls)

-- behind the first symbol, the symbol at place d is to come next
later : (g : Grammar) (r d : ℕ) (bs : List Awaited) → d < size g r → map next (drop d (right g r)) ++ bs ≡ next (symbol g r d) ∷ (map next (drop (suc d) (right g r)) ++ bs)
later g r d bs h = ap (λ cs. map next cs ++ bs) (drop-cons (right g r) d 0 h)

-- whatever the first stack, a symbol is to come: the second and third stack below it
pub record Open (state : List Entry → State) : Type 0 where
  pub top : ℕ
  pub second : List Awaited
  pub third : List ℕ
  pub is : (es : List Entry) → state es ≡ stacks es (next top ∷ second) third

-- while rule r is not complete, a symbol is to come
pub open_within : (g : Grammar) (r d B : ℕ) (bs : List Awaited) (ls : List ℕ) → d < size g r → Open (λ es. within g r d es (next B ∷ bs) ls)
open_within g r zero B bs ls h = record { top = B; second = bs; third = ls; is = λ es. refl }
open_within g r (suc d) B bs ls h = record {
  top = symbol g r (suc d);
  second = map next (drop (suc (suc d)) (right g r)) ++ (end ∷ next B ∷ bs);
  third = left g r ∷ ls;
  is = λ es. ap (λ cs. stacks es cs (left g r ∷ ls)) (later g r (suc d) (end ∷ next B ∷ bs) h);
}

-- 0 after a complete rule: its left side is done
pub complete_step : (g : Grammar) (r d : ℕ) (es : List Entry) (bs : List Awaited) (ls : List ℕ) → d ≡ size g r → 1 ≤ d
    → step g (within g r d es bs ls) 0 ≡ some (stacks (done (left g r) ∷ es) bs ls)
complete_step g r zero es bs ls e h = absurd (omega arith)
complete_step g r (suc d) es bs ls e h = ap (λ cs. move es (map next cs ++ (end ∷ bs)) (left g r ∷ ls)) (drop_all (suc d) (right g r) (omega arith))

-- in a book of at most 128 rules
module _ (g : Grammar) (few : length g.rules ≤ 128) where
  -- the number of a rule reduces by it
  rule_step : (r : ℕ) → Numbered g r → (s : State) → step g s r ≡ reduce g r s.first s.second s.third
  rule_step r n s =
      cond-false (eqb r 0) _ _ (ne_eqb r 0 (λ e. omega (arith, n.low)))
      ∙ (cond-false (eqb r 129) _ _ (ne_eqb r 129 (λ e. omega (arith, n.high)))
      ∙ cond-true (is_rule g r) _ none (test_rule g r n))

  -- the move behind a child takes an entry that agrees with the symbol at place d
  pub behind_step : (r d B : ℕ) (e : Entry) (es : List Entry) (bs : List Awaited) (ls : List ℕ) → Numbered g r → d < size g r → agrees g e (symbol g r d) ≡ true
      → step g (within g r d (e ∷ es) (next B ∷ bs) ls) (behind r d) ≡ some (within g r (suc d) es (next B ∷ bs) ls)
  behind_step r zero B e es bs ls n h a = rule_step r n (stacks (e ∷ es) (next B ∷ bs) ls) ∙ cond-true (agrees g e (symbol g r 0)) _ none a
  behind_step r (suc d) B e es bs ls n h a =
      ap (λ cs. remove g (e ∷ es) cs (left g r ∷ ls)) (later g r (suc d) (end ∷ next B ∷ bs) h) ∙ cond-true (agrees g e (symbol g r (suc d))) _ none a
