-- Questions that are asked one after another.
use Rattle.std.proofs.Common.{◌≡◌, ℕ, zero, suc, ◌+◌, ◌-◌, ◌<◌, ◌≤◌, List, [], ◌∷◌, ◌++◌, IsErrAnd, IfOk, Some, None, Ok, Err, Option, Result, sym, ap, ◌∙◌, subst, inl, inr, ⊎_elim, arith}
use Rattle.std.specs.List.{range_with_len, flat_map}
use Rattle.std.specs.Option.{ok_or}
use Rattle.std.specs.Option as options
use Rattle.rulebook.specs.declared.faults.Fault.{Fault}
use Rattle.booktext.specs.Columns.{shown, value}
use Rattle.booktext.specs.Form.{Question, AllYes, FirstNo, Asked}
use Rattle.booktext.proofs.Shown.{value_read}

pub yes_append : (p q : List Question) → AllYes p → AllYes q → AllYes (p ++ q)
yes_append [] q a b = b
yes_append (x ∷ p) q a b = (a.0, yes_append p q a.1 b)

pub yes_front : (p q : List Question) → AllYes (p ++ q) → AllYes p
yes_front [] q a = tt
yes_front (x ∷ p) q a = (a.0, yes_front p q a.1)

pub yes_back : (p q : List Question) → AllYes (p ++ q) → AllYes q
yes_back [] q a = a
yes_back (x ∷ p) q a = yes_back p q a.1

pub no_early : (p q : List Question) (e : Fault) → FirstNo p e → FirstNo (p ++ q) e
no_early [] q e f = absurd f
no_early (x ∷ p) q e f = ⊎_elim (λ here. inl here) (λ later. inr (later.0, no_early p q e later.1)) f

pub no_late : (p q : List Question) (e : Fault) → AllYes p → FirstNo q e → FirstNo (p ++ q) e
no_late [] q e a f = f
no_late (x ∷ p) q e a f = inr (a.0, no_late p q e a.1 f)

-- what a refusal that is handed on answers
pub asked_err : {X : Type 0} (qs : List Question) (r : Result X Fault) (e : Fault) → IsErrAnd r (λ y. y ≡ e) → FirstNo qs e → Asked qs r
asked_err qs (Ok x) e h f = absurd h
asked_err qs (Err y) e h f = subst (FirstNo qs) (sym h) f

pub asked_after : {X : Type 0} (p q : List Question) (r : Result X Fault) → AllYes p → Asked q r → Asked (p ++ q) r
asked_after p q (Ok x) a b = yes_append p q a b
asked_after p q (Err e) a b = no_late p q e a b

-- questions for each number from a on
module _ (f : ℕ → List Question) where
  -- those for one number more
  pub yes_more : (a k j : ℕ) → a + k ≡ j → AllYes (flat_map f (range_with_len a k)) → AllYes (f j) → AllYes (flat_map f (range_with_len a (suc k)))
  yes_more a zero j e p q = yes_append (f a) [] (subst (λ n. AllYes (f n)) (omega arith) q) tt
  yes_more a (suc k) j e p q =
      yes_append (f a) (flat_map f (range_with_len (a + 1) (suc k))) (yes_front (f a) (flat_map f (range_with_len (a + 1) k)) p)
      (yes_more (a + 1) k j (omega arith) (yes_back (f a) (flat_map f (range_with_len (a + 1) k)) p) q)

  -- those for the number j
  pub yes_at : (a k n j : ℕ) → a + k ≡ j → k < n → AllYes (flat_map f (range_with_len a n)) → AllYes (f j)
  yes_at a k zero j e l h = absurd (omega arith)
  yes_at a zero (suc n) j e l h = subst (λ i. AllYes (f i)) (omega arith) (yes_front (f a) (flat_map f (range_with_len (a + 1) n)) h)
  yes_at a (suc k) (suc n) j e l h = yes_at (a + 1) k n j (omega arith) (omega arith) (yes_back (f a) (flat_map f (range_with_len (a + 1) n)) h)

  -- the first no is among those for the number j
  pub no_at : (a k n j : ℕ) (e : Fault) → a + k ≡ j → k < n → AllYes (flat_map f (range_with_len a k)) → FirstNo (f j) e → FirstNo (flat_map f (range_with_len a n)) e
  no_at a k zero j e is l p q = absurd (omega arith)
  no_at a zero (suc n) j e is l p q = no_early (f a) (flat_map f (range_with_len (a + 1) n)) e (subst (λ i. FirstNo (f i) e) (omega arith) q)
  no_at a (suc k) (suc n) j e is l p q =
      no_late (f a) (flat_map f (range_with_len (a + 1) n)) e (yes_front (f a) (flat_map f (range_with_len (a + 1) k)) p)
      (no_at (a + 1) k n j e (omega arith) (omega arith) (yes_back (f a) (flat_map f (range_with_len (a + 1) k)) p) q)

  -- the same over a loop from a to before z, at j
  pub loop_more : (a j : ℕ) → a ≤ j → AllYes (flat_map f (range_with_len a (j - a))) → AllYes (f j) → AllYes (flat_map f (range_with_len a (j + 1 - a)))
  loop_more a j l p q =
      let next : suc (j - a) ≡ j + 1 - a = omega arith in
      subst (λ n. AllYes (flat_map f (range_with_len a n))) next (yes_more a (j - a) j (omega arith) p q)

  pub loop_stop : (a z j : ℕ) (e : Fault) → a ≤ j → j < z → AllYes (flat_map f (range_with_len a (j - a))) → FirstNo (f j) e → FirstNo (flat_map f (range_with_len a (z - a))) e
  loop_stop a z j e l h p q = no_at a (j - a) (z - a) j e (omega arith) (omega arith) p q

-- a field that was read
pub number_made : (g f : List ℕ) (o : Option ℕ) (e : Fault) → g ≡ f → options.MatchOption o ((v : ℕ) → v < 10000 → shown 4 v ≡ g → ⊥) (λ v. (v < 10000) × (shown 4 v ≡ g)) → IfOk (ok_or o e) (λ v. v ≡ value f)
number_made g f None e at h = tt
number_made g f (Some v) e at h = value_read g (Some v) h ∙ ap value at
