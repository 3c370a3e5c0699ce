-- That a book is sound can be decided, so it is known where it is only known to hold.
use Rattle.std.proofs.Common.{◌≡◌, ℕ, zero, suc, ◌<◌, ◌≤◌, ◌⊎◌, length, sym, refl, subst, inl, inr, ⊎_elim, max, arith}
use mathlib.Core.Logic.{∥∥₁_elim, ∥∥₁_map}
use mathlib.Core.HLevel.{⊥_prop}
use mathlib.Mathlib.Data.Nat.Find.{find_x}
use native.Mathlib.Bridge.{from_ℕ, to_ℕ, from_ℕ-to_ℕ}
use native.Mathlib.Decide.{dec_le, ℕ_discrete}
use Rattle.std.proofs.lemmas.Bool.{cases_lt}
use Rattle.language.specs.Book.{Grammar, Meaning, Key, Numbered, left, size, symbol}
use Rattle.language.specs.Closure.{Productive}
use Rattle.language.specs.Sound.{CountsFit, Sound}
use Rattle.language.proofs.Decided.{both_dec, either_dec, dec_each, dec_some, dec_key, dec_numbered, dec_rule_fits, dec_form_fits}

-- what is decided and only known to hold is known
known : {A : Type 0} → Dec A → ∥ A ∥₁ → A
known (yes a) h = a
known (no n) h = absurd (∥∥₁_elim h ⊥_prop n)

-- so is a number with a property that is decided of each number: they are tried from 0 on
known_number : (P : ℕ → Type 0) → ((n : ℕ) → Dec (P n)) → ∥ ((n : ℕ) × P n) ∥₁ → (n : ℕ) × P n
known_number P dec h =
    let found = find_x (λ n. dec (from_ℕ n)) (∥∥₁_map h (λ w. (to_ℕ w.0, subst P (sym (from_ℕ-to_ℕ w.0)) w.1))) in
    (from_ℕ found.0, found.1.0)

-- rule r turns X into symbols that all have P
abbrev By : Grammar → (ℕ → Type 0) → ℕ → ℕ → Type 0
By g P X r = Numbered g r × ((left g r ≡ X) × ((d : ℕ) → d < size g r → P (symbol g r d)))

dec_by : (g : Grammar) (P : ℕ → Type 0) → ((Y : ℕ) → Dec (P Y)) → (X r : ℕ) → Dec (By g P X r)
dec_by g P dec X r = both_dec (dec_numbered g r) (both_dec (ℕ_discrete (left g r) X) (dec_each (λ d. P (symbol g r d)) (λ d. dec (symbol g r d)) (size g r)))

-- X can be turned into keys alone by a tree of at most n levels; that of a key has one
abbrev Turns : Grammar → ℕ → ℕ → Type 0
Turns g zero X = ⊥
Turns g (suc n) X = Key g X ⊎ ((r : ℕ) × (r < suc (length g.rules)) × By g (Turns g n) X r)

module _ (g : Grammar) where
  -- with a bound on the levels it is decided by recursion
  dec_turns : (n X : ℕ) → Dec (Turns g n X)
  dec_turns zero X = no (λ h. h)
  dec_turns (suc n) X = either_dec (dec_key g X) (dec_some (By g (Turns g n) X) (dec_by g (Turns g n) (dec_turns n) X) (suc (length g.rules)))

  turns_productive : (n X : ℕ) → Turns g n X → Productive g X
  turns_productive zero X h = absurd h
  turns_productive (suc n) X (inl k) = Productive.key X k
  turns_productive (suc n) X (inr (r, b, (h, (e, each)))) = subst (Productive g) e (Productive.part r h (λ d l. turns_productive n (symbol g r d) (each d l)))

  -- more levels do no harm
  turns_more : (n k X : ℕ) → n ≤ k → Turns g n X → Turns g k X
  turns_more zero k X l h = absurd h
  turns_more (suc n) zero X l h = absurd (omega arith)
  turns_more (suc n) (suc k) X l (inl h) = inl h
  turns_more (suc n) (suc k) X l (inr (r, b, (h, (e, each)))) = inr (r, b, (h, (e, λ d i. turns_more n k (symbol g r d) (omega arith) (each d i))))

  -- a number of levels for each of the first s symbols of a rule gives one for all of them: the greatest
  common : (r s : ℕ) → ((d : ℕ) → d < s → (n : ℕ) × Turns g n (symbol g r d)) → (n : ℕ) × ((d : ℕ) → d < s → Turns g n (symbol g r d))
  common r zero each = (0, λ d l. absurd (omega arith))
  common r (suc s) each =
      let (n, before) = common r s (λ d l. each d (omega arith)) in
      let (k, last) = each s (omega arith) in (
        max n k,
        λ d l. ⊎_elim
            (λ b. turns_more n (max n k) (symbol g r d) (omega arith) (before d b))
            (λ b. let same : s ≡ d = omega arith in subst (λ i. Turns g (max n k) (symbol g r i)) same (turns_more k (max n k) (symbol g r s) (omega arith) last))
            (cases_lt d s),
      )

  -- the tree of any proof has some number of levels
  productive_turns : (X : ℕ) → Productive g X → (n : ℕ) × Turns g n X
  productive_turns X (Productive.key c k) = (1, inl k)
  productive_turns X (Productive.part r h each) =
      let (n, all) = common r (size g r) (λ d l. productive_turns (symbol g r d) (each d l)) in
      (suc n, inr (r, omega (arith, h.high), (h, (refl, all))))

  -- the number of levels is found, and then the tree
  productive_known : (X : ℕ) → ∥ Productive g X ∥₁ → Productive g X
  productive_known X h =
      let (n, t) = known_number (λ n. Turns g n X) (λ n. dec_turns n X) (∥∥₁_map h (productive_turns X)) in
      turns_productive n X t

-- each count is in bounds, and bounds are decided
counts_known : (g : Grammar) → ∥ CountsFit g ∥₁ → CountsFit g
counts_known g h = record {
  some_parts = at _ _ (λ c. c.some_parts);
  few_parts = at _ _ (λ c. c.few_parts);
  some_keys = at _ _ (λ c. c.some_keys);
  few_keys = at _ _ (λ c. c.few_keys);
  start_part = record { low = at _ _ (λ c. c.start_part.low); high = at _ _ (λ c. c.start_part.high) };
  some_rules = at _ _ (λ c. c.some_rules);
  few_rules = at _ _ (λ c. c.few_rules);
}
  where
    at : (x y : ℕ) → (CountsFit g → x ≤ y) → x ≤ y
    at x y f = known (dec_le x y) (∥∥₁_map h f)

-- the book is sound; that no part is turned into itself alone denies something, so that needs no decision
pub sound_known : (m : Meaning) → ∥ Sound m ∥₁ → Sound m
sound_known m h = record {
  formed =
      record {
        counts = counts_known m.grammar (∥∥₁_map h (λ s. s.formed.counts));
        rules = λ r n. known (dec_rule_fits m.grammar _) (∥∥₁_map h (λ s. s.formed.rules r n));
        keys = λ c k. known (dec_form_fits _) (∥∥₁_map h (λ s. s.formed.keys c k));
      };
  productive = λ X p. productive_known m.grammar X (∥∥₁_map h (λ s. s.productive X p));
  acyclic = λ X p path. ∥∥₁_elim h ⊥_prop (λ s. s.acyclic X p path);
}
