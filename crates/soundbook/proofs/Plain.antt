-- The bounds of a sound book, which are told by numbers alone.
use Rattle.std.proofs.Common.{ℕ, ◌+◌, ◌<◌, ◌≤◌, length, ⊎_elim, arith}
use mathlib.Core.Logic.{∥∥₁_elim}
use native.Mathlib.Bridge.{le_prop}
use Rattle.std.proofs.lemmas.Bool.{cases_lt}
use Rattle.std.proofs.lemmas.List.{get_or_past}
use Rattle.language.specs.Book.{Grammar, Meaning, Numbered, left, right, size, symbol}
use Rattle.language.specs.Sound.{Sound}

-- a rule has 1 to 6 symbols of the book and turns a part, and there are few of everything
pub record Plain (g : Grammar) : Type 0 where
  pub few_rules : length g.rules ≤ 128
  pub few_keys : g.keys ≤ 32
  pub start_low : 1 ≤ g.start
  pub start_high : g.start ≤ 32
  pub some_symbols : (r : ℕ) → Numbered g r → 1 ≤ size g r
  pub few_symbols : (r : ℕ) → Numbered g r → size g r ≤ 6
  pub left_low : (r : ℕ) → Numbered g r → 1 ≤ left g r
  pub left_high : (r : ℕ) → Numbered g r → left g r ≤ 32
  pub symbol_low : (r d : ℕ) → Numbered g r → d < size g r → 1 ≤ symbol g r d
  pub symbol_high : (r d : ℕ) → Numbered g r → d < size g r → symbol g r d ≤ 64
  -- a symbol from 33 on is a key of the book
  pub symbol_key : (r d : ℕ) → Numbered g r → d < size g r → 33 ≤ symbol g r d → symbol g r d ≤ 32 + g.keys

-- so has the first symbol of a rule its bounds
pub first_low : (g : Grammar) → Plain g → (r : ℕ) → Numbered g r → 1 ≤ symbol g r 0
first_low g p r n = p.symbol_low r 0 n (p.some_symbols r n)

pub first_high : (g : Grammar) → Plain g → (r : ℕ) → Numbered g r → symbol g r 0 ≤ 64
first_high g p r n = p.symbol_high r 0 n (p.some_symbols r n)

-- and what is read at any place, which is 0 past the end
pub place_high : (g : Grammar) → Plain g → (r d : ℕ) → Numbered g r → symbol g r d ≤ 64
place_high g p r d n = ⊎_elim (p.symbol_high r d n) (λ l. omega (arith, get_or_past (right g r) d 0 l)) (cases_lt d (size g r))

module _ (m : Meaning) (sound : ∥ Sound m ∥₁) where
  abbrev known : (x y : ℕ) → (Sound m → x ≤ y) → x ≤ y
  known x y f = ∥∥₁_elim sound le_prop f

  pub plain : Plain m.grammar
  plain =
      record {
        few_rules = known _ _ (λ s. s.formed.counts.few_rules);
        few_keys = known _ _ (λ s. s.formed.counts.few_keys);
        start_low = known _ _ (λ s. s.formed.counts.start_part.low);
        start_high = known _ _ (λ s. omega (arith, s.formed.counts.start_part.high, s.formed.counts.few_parts));
        some_symbols = λ r n. known _ _ (λ s. (s.formed.rules r n).some_symbols);
        few_symbols = λ r n. known _ _ (λ s. (s.formed.rules r n).few_symbols);
        left_low = λ r n. known _ _ (λ s. (s.formed.rules r n).turns.low);
        left_high = λ r n. known _ _ (λ s. omega (arith, (s.formed.rules r n).turns.high, s.formed.counts.few_parts));
        symbol_low = λ r d n l. known _ _ (λ s. ⊎_elim (λ p. p.low) (λ k. omega (arith, k.low)) ((s.formed.rules r n).symbols d l));
        symbol_high = λ r d n l. known _ _ (λ s. ⊎_elim (λ p. omega (arith, p.high, s.formed.counts.few_parts)) (λ k. omega (arith, k.high, s.formed.counts.few_keys)) ((s.formed.rules r n).symbols d l));
        symbol_key = λ r d n l h. known _ _ (λ s. ⊎_elim (λ p. absurd (omega (arith, p.high, s.formed.counts.few_parts))) (λ k. k.high) ((s.formed.rules r n).symbols d l));
      }
