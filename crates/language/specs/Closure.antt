-- Least sets of symbols: what can be turned into keys alone, and what a part is turned into alone.
use Rattle.std.specs.Prelude.{◌≡◌, ℕ, ◌<◌}
use Rattle.language.specs.Book.{Grammar, Key, Numbered, left, size, symbol}

-- a symbol can be turned into keys alone: it is a key, or some rule turns it into such symbols
pub data Productive (g : Grammar) : ℕ → Type 0 where
  key : (c : ℕ) → Key g c → Productive g c
  part : (r : ℕ) → Numbered g r → ((d : ℕ) → d < size g r → Productive g (symbol g r d)) → Productive g (left g r)

-- X is turned into a symbol alone, by one or more rules of length 1
pub data UnitPath (g : Grammar) (X : ℕ) : ℕ → Type 0 where
  one : (r : ℕ) → Numbered g r → size g r ≡ 1 → left g r ≡ X → UnitPath g X (symbol g r 0)
  more : (r : ℕ) → Numbered g r → size g r ≡ 1 → UnitPath g X (left g r) → UnitPath g X (symbol g r 0)
