-- What a step adds to a set of symbols.
use Rattle.std.specs.Prelude.{◌≡◌, ℕ, ◌<◌, ◌≤◌, Bool, true, ◌⊎◌}
use Rattle.language.specs.Book.{Grammar, left, size, symbol}
use Rattle.rulebook.specs.Sets.{has, symbolic}
use Rattle.rulebook.specs.declared.sets.SymbolSet.{SymbolSet}

-- set t holds all that s holds, and if D is true of all in s, it is true of all in t
pub record Grown (D : ℕ → Type 0) (s t : SymbolSet) : Type 0 where
  pub grows : s.mask ≤ t.mask
  pub keeps : (c : ℕ) → has s c ≡ true → has t c ≡ true
  pub sound : ((c : ℕ) → has s c ≡ true → D c) → (c : ℕ) → has t c ≡ true → D c

-- if nothing was added to s, then s has the symbol x where a rule that adds x fires at s
abbrev pub Closed : ((ℕ → Bool) → Type 0) → ℕ → SymbolSet → SymbolSet → Type 0
Closed Fires x s t = t.mask ≤ s.mask → Fires (has s) → symbolic x ≡ true → has s x ≡ true

-- a rule adds its left part to a set that has all symbols of its right side
abbrev pub AllHeld : Grammar → ℕ → (ℕ → Bool) → Type 0
AllHeld g r held = (d : ℕ) → d < size g r → held (symbol g r d) ≡ true

-- a rule of length 1 adds its symbol where its left part is X or in the set
abbrev pub UnitFrom : Grammar → ℕ → ℕ → (ℕ → Bool) → Type 0
UnitFrom g X r held = (size g r ≡ 1) × ((left g r ≡ X) ⊎ (held (left g r) ≡ true))

-- a rule adds its first symbol where its left part is in the set
abbrev pub LeftHeld : Grammar → ℕ → (ℕ → Bool) → Type 0
LeftHeld g r held = held (left g r) ≡ true
