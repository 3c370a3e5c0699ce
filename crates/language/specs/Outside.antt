-- Questions outside a book are answered 0.
use Rattle.std.specs.Prelude.{◌≡◌, ℕ, ◌+◌, ◌<◌, ◌≤◌, ◌⊎◌, length, slice_index}
use Rattle.language.specs.Book.{Meaning, Numbered, left, size, symbol, kind, spelling}

pub record Outside (m : Meaning) : Type 0 where
  -- a rule that is not there
  pub rules : (r : ℕ) → (Numbered m.grammar r → ⊥) → (left m.grammar r ≡ 0) × (size m.grammar r ≡ 0) × ((d : ℕ) → symbol m.grammar r d ≡ 0)
  -- a place past the right side of a rule
  pub symbols : (r d : ℕ) → size m.grammar r ≤ d → symbol m.grammar r d ≡ 0
  -- a key that has no form
  pub keys : (c : ℕ) → (c < 33) ⊎ (33 + length m.forms ≤ c) → (kind m.forms c ≡ 0) × (length (spelling m.forms c) ≡ 0)
  -- a place past the spelling of a key
  pub bytes : (c i : ℕ) → length (spelling m.forms c) ≤ i → slice_index (spelling m.forms c) i ≡ 0

abbrev pub OutsideTheorem : Type 0
OutsideTheorem = (m : Meaning) → Outside m
