-- The left corners of a symbol as a mask.
use Rattle.std.specs.Prelude.{◌≡◌, ℕ, ◌-◌, ◌^◌, ◌<◌, ◌≤◌, true, ◌↔◌}
use Rattle.language.specs.Book.{Grammar, Meaning, Numbered, left, symbol}
use Rattle.language.specs.Sound.{Sound}
use Rattle.language.specs.Masks.{bit}
use Rattle.language.specs.Chart.{Corner}

-- the mask holds Y, one of the symbols 1 to 64, by its bit Y - 1
pub record InMask (mask Y : ℕ) : Type 0 where
  pub low : 1 ≤ Y
  pub high : Y ≤ 64
  pub set : bit mask (Y - 1) ≡ true

-- the mask holds exactly the left corners of X
abbrev pub CornerMask : Grammar → ℕ → ℕ → Type 0
CornerMask g X mask = (Y : ℕ) → InMask mask Y ↔ Corner g X Y

-- a mask of 64 bits that holds X, with each left side the first symbol of the rule, and nothing but left corners of X
pub record Settled (g : Grammar) (X mask : ℕ) : Type 0 where
  pub self : InMask mask X
  pub down : (r : ℕ) → Numbered g r → InMask mask (left g r) → InMask mask (symbol g r 0)
  pub corners : (Y : ℕ) → InMask mask Y → Corner g X Y
  pub fits : mask < 2 ^ 64

-- such a mask is exactly the left corners, and in a book that the check accepts every symbol has one
pub record CornersAre (g : Grammar) (X : ℕ) : Type 0 where
  pub exact : (mask : ℕ) → Settled g X mask → CornerMask g X mask
  pub exists : 1 ≤ X → X ≤ 64 → (mask : ℕ) × Settled g X mask

abbrev pub CornersTheorem : Type 0
CornersTheorem = (m : Meaning) → Sound m → (X : ℕ) → CornersAre m.grammar X
