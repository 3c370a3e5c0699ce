-- The words of a text: its longest runs of bytes other than space and newline. Places count from 0 here.
use Rattle.std.specs.Prelude.{◌≡◌, ℕ, ◌-◌, ◌<◌, ◌≤◌, Bool, true, false, ◌||◌, ◌⊎◌, List, length, ◌==◌, slice_index, slice_range}

-- a space or a newline
abbrev pub separates : ℕ → Bool
separates b = b == 32 || b == 10

-- from one place to before another a test says no of each byte, and of a byte that follows it says yes
pub record RunTo (Says : ℕ → Bool → Type 0) (t : List ℕ) (from past : ℕ) : Type 0 where
  pub low : from ≤ past
  pub high : past ≤ length t
  pub bytes : (k : ℕ) → from ≤ k → k < past → Says (slice_index t k) false
  pub stops : past < length t → Says (slice_index t past) true

-- a word: at least one byte, none that separates, and no longer run around it
pub record Longest (t : List ℕ) (from past : ℕ) : Type 0 where
  pub some : from < past
  pub within : past ≤ length t
  pub bytes : (k : ℕ) → from ≤ k → k < past → separates (slice_index t k) ≡ false
  pub before : 0 < from → separates (slice_index t (from - 1)) ≡ true
  pub after : past < length t → separates (slice_index t past) ≡ true

-- the first word that begins at a place or past it, or the end of the text where there is none
pub record NextWord (t : List ℕ) (at from past : ℕ) : Type 0 where
  pub low : at ≤ from
  pub gap : (k : ℕ) → at ≤ k → k < from → separates (slice_index t k) ≡ true
  pub word : Longest t from past ⊎ ((from ≡ length t) × (past ≡ length t))

-- the bytes from one place to before another
abbrev pub bytes_in : List ℕ → ℕ → ℕ → List ℕ
bytes_in t from past = slice_range t from past
