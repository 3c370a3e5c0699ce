-- What is copied of a book to fixed memory.
use Rattle.std.specs.Prelude.{Result, Ok, Err, ◌≡◌, ℕ, ◌<◌, ◌≤◌, length, slice_index_or}
use Rattle.language.specs.Book.{Meaning}
use Rattle.rulebook.specs.declared.kinds.KeyKind.{KeyKind}
use Rattle.rulebook.specs.declared.kinds.KeyKind.TheVariants.{Full, Figure, Shortened}
use Rattle.soundbook.specs.declared.copies.Counts.{Counts}
use Rattle.soundbook.specs.declared.shorts.Short.{Short}

-- these are the counts of the book
pub record Counted (m : Meaning) (c : Counts) : Type 0 where
  pub parts : c.parts ≡ m.grammar.parts
  pub keys : c.keys ≡ m.grammar.keys
  pub forms : c.keys ≡ length m.forms
  pub start : c.start ≡ m.grammar.start
  pub rules : c.rules ≡ length m.grammar.rules

-- n items, each made for its place
pub record Made {X E : Type 0} {N : ℕ} (Makes : ℕ → Result X E → Type 0) (past : X) (n : ℕ) (s : Short X N) : Type 0 where
  pub long : s.len ≡ n
  pub each : (i : ℕ) → i < n → Makes i (Ok (slice_index_or s.items i past))

-- of the first n places one is refused, and an item is made for each before it
pub record FirstRefused {X E : Type 0} (Makes : ℕ → Result X E → Type 0) (n : ℕ) (e : E) : Type 0 where
  pub at : ℕ
  pub inside : at < n
  pub before : (i : ℕ) → i < at → (x : X) × Makes i (Ok x)
  pub refused : Makes at (Err e)

-- a spelling of so many bytes goes with the kind
abbrev pub LengthFits : KeyKind → ℕ → Type 0
LengthFits Full n = (1 ≤ n) × (n ≤ 24)
LengthFits Figure n = n ≡ 0
LengthFits Shortened n = (3 ≤ n) × (n ≤ 24)
