-- The left corners of a symbol as a set.
use Rattle.std.specs.Prelude.{ℕ, ◌≤◌, IsTrue, ◌↔◌}
use Rattle.language.specs.Book.{Grammar}
use Rattle.language.specs.Chart.{Corner}
use Rattle.rulebook.specs.Sets.{has}
use Rattle.rulebook.specs.declared.sets.SymbolSet.{SymbolSet}

-- the set holds exactly the left corners of X, of the symbols 1 to 64 that a set can hold
abbrev pub CornersOf : Grammar → ℕ → SymbolSet → Type 0
CornersOf g X s = (Y : ℕ) → IsTrue (has s Y) ↔ ((1 ≤ Y) × (Y ≤ 64) × Corner g X Y)
