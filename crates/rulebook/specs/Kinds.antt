-- The numbers that stand for the kinds of a key.
use Rattle.std.specs.Prelude.{◌≡◌, ℕ, ◌≤◌, Result, MatchResult}
use Rattle.rulebook.specs.declared.kinds.KeyKind.{KeyKind}
use Rattle.rulebook.specs.declared.kinds.KeyKind.TheVariants.{Full, Figure, Shortened}
use Rattle.rulebook.specs.declared.kinds.UnknownKind.{UnknownKind}

-- the number of a kind
abbrev pub kind_number : KeyKind → ℕ
kind_number Full = 0
kind_number Figure = 1
kind_number Shortened = 2

-- n is the number of kind k
abbrev pub IsKindNumber : KeyKind → ℕ → Type 0
IsKindNumber k n = n ≡ kind_number k

-- the kind of that number, or the number that stands for no kind
abbrev pub ReadsKind : ℕ → Result KeyKind UnknownKind → Type 0
ReadsKind n r = MatchResult r (λ k. kind_number k ≡ n) (λ e. (e.0 ≡ n) × (3 ≤ n))
