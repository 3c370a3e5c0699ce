-- Sets of small numbers as masks.
use Rattle.std.specs.Prelude.{ℕ, ◌/◌, ◌%◌, ◌^◌, Bool, ◌==◌}

-- bit k of a mask
unfoldable pub bit : ℕ → ℕ → Bool
bit m k = m / 2 ^ k % 2 == 1
