-- The lowest part that passes a test.
use Rattle.std.proofs.Common.{◌≡◌, ℕ, ◌+◌, ◌<◌, ◌≤◌, Option, Some, None, MatchOption, arith}
use Rattle.language.specs.Book.{Grammar, Part}
use Rattle.soundbook.specs.Refusals.{Lowest}

-- what is found from 1 up to before n is the lowest part of which P does not hold
pub lowest_found : (g : Grammar) (P Yes No : ℕ → Type 0) → ((q : ℕ) → No q → P q) → ((q : ℕ) → Yes q → P q → ⊥) → (n : ℕ) → n ≡ 1 + g.parts → (r : Option ℕ)
    → MatchOption r ((k : ℕ) → 1 ≤ k → k < n → No k) (λ x. (1 ≤ x) × (x < n) × Yes x × ((k : ℕ) → 1 ≤ k → k < x → No k))
    → MatchOption r ((q : ℕ) → Part g q → P q) (Lowest g P)
lowest_found g P Yes No holds fails n parts None h = λ q p. holds q (h q p.low (omega (arith, p.high)))
lowest_found g P Yes No holds fails n parts (Some x) h =
    record { part = record { low = h.0; high = omega (arith, h.1) }; before = λ q l p. holds q (h.3 q p.low l); fails = fails x h.2 }
