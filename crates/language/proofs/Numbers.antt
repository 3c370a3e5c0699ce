-- Numbers that are the same.
use Rattle.std.proofs.Common.{◌≡◌, ℕ, ◌<◌, ⊎_elim}
use Rattle.std.proofs.lemmas.Bool.{cases_order}

-- two numbers of which neither is the lower are one
pub neither_lower : (a b : ℕ) → (a < b → ⊥) → (b < a → ⊥) → a ≡ b
neither_lower a b below above = ⊎_elim (λ e. e) (⊎_elim (λ l. absurd (below l)) (λ l. absurd (above l))) (cases_order a b)
