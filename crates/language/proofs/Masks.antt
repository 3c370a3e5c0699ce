-- The bits of masks that are joined.
use Rattle.std.proofs.Common.{◌≡◌, ℕ, suc, ◌+◌, ◌-◌, ◌/◌, ◌%◌, ◌^◌, ◌<◌, ◌≤◌, max, false, ◌||◌, eqb, sym, ap, ◌∙◌, subst, ⊎_elim, pow-suc, arith, pow_pos, pow-add}
use native.Mathlib.Nat.{div_self, div-eq_of_lt, mul-div_left, mul-mod_left}
use lib.Bits.{bit_or, or_shr, or_step, or_add_and, and_le_r}
use lib.Pow.{pow-lt}
use Rattle.std.proofs.lemmas.Bool.{eq-eqb, ne_eqb, cases_order}
use Rattle.language.specs.Masks.{bit}

-- a single bit
same_bit : (k : ℕ) → 2 ^ k / 2 ^ k % 2 ≡ 1
same_bit k = ap (λ x. x % 2) (div_self (pow_pos k))

higher_bit : (d k : ℕ) → 2 ^ (suc d + k) / 2 ^ k % 2 ≡ 0
higher_bit d k = ap (λ x. x / 2 ^ k % 2) (pow-add 2 (suc d) k) ∙ (ap (λ x. x % 2) (mul-div_left (2 ^ suc d) (pow_pos k)) ∙ (ap (λ x. x % 2) (pow-suc 2 d) ∙ mul-mod_left (2 ^ d) 2))

lower_bit : (j k : ℕ) → j < k → 2 ^ j / 2 ^ k % 2 ≡ 0
lower_bit j k h = ap (λ x. x % 2) (div-eq_of_lt (pow-lt h))

other_bit : (j k : ℕ) → (j ≡ k → ⊥) → 2 ^ j / 2 ^ k % 2 ≡ 0
other_bit j k apart = ⊎_elim (λ e. absurd (apart e)) (⊎_elim (lower_bit j k) above) (cases_order j k)
  where
    above : k < j → 2 ^ j / 2 ^ k % 2 ≡ 0
    above h = let same : suc (j - k - 1) + k ≡ j = omega arith in subst (λ x. 2 ^ x / 2 ^ k % 2 ≡ 0) same (higher_bit (j - k - 1) k)

or_odd : (x y : ℕ) → bit_or x y % 2 ≡ max (x % 2) (y % 2)
or_odd x y = omega (arith, or_step x y)

or_bit : (m p k : ℕ) → bit_or m p / 2 ^ k % 2 ≡ max (m / 2 ^ k % 2) (p / 2 ^ k % 2)
or_bit m p k = ap (λ x. x % 2) (or_shr m p k) ∙ or_odd (m / 2 ^ k) (p / 2 ^ k)

max_one : (x : ℕ) → max (x % 2) 1 ≡ 1
max_one x = omega arith

max_none : (x : ℕ) → max x 0 ≡ x
max_none x = omega arith

-- bit k after bit j is set
pub bit_set : (m j k : ℕ) → bit (bit_or m (2 ^ j)) k ≡ (eqb j k || bit m k)
unfolding bit
bit_set m j k = ⊎_elim same (⊎_elim (λ h. other (λ e. omega arith)) (λ h. other (λ e. omega arith))) (cases_order j k)
  where
    same : j ≡ k → eqb (bit_or m (2 ^ j) / 2 ^ k % 2) 1 ≡ (eqb j k || eqb (m / 2 ^ k % 2) 1)
    same e =
        ap (λ x. eqb x 1) (or_bit m (2 ^ j) k ∙ (ap (λ i. max (m / 2 ^ k % 2) (2 ^ i / 2 ^ k % 2)) e ∙ (ap (max (m / 2 ^ k % 2)) (same_bit k) ∙ max_one (m / 2 ^ k))))
        ∙ ap (λ b. b || eqb (m / 2 ^ k % 2) 1) (sym (eq-eqb j k e))

    other : (j ≡ k → ⊥) → eqb (bit_or m (2 ^ j) / 2 ^ k % 2) 1 ≡ (eqb j k || eqb (m / 2 ^ k % 2) 1)
    other apart =
        ap (λ x. eqb x 1) (or_bit m (2 ^ j) k ∙ (ap (max (m / 2 ^ k % 2)) (other_bit j k apart) ∙ max_none (m / 2 ^ k % 2)))
        ∙ ap (λ b. b || eqb (m / 2 ^ k % 2) 1) (sym (ne_eqb j k apart))

pub bit_none : (k : ℕ) → bit 0 k ≡ false
unfolding bit
bit_none k = ap (λ x. eqb (x % 2) 1) (div-eq_of_lt (pow_pos k))

-- a mask grows where bits are added
pub or_grows : (m p : ℕ) → m ≤ bit_or m p
or_grows m p = omega (arith, or_add_and m p, and_le_r m p)
