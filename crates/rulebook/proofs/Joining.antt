-- What masks hold that are joined, and the masks of no symbol and of all keys.
use Rattle.std.proofs.Common.{◌≡◌, ℕ, zero, suc, ◌-◌, ◌/◌, ◌%◌, ◌^◌, ◌<◌, Bool, true, false, max, min, ◌&&◌, ◌||◌, eqb, leb, sym, refl, ap, ◌∙◌, ⊎_elim, arith}
use lib.Bits.{bit_or, bit_and}
use Rattle.std.proofs.lemmas.Nat.Bits.{bit_at_or, bit_at_and, bit_at-lt, bit_at-zero, bit_at_mask_inside, bit_at_mask_below, same_from_bits_below}
use Rattle.std.proofs.lemmas.Bool.{le-leb, lt-leb, leb-true, both_ways, cases_Bool, cases_lt, and_from, and_left, and_right, and_parts}
use Rattle.language.specs.Masks.{bit}
use Rattle.rulebook.specs.Sets.{holds, symbolic, key_number}
use Rattle.rulebook.proofs.Holding.{holds_inside}

-- the greater and the lesser of two digits, by whether they are 1
max_test : (x y : ℕ) → x < 2 → y < 2 → eqb (max x y) 1 ≡ (eqb x 1 || eqb y 1)
max_test zero zero h k = refl
max_test zero (suc zero) h k = refl
max_test zero (suc (suc y)) h k = absurd (omega arith)
max_test (suc zero) zero h k = refl
max_test (suc zero) (suc zero) h k = refl
max_test (suc zero) (suc (suc y)) h k = absurd (omega arith)
max_test (suc (suc x)) y h k = absurd (omega arith)

min_test : (x y : ℕ) → x < 2 → y < 2 → eqb (min x y) 1 ≡ (eqb x 1 && eqb y 1)
min_test zero zero h k = refl
min_test zero (suc zero) h k = refl
min_test zero (suc (suc y)) h k = absurd (omega arith)
min_test (suc zero) zero h k = refl
min_test (suc zero) (suc zero) h k = refl
min_test (suc zero) (suc (suc y)) h k = absurd (omega arith)
min_test (suc (suc x)) y h k = absurd (omega arith)

pub bit_either : (m p k : ℕ) → bit (bit_or m p) k ≡ (bit m k || bit p k)
unfolding bit
bit_either m p k = ap (λ x. eqb x 1) (bit_at_or m p k) ∙ max_test (m / 2 ^ k % 2) (p / 2 ^ k % 2) (bit_at-lt m k) (bit_at-lt p k)

bit_both : (m p k : ℕ) → bit (bit_and m p) k ≡ (bit m k && bit p k)
unfolding bit
bit_both m p k = ap (λ x. eqb x 1) (bit_at_and m p k) ∙ min_test (m / 2 ^ k % 2) (p / 2 ^ k % 2) (bit_at-lt m k) (bit_at-lt p k)

-- the symbols of either mask
pub holds_either : (m p c : ℕ) → holds (bit_or m p) c ≡ (holds m c || holds p c)
unfolding holds
holds_either m p c = ⊎_elim (λ h. rw h (bit_either m p (c - 1))) (λ h. rw h refl) (cases_Bool (symbolic c))

-- the symbols of both
pub holds_both : (m p c : ℕ) → holds (bit_and m p) c ≡ (holds m c && holds p c)
unfolding holds
holds_both m p c = ⊎_elim (λ h. rw h (bit_both m p (c - 1))) (λ h. rw h refl) (cases_Bool (symbolic c))

-- a mask that holds no symbol is 0
pub holds_nothing : (m : ℕ) → m < 2 ^ 64 → ((c : ℕ) → holds m c ≡ false) → m ≡ 0
unfolding holds bit
holds_nothing m fits none = same_from_bits_below 64 m 0 fits (omega arith) clear
  where
    off : (x : ℕ) → x < 2 → eqb x 1 ≡ false → x ≡ 0
    off zero h e = refl
    off (suc zero) h e = absurd (both_ways (eqb 1 1) e refl)
    off (suc (suc x)) h e = absurd (omega arith)

    clear : (i : ℕ) → i < 64 → m / 2 ^ i % 2 ≡ 0 / 2 ^ i % 2
    clear i l =
        off (m / 2 ^ i % 2) (bit_at-lt m i) (holds_inside m i (suc i) l (omega arith) ∙ none (suc i)) ∙ sym (bit_at-zero i)

-- the bits 32 to 63 are the keys
pub holds_keys : (c : ℕ) → holds 18446744069414584320 c ≡ key_number c
unfolding holds bit
holds_keys c = ⊎_elim symbol none (cases_Bool (symbolic c))
  where
    test : ℕ → Bool
    test k = eqb (18446744069414584320 / 2 ^ k % 2) 1

    symbol : symbolic c ≡ true → (symbolic c && eqb (18446744069414584320 / 2 ^ (c - 1) % 2) 1) ≡ key_number c
    symbol h =
        let parts = and_parts (leb 1 c) (leb c 64) h in
        let low = leb-true 1 c parts.0 in
        let high = leb-true c 64 parts.1 in
        ap (λ b. b && eqb (18446744069414584320 / 2 ^ (c - 1) % 2) 1) h
        ∙ ⊎_elim
        (λ l. ap (λ x. eqb x 1) (bit_at_mask_below 32 64 (c - 1) (omega arith)) ∙ sym (and_left _ _ (lt-leb 33 c l)))
        (λ l. ap (λ x. eqb x 1) (bit_at_mask_inside 32 64 (c - 1) (omega arith) (omega arith)) ∙ sym (and_from _ _ (le-leb 33 c l) parts.1))
        (cases_lt c 33)

    none : symbolic c ≡ false → (symbolic c && eqb (18446744069414584320 / 2 ^ (c - 1) % 2) 1) ≡ key_number c
    none h =
        ap (λ b. b && eqb (18446744069414584320 / 2 ^ (c - 1) % 2) 1) h
        ∙ ⊎_elim
        (λ l. sym (and_left _ _ (lt-leb 33 c (omega arith))))
        (λ l. ⊎_elim (λ k. sym (and_right _ _ (lt-leb c 64 k))) (λ k. absurd (both_ways (symbolic c) h (and_from _ _ (le-leb 1 c l) (le-leb c 64 (omega arith))))) (cases_lt 64 c))
        (cases_lt c 1)
