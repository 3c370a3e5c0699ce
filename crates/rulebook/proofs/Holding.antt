-- What a mask of symbols holds.
use Rattle.std.proofs.Common.{◌≡◌, ℕ, ◌+◌, ◌-◌, ◌*◌, ◌%◌, ◌^◌, ◌<◌, ◌≤◌, true, false, ◌&&◌, ◌||◌, eqb, ◌⊎◌, sym, refl, ap, ◌∙◌, ⊎_elim, arith}
use lib.Bits.{bit_or}
use Rattle.std.proofs.lemmas.Nat.{one_shl}
use Rattle.std.proofs.lemmas.Bool.{le-leb, lt-leb, leb-true, eq-eqb, ne_eqb, cases_eq, cases_Bool, and_from, and_left, and_right, and_parts}
use Rattle.language.specs.Masks.{bit}
use Rattle.language.proofs.Masks.{bit_set, bit_none}
use Rattle.rulebook.specs.Sets.{holds, symbolic, is_symbol}

-- a number below 1 or above 64 is no symbol, any other is
pub outside : (c : ℕ) → (c < 1) ⊎ (1 + 64 ≤ c) → symbolic c ≡ false
outside c = ⊎_elim (λ h. and_left _ _ (lt-leb 1 c h)) (λ h. and_right _ _ (lt-leb c 64 h))

inside : (i c : ℕ) → i < 64 → 1 + i ≡ c → symbolic c ≡ true
inside i c h e = and_from _ _ (le-leb 1 c (omega arith)) (le-leb c 64 (omega arith))

-- symbol i + 1 stands at bit i
pub holds_inside : (m : ℕ) (i c : ℕ) → i < 64 → 1 + i ≡ c → bit m i ≡ holds m c
unfolding holds
holds_inside m i c h e = ap (bit m) (omega arith) ∙ ap (λ b. b && bit m (c - 1)) (sym (inside i c h e))

pub holds_outside : (m : ℕ) (c : ℕ) → (c < 1) ⊎ (1 + 64 ≤ c) → false ≡ holds m c
unfolding holds
holds_outside m c h = sym (and_left _ _ (outside c h))

pub holds_none : (c : ℕ) → holds 0 c ≡ false
unfolding holds
holds_none c = and_right (symbolic c) _ (bit_none (c - 1))

-- a number that is no symbol is none of the symbols
pub no_symbol : (m : ℕ) (x : ℕ) → (x < 1) ⊎ (1 + 64 ≤ x) → (c : ℕ) → holds m c ≡ (is_symbol x c || holds m c)
no_symbol m x h c = ap (λ b. b || holds m c) (sym (⊎_elim same (λ apart. and_right _ _ (ne_eqb x c apart)) (cases_eq x c)))
  where
    same : x ≡ c → is_symbol x c ≡ false
    same e = and_left _ _ (ap symbolic (sym e) ∙ outside x h)

-- the set with symbol x, which stands at bit i
module _ (m i x : ℕ) (few : i < 64) (at : 1 + i ≡ x) where
  shifted : (c : ℕ) → symbolic c ≡ true → eqb i (c - 1) ≡ eqb x c
  shifted c h = ⊎_elim
      (λ e. eq-eqb i (c - 1) (omega arith) ∙ sym (eq-eqb x c e))
      (λ apart. ne_eqb i (c - 1) (λ e. apart (omega (arith, low))) ∙ sym (ne_eqb x c apart)) (cases_eq x c)
    where
      low : 1 ≤ c
      low = leb-true 1 c (and_parts _ _ h).0

  pub holds_with : (c : ℕ) → holds (bit_or m ((1 * 2 ^ i) % 2 ^ 64)) c ≡ (is_symbol x c || holds m c)
  unfolding holds
  holds_with c = ⊎_elim known unknown (cases_Bool (symbolic c))
    where
      known : symbolic c ≡ true → (symbolic c && bit (bit_or m ((1 * 2 ^ i) % 2 ^ 64)) (c - 1)) ≡ ((symbolic c && eqb x c) || (symbolic c && bit m (c - 1)))
      known h = rw h (ap (λ p. bit (bit_or m p) (c - 1)) (one_shl i 64 few) ∙ (bit_set m i (c - 1) ∙ ap (λ b. b || bit m (c - 1)) (shifted c h)))

      unknown : symbolic c ≡ false → (symbolic c && bit (bit_or m ((1 * 2 ^ i) % 2 ^ 64)) (c - 1)) ≡ ((symbolic c && eqb x c) || (symbolic c && bit m (c - 1)))
      unknown h = rw h refl
