-- Columns of a text, and the bytes before the first space.
use Rattle.std.proofs.Common.{◌≡◌, ℕ, suc, ◌≤◌, min, eqb, List, [], ◌∷◌, length, take, drop, sym, refl, ap, ◌∙◌, ⊎_elim, arith}
use Rattle.std.proofs.lemmas.List.{take_all, length-take}
use Rattle.std.proofs.lemmas.Bool.{cases_lt, cond_both}
use Rattle.booktext.specs.Text.{spelled, spelling_field}

pub take_min : (ys : List ℕ) (n k : ℕ) → k ≡ min n (length ys) → take k ys ≡ take n ys
take_min ys n k e = ⊎_elim
    (λ h. ap (λ m. take m ys) (omega arith))
    (λ h. take_all k ys (omega arith) ∙ sym (take_all n ys (omega arith)))
    (cases_lt n (length ys))

-- the spelling is the front of its columns
pub spelled_front : (xs : List ℕ) → take (length (spelled xs)) xs ≡ spelled xs
spelled_front [] = refl
spelled_front (b ∷ xs) = cond_both _ [] (b ∷ spelled xs) (λ z. take (length z) (b ∷ xs) ≡ z) (λ _. refl) (λ _. ap (λ z. b ∷ z) (spelled_front xs))

pub spelled_short : (xs : List ℕ) → length (spelled xs) ≤ length xs
spelled_short [] = omega arith
spelled_short (b ∷ xs) = cond_both (eqb b 32) [] (b ∷ spelled xs) (λ s. length s ≤ suc (length xs)) (λ _. omega arith) (λ _. omega (arith, spelled_short xs))

-- a spelling in its columns is no longer than these
pub spelling_short : (m : List ℕ) → length (spelled (spelling_field m)) ≤ 24
spelling_short m = omega (arith, spelled_short (spelling_field m), length-take 24 (drop 8 m))
