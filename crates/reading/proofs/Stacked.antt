-- The top of a stack that stands in a list, lowest first.
use Rattle.std.proofs.Common.{◌≡◌, ℕ, zero, suc, ◌-◌, ◌<◌, ◌≤◌, List, [], ◌∷◌, length, take, reverse, slice_index_or, refl, sym, ap, ◌∙◌, arith}
use Rattle.std.proofs.lemmas.List.{reverse-append, get_or_default}
use Rattle.std.proofs.Math.Seq.{take-suc}

-- the last of the first elements is the top
pub top_at : {A : Type 0} (xs : List A) (len n : ℕ) (x : A) → len ≡ suc n → len ≤ length xs → x ≡ slice_index_or xs n x
    → reverse (take len xs) ≡ x ∷ reverse (take n xs)
top_at xs len n x e h is =
    let low : n < length xs = omega arith in
    ap (λ k. reverse (take k xs)) e
    ∙ (ap reverse (take-suc xs n x low) ∙ (reverse-append (take n xs) (slice_index_or xs n x ∷ []) ∙ ap (λ y. y ∷ reverse (take n xs)) (sym is)))

-- with the top off, what stood below it is left
pub rest_at : {A : Type 0} (xs : List A) (len : ℕ) (x : A) (rest : List A) → len ≤ length xs → reverse (take len xs) ≡ x ∷ rest
    → reverse (take len xs) ≡ x ∷ reverse (take (len - 1) xs)
rest_at xs zero x rest h e = let z : ◌≡◌ {A = ℕ} 0 1 = cc in let no : ⊥ = omega arith in absurd no
rest_at xs (suc n) x rest h e =
    let y = slice_index_or xs n x in
    let low : n < length xs = omega arith in
    let d = top_at xs (suc n) n y refl h (get_or_default xs n x y low) in
    let same : y ≡ x = cc in
    let less : suc n - 1 ≡ n = omega arith in
    rw less (d ∙ ap (λ z. z ∷ reverse (take n xs)) same)
