-- What a hole with a width writes of a number.
use Rattle.std.proofs.Common.{◌≡◌, ℕ, zero, suc, ◌-◌, ◌^◌, [], ◌∷◌, length, replicate, decimal, refl, ap, false, arith, rules, append-nil, lit<}
use Rattle.std.proofs.Math.Dec.{eqb-suc-zero}
use Rattle.std.proofs.lemmas.Str.{encode_ascii}
use Rattle.std.specs.List.{repeat}
use Rattle.std.specs.Fmt.{styled_decimal, format_spec, padded_integral, char_count}
use Rattle.lines.specs.Columns.{right_in}

-- one byte many times
repeated : (n : ℕ) → repeat {A = ℕ} n (32 ∷ []) ≡ replicate n 32
repeated zero = refl
repeated (suc n) = ap (λ l. 32 ∷ l) (repeated n)

padding : (w n : ℕ) → padded_integral (format_spec 32 0 0 w (2 ^ 64 - 1)) false [] (decimal n) ≡ right_in w n
unfolding padded_integral char_count
padding w n = let gone : (w - length (decimal n) - 0 - 0) ≡ w - length (decimal n) = omega arith in
    let past : (w - length (decimal n) - (w - length (decimal n))) ≡ 0 = omega arith in
    search (rules, gone, past, repeated, append-nil, encode_ascii 32 (lit< tt))

-- with no width, or with one
pub padded_right : (w n : ℕ) → styled_decimal (format_spec 32 0 0 w (2 ^ 64 - 1)) n ≡ right_in w n
padded_right zero n = let none : (0 - length (decimal n)) ≡ 0 = omega arith in search (rules, none)
padded_right (suc w) n = rw (eqb-suc-zero w) (padding (suc w) n)
