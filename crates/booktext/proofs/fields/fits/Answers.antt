use Rattle.std.proofs.Common.{ℕ, ◌*◌, ◌^◌, ◌<◌, ◌≤◌, suc, max, ◌≡◌, ⊎_elim, arith}
use Rattle.std.proofs.Math.Nat.{pow-suc, pow-le-pow_right}
use Rattle.std.proofs.lemmas.Bool.{cases_lt, lt-ltb, ltb-true}
use Rattle.booktext.proofs.fields.fits.Goals as goal

-- more columns than the logarithm l hold all figures
more_columns : (v n k l : ℕ) → v ≤ n → n < 10 * 10 ^ l → l < k → v < 10 ^ k
more_columns v n k l below next h =
    let wide : 10 ^ suc l ≤ 10 ^ k = pow-le-pow_right (omega arith) h in
    omega (arith, pow-suc 10 l)

-- columns that hold all figures are more than the logarithm l
fewer_figures : (v n k l : ℕ) → n ≡ max v 1 → 10 ^ l ≤ n → 1 ≤ k → v < 10 ^ k → l < k
fewer_figures v n k l is low some h = ⊎_elim (λ e. e)
    (λ past. let wide : 10 ^ k ≤ 10 ^ l = pow-le-pow_right (omega arith) past in
    let ten : 10 ^ 1 ≤ 10 ^ k = pow-le-pow_right (omega arith) some in
    absurd (omega arith))
    (cases_lt l k)

pub returns : goal.returns
returns c =
    let v = c.args.number in
    let n = c.max.result in
    let l = c.ilog10.result in
    let k = c.args.columns in (
      (λ t. (omega (arith, ltb-true l k t), more_columns v n k l (omega (arith, c.max.ensures)) c.ilog10.ensures.next_power_gt (ltb-true l k t))),
      (λ h. lt-ltb l k (fewer_figures v n k l c.max.ensures c.ilog10.ensures.power_le h.0 h.1)),
    )
