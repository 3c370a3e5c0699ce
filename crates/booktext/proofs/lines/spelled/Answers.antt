use Rattle.std.proofs.Common.{◌≡◌, ◌≢◌, ℕ, ◌+◌, List, ◌∷◌, length, take, unwrap_or, sym, refl, ap, ◌∙◌, add-one, rules, tests}
use Rattle.std.proofs.lemmas.Iterator.{IsFirst-from_position, YieldsList-from_slice, index_from_first}
use Rattle.std.proofs.lemmas.Bool.{cond-true, cond-false, eq-eqb, ne_eqb}
use Rattle.booktext.specs.Text.{spelled}
use Rattle.booktext.proofs.Spelled.{spelled_front}
use Rattle.booktext.proofs.lines.spelled.Goals as goal

hit : (b : ℕ) (bs : List ℕ) → b ≡ 32 → length (spelled (b ∷ bs)) ≡ 0
hit b bs e = ap length (cond-true _ _ _ (eq-eqb b 32 e))

miss : (b : ℕ) (bs : List ℕ) → b ≢ 32 → length (spelled (b ∷ bs)) ≡ length (spelled bs) + 1
miss b bs e = ap length (cond-false _ _ _ (ne_eqb b 32 e)) ∙ sym (add-one _)

pub returns : goal.returns
returns c =
    let xs = c.args.columns.now in
    let first = IsFirst-from_position _ _ c.position-space.result (λ b. b ≡ 32) (λ b. b ≢ 32) c.position-space.ensures.ran (YieldsList-from_slice xs cc) (λ x q k. search (rules, tests)) (λ x q k. search (rules, tests)) in
    let all : length (spelled xs) ≡ unwrap_or c.position-space.result (length xs) = index_from_first (λ bs. length (spelled bs)) (λ b. b ≡ 32) (λ b. b ≢ 32) refl hit miss xs c.position-space.result first in
    ap (λ n. take n xs) (c.unwrap_or.ensures ∙ sym all) ∙ spelled_front xs
