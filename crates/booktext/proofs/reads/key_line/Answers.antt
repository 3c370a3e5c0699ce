use Rattle.std.proofs.Common.{◌≡◌, ℕ, ◌+◌, List, ◌++◌, get_or, subst, arith, rules}
use Rattle.booktext.specs.Text.{middle_of}
use Rattle.booktext.specs.Form.{Question, Asked, marks, key_fields}
use Rattle.booktext.proofs.Cut.{line_newline, line_fields}
use Rattle.booktext.proofs.reads.key_line.Goals as goal

-- what is asked of line n for the key at place i
abbrev asked : List ℕ → (i n : ℕ) → List Question
asked t i n = marks 75 n t ++ key_fields n (middle_of t n) i

pub returns-in_err-read-in-75 : goal.returns-in_err-read-in-75
returns-in_err-read-in-75 c =
    let i = c.args.place in
    let n = 1 + c.from.result + c.from-2.result in
    let same : n ≡ 1 + c.args.rules + i = omega (arith, c.from.ensures, c.from-2.ensures) in
    let is : get_or c.columns_of.result.now 0 0 ≡ 75 = search rules in
    subst (λ k. Asked (asked c.args.text.now i k) c.from_residual.result) same (line_newline c.args.text.now _ n c.columns_of.ensures 75 (λ k m. key_fields k m i) c.from_residual.result _ is c.in_err-read-in-75.ensures.asked c.from_residual.ensures.1)

pub returns-in_ok-read-in-75 : goal.returns-in_ok-read-in-75
returns-in_ok-read-in-75 c =
    let i = c.args.place in
    let n = 1 + c.from.result + c.from-2.result in
    let same : n ≡ 1 + c.args.rules + i = omega (arith, c.from.ensures, c.from-2.ensures) in
    let is : get_or c.columns_of.result.now 0 0 ≡ 75 = search rules in
    let line = c.in_ok-read-in-75.field-0 in
    subst (λ k. Asked (asked c.args.text.now i k) c.key_fields.result) same
    (line_fields c.args.text.now _ n c.columns_of.ensures 75 (λ k m. key_fields k m i) c.key_fields.result line.number line.middle.now is c.in_ok-read-in-75.ensures.asked c.in_ok-read-in-75.ensures.is c.key_fields.ensures)
