use Rattle.std.proofs.Common.{◌≡◌, ◌+◌, ◌-◌, ◌∙◌, subst, arith}
use Rattle.std.specs.List.{range_with_len, flat_map}
use Rattle.booktext.specs.Text.{number_at}
use Rattle.booktext.specs.Form.{AllYes, FirstNo, key_questions}
use Rattle.booktext.proofs.Asking.{asked_err, no_at, loop_more}
use Rattle.booktext.proofs.Meant.{text_rules, text_keys}
use Rattle.booktext.proofs.reads.key_lines.Goals as goal

pub returns-in_err-key_line : goal.returns-in_err-key_line
returns-in_err-key_line c =
    let t = c.args.book.now.text.now in
    let f = key_questions t (1 + number_at t 0 3) in
    asked_err (flat_map f (range_with_len 0 (number_at t 0 1))) c.from_residual.result _ c.from_residual.ensures.1
    (no_at f 0 (c.loop-place.place - 0) (number_at t 0 1) c.loop-place.place _ (omega arith) (omega (arith, c.keys-place-end.ensures.count, text_keys t)) c.loop-place.invariant
    (subst (λ n. FirstNo (key_questions t (1 + n) c.loop-place.place) c.in_err-key_line.field-0.0) (c.rules-rules.ensures ∙ text_rules t) c.in_err-key_line.ensures))

pub loop-place-preserved : goal.loop-place-preserved
loop-place-preserved c =
    let t = c.args.book.now.text.now in
    loop_more (key_questions t (1 + number_at t 0 3)) 0 c.loop-place.place (omega arith) c.loop-place.invariant
    (subst (λ n. AllYes (key_questions t (1 + n) c.loop-place.place)) (c.rules-rules.ensures ∙ text_rules t) c.in_ok-key_line.ensures)

pub returns : goal.returns
returns c =
    let t = c.args.book.now.text.now in
    let all : c.loop-place.place - 0 ≡ number_at t 0 1 = omega (arith, c.keys-place-end.ensures.count, text_keys t) in
    subst (λ n. AllYes (flat_map (key_questions t (1 + number_at t 0 3)) (range_with_len 0 n))) all c.loop-place.invariant
