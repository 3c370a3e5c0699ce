use Rattle.std.proofs.Common.{refl}
use Rattle.booktext.proofs.Order.{all_yes, no_length, no_head, no_count, no_rule, no_key, refusal, sized}
use Rattle.booktext.proofs.texts.TextBook.read.Goals as goal

pub returns-in_err-whole : goal.returns-in_err-whole
returns-in_err-whole c =
    let t = c.args.text.now in
    let h = refusal t _ c.from_residual.result _ c.from_residual.ensures.1 (no_length t _ c.in_err-whole.ensures) in
    record { asked = h.0; is = h.1; layer = h.2 }

pub returns-in_err-head_line : goal.returns-in_err-head_line
returns-in_err-head_line c =
    let t = c.args.text.now in
    let h = refusal t _ c.from_residual-in_err-head_line.result _ c.from_residual-in_err-head_line.ensures.1 (no_head t _ c.in_ok-whole.ensures c.in_err-head_line.ensures) in
    record { asked = h.0; is = h.1; layer = h.2 }

pub returns-in_err-counted : goal.returns-in_err-counted
returns-in_err-counted c =
    let t = c.args.text.now in
    let h = refusal t _ c.from_residual-in_err-counted.result _ c.from_residual-in_err-counted.ensures.1 (no_count t _ c.in_ok-whole.ensures c.in_ok-head_line.ensures c.in_err-counted.ensures) in
    record { asked = h.0; is = h.1; layer = h.2 }

pub returns-in_err-rule_lines : goal.returns-in_err-rule_lines
returns-in_err-rule_lines c =
    let t = c.args.text.now in
    let h = refusal t _ c.from_residual-in_err-rule_lines.result _ c.from_residual-in_err-rule_lines.ensures.1 (no_rule t _ c.in_ok-whole.ensures c.in_ok-head_line.ensures c.in_ok-counted.ensures c.in_err-rule_lines.ensures) in
    record { asked = h.0; is = h.1; layer = h.2 }

pub returns-in_err-key_lines : goal.returns-in_err-key_lines
returns-in_err-key_lines c =
    let t = c.args.text.now in
    let h = refusal t _ c.from_residual-in_err-key_lines.result _ c.from_residual-in_err-key_lines.ensures.1 (no_key t _ c.in_ok-whole.ensures c.in_ok-head_line.ensures c.in_ok-counted.ensures c.in_ok-rule_lines.ensures c.in_err-key_lines.ensures) in
    record { asked = h.0; is = h.1; layer = h.2 }

pub returns : goal.returns
returns c =
    let t = c.args.text.now in
    record { asked = all_yes t c.in_ok-whole.ensures c.in_ok-head_line.ensures c.in_ok-counted.ensures c.in_ok-rule_lines.ensures c.in_ok-key_lines.ensures; is = (refl, sized t c.in_ok-whole.ensures c.in_ok-counted.ensures); layer = tt }
