use Rattle.std.proofs.Common.{sym, subst}
use Rattle.std.proofs.lemmas.Result.{err_from_is_err_and}
use Rattle.language.specs.Sound.{WellFormed}
use Rattle.soundbook.specs.Refusals.{CopyRefused}
use Rattle.soundbook.proofs.Copying.{table_is}
use Rattle.soundbook.proofs.copies.table_of.Goals as goal

pub returns-in_err-source : goal.returns-in_err-source
returns-in_err-source g c =
    let p = err_from_is_err_and c.from_residual.result c.from_residual.ensures.1 in
    let refused = c.in_err-source.ensures in
    rw (p.1, p.2, refused.0) (CopyRefused.counts refused.1)

pub returns-in_err-rules : goal.returns-in_err-rules
returns-in_err-rules g c =
    let p = err_from_is_err_and c.from_residual-in_err-rules.result c.from_residual-in_err-rules.ensures.1 in
    rw (p.1, p.2, ← c.in_ok-source.ensures) (CopyRefused.rules c.in_ok-source.source.fit c.in_err-rules.ensures)

pub returns-in_err-keys : goal.returns-in_err-keys
returns-in_err-keys g c =
    let p = err_from_is_err_and c.from_residual-in_err-keys.result c.from_residual-in_err-keys.ensures.1 in
    rw (p.1, p.2, ← c.in_ok-source.ensures) (CopyRefused.keys c.in_ok-source.source.fit c.in_ok-rules.ensures.1 c.in_err-keys.ensures)

pub invariant_of-result : goal.invariant_of-result
invariant_of-result g c =
    let source = c.in_ok-source.source in
    let (rules, rules_fit) = c.in_ok-rules.ensures in
    let (keys, keys_fit) = c.in_ok-keys.ensures in
    let is = table_is source.counted c.in_ok-rules.rules c.in_ok-keys.keys rules keys in
    record { formed = ∣ subst WellFormed (sym is) (record { counts = source.fit; rules = rules_fit; keys = keys_fit }) ∣₁ }

pub returns : goal.returns
returns g c =
    let source = c.in_ok-source.source in
    let (rules, rules_fit) = c.in_ok-rules.ensures in
    let (keys, keys_fit) = c.in_ok-keys.ensures in
    let is = table_is source.counted c.in_ok-rules.rules c.in_ok-keys.keys rules keys in
    rw (← c.in_ok-source.ensures) (is, record { counts = source.fit; rules = rules_fit; keys = keys_fit })
