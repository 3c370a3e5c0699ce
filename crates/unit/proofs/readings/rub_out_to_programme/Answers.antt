use Rattle.std.proofs.Common.{sym, ◌∙◌}
use Rattle.std.proofs.lemmas.Bool.{false≢true}
use Rattle.unit.proofs.Prefixes.{prefix_longest, prefix_less, ok_taken}
use Rattle.unit.proofs.readings.rub_out_to_programme.Goals as goal

pub loop-draft-preserved : goal.loop-draft-preserved
loop-draft-preserved c =
    let taken = ok_taken c.rub_out.result _ _ c.rub_out.ensures.cases (sym c.is_err.ensures.value ∙ c.if-is_err.false) in
    prefix_less c.args.draft.now c.loop-draft.draft c.loop-draft.invariant
    (λ p. false≢true (c.loop-draft-test.ensures.whole ∙ c.loop-draft-test.ensures.lawful.whole.1 p)) c.rub_out.new.self taken.0 taken.1

pub returns : goal.returns
returns c = prefix_longest c.args.draft.now c.loop-draft.draft c.loop-draft.invariant (c.loop-draft-test.ensures.lawful.whole.0 (sym c.loop-draft-test.ensures.whole))
