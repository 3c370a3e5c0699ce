use Rattle.std.proofs.Common.{map, length, sym, ap, ◌∙◌, subst}
use Rattle.soundbook.specs.Sounds.{sound_meaning}
use Rattle.dialogue.specs.Calls.{calls_as_sets, answers_in}
use Rattle.keying.specs.Keyed.{keying, spelled_tells, piece_word, KeyedRun}
use Rattle.keying.proofs.Running.{run_of, all_back}
use Rattle.keying.proofs.programmes.run_of.Goals as goal

pub returns : goal.returns
returns c =
    let calls = ap (calls_as_sets spelled_tells) c.as_mut_slice.ensures.value ∙ (c.in_ok-exchanges.ensures ∙ ap (λ ps. keying (map (piece_word (sound_meaning c.args.book.now)) ps)) c.as_slice.ensures.value) in
    let places = sym c.in_ok-chart.chart.ok.0 ∙ c.in_ok-chart.ensures.len in
    let bytes = ap length c.as_mut_slice-2.ensures.value ∙ (sym c.in_ok-strip.strip.ok.0 ∙ c.in_ok-strip.ensures.len) in
    let back = all_back c.in_ok-exchanges.exchanges.len c.in_ok-exchanges.exchanges.items c.run-chart.new.exchanges c.in_ok-exchanges.exchanges.ok.0 (c.run-chart.auto.exchanges ∙ ap length c.as_mut_slice.ensures.value) in
    subst (λ es. KeyedRun c.args.book.now (map (piece_word (sound_meaning c.args.book.now)) c.args.programme.now.words.items) (answers_in es)) (sym back)
    (run_of _ _ _ _ _ _ _ _ places bytes calls c.run-chart.ensures.law)
