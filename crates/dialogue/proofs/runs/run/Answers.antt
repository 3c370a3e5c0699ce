use Rattle.std.proofs.Common.{map, take, refl, sym, subst, arith}
use Rattle.std.proofs.lemmas.List.{take_all}
use Rattle.chart.specs.Items.{told}
use Rattle.dialogue.specs.Calls.{calls_as_sets, answers_in}
use Rattle.dialogue.specs.Runs.{run_state}
use Rattle.dialogue.proofs.Chaining.{Chain, none, asked_too, chain_more}
use Rattle.dialogue.proofs.Running.{law_kept}
use Rattle.dialogue.proofs.runs.run.Goals as goal

pub loop-exchange-init : goal.loop-exchange-init
loop-exchange-init g c = record { calls = refl; lawful = c.open-draft.ensures.lawful; chain = none (run_state c.open-draft.result c.args.strip.now) }

pub loop-exchange-preserved : goal.loop-exchange-preserved
loop-exchange-preserved g c =
    let i = c.loop-exchange.invariant in
    record {
      calls = asked_too g.W.Word.tells _ _ c.loop-exchange.exchange-index c.exchange-item.result c.make-exchange.result c.loop-exchange-test.true c.loop-exchange.auto.exchanges i.calls;
      lawful = c.make-exchange.ensures.lawful;
      chain = chain_more g.W.Word.tells _ _ c.loop-exchange.exchange-index c.exchange-item.result c.make-exchange.result c.loop-exchange-test.true c.loop-exchange.auto.exchanges i.calls _ _ _ i.chain c.make-exchange.ensures.law c.make-exchange.ensures.lawful;
    }

pub returns-clause-calls : goal.returns-clause-calls
returns-clause-calls g c = c.loop-exchange.invariant.calls

pub returns-clause-law : goal.returns-clause-law
returns-clause-law g c =
    let i = c.loop-exchange.invariant in
    let m = run_state c.open-draft.result c.args.strip.now in
    let n = run_state c.loop-exchange.draft c.loop-exchange.strip in
    let chain =
    subst (λ es. Chain m (calls_as_sets g.W.Word.tells es) (answers_in c.loop-exchange.exchanges) n) (take_all c.loop-exchange.exchange-index c.args.exchanges.now c.loop-exchange-test.false)
    (subst (λ es. Chain m (calls_as_sets g.W.Word.tells (take c.loop-exchange.exchange-index c.args.exchanges.now)) (answers_in es) n) (take_all c.loop-exchange.exchange-index c.loop-exchange.exchanges (omega (arith, c.loop-exchange.auto.exchanges, c.loop-exchange-test.false))) i.chain) in
    law_kept c.args.book.now (map told c.args.chart.items) m _ _ n _ c.open-draft.ensures.new c.open-draft.ensures.lawful chain (sym c.into_chart.ensures)
