use Rattle.std.proofs.Common.{◌≡◌, take}
use Rattle.draft.specs.Law.{IsLawful}
use Rattle.dialogue.specs.Calls.{calls_in, calls_as_sets, answers_in}
use Rattle.dialogue.specs.Runs.{run_state}
use Rattle.dialogue.proofs.Chaining.{Chain}
use Rattle.dialogue.proofs.runs.run.Given as goal

-- the calls so far are made and answered, and all calls stay
abbrev pub invariant-loop-exchange : goal.invariant-loop-exchange
invariant-loop-exchange g l = record {
  calls : calls_in l.exchanges ≡ calls_in l.fn.exchanges;
  lawful : IsLawful l.draft;
  chain : Chain (run_state l.initial.draft l.initial.strip) (calls_as_sets g.W.Word.tells (take l.exchange-index l.fn.exchanges)) (answers_in (take l.exchange-index l.exchanges)) (run_state l.draft l.strip);
}
