use Rattle.std.proofs.Common.{subst}
use Rattle.std.specs.Prelude.{MatchResult}
use Rattle.draft.specs.Law.{RubOutTaken, RubOutRefused}
use Rattle.draft.specs.States.{DraftState}
use Rattle.draft.specs.Views.{state_of}
use Rattle.draft.proofs.Answering.{rubbed_seen}
use Rattle.draft.proofs.Showing.{shows}
use Rattle.draft.proofs.draft.Draft.rub_out.Goals as goal

pub returns-clause-lawful : goal.returns-clause-lawful
returns-clause-lawful c = shows c.rub_out.new.self c.rub_out.ensures.stands

pub returns-clause-cases : goal.returns-clause-cases
returns-clause-cases c =
    subst (λ (d : DraftState). MatchResult c.rub_out.result (RubOutTaken d (state_of c.rub_out.new.self)) (RubOutRefused d (state_of c.rub_out.new.self))) c.self.view_is
    (rubbed_seen c.self.inside.chart c.self.invariant c.rub_out.new.self c.rub_out.ensures.stands c.rub_out.result c.rub_out.ensures.cases)
