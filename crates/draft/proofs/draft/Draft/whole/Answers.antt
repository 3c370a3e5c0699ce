use Rattle.std.proofs.Common.{◌≡◌, subst}
use Rattle.draft.specs.Law.{IsLawful}
use Rattle.draft.specs.States.{DraftState}
use Rattle.draft.proofs.Answering.{whole_seen}
use Rattle.draft.proofs.Showing.{shows}
use Rattle.draft.proofs.draft.Draft.whole.Goals as goal

pub returns-clause-lawful : goal.returns-clause-lawful
returns-clause-lawful c = subst IsLawful c.self.view_is (shows c.self.inside.chart c.self.invariant)

pub returns-clause-whole : goal.returns-clause-whole
returns-clause-whole c = subst (λ (d : DraftState). c.whole.result ≡ d.whole) c.self.view_is (whole_seen c.self.inside.chart c.self.invariant _ c.whole.ensures.whole)
