use Rattle.std.proofs.Common.{subst}
use Rattle.draft.specs.Law.{IsLawful, LitIs}
use Rattle.draft.proofs.Answering.{lit_seen}
use Rattle.draft.proofs.Showing.{shows}
use Rattle.draft.proofs.draft.Draft.lit.Goals as goal

pub returns-clause-lawful : goal.returns-clause-lawful
returns-clause-lawful c = subst IsLawful c.self.view_is (shows c.self.inside.chart c.self.invariant)

pub returns-clause-lit : goal.returns-clause-lit
returns-clause-lit c =
    subst (λ d. LitIs d (record { keys = c.lit_keys-keys.result; count = c.count.result })) c.self.view_is
    (lit_seen c.self.inside.chart c.self.invariant (record { keys = c.lit_keys-keys.result; count = c.count.result }) c.lit_keys-keys.ensures.keys c.count.ensures)
