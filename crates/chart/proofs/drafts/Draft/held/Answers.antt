use Rattle.std.proofs.Common.{subst}
use Rattle.chart.specs.States.{Stands}
use Rattle.chart.proofs.Seen.{stands}
use Rattle.chart.proofs.drafts.Draft.held.Goals as goal

pub returns-clause-stands : goal.returns-clause-stands
returns-clause-stands c = subst Stands c.self.view_is (stands c.self.inside.settled c.self.inside.board c.self.invariant)
