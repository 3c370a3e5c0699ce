use Rattle.std.proofs.Common.{IsTrue, ◌↔◌, sym, subst}
use Rattle.language.specs.Chart.{Whole}
use Rattle.chart.specs.Records.{grammar_of}
use Rattle.chart.specs.States.{State, Stands, grammar, words}
use Rattle.chart.proofs.Seen.{words_seen, stands}
use Rattle.chart.proofs.drafts.Draft.whole.Goals as goal

pub returns-clause-stands : goal.returns-clause-stands
returns-clause-stands c = subst Stands c.self.view_is (stands c.self.inside.settled c.self.inside.board c.self.invariant)

pub returns-clause-whole : goal.returns-clause-whole
returns-clause-whole c =
    subst (λ (d : State). IsTrue c.is_whole.result ↔ Whole (grammar d) (words d)) c.self.view_is
    (subst (λ ws. IsTrue c.is_whole.result ↔ Whole (grammar_of c.self.inside.settled) ws) (sym (words_seen c.self.inside.settled c.self.inside.board)) c.is_whole.ensures)
