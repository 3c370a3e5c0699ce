use Rattle.std.proofs.Common.{ℕ, ◌≡◌, ◌&&◌, sym, ◌∙◌, ap, subst}
use Rattle.rulebook.specs.Sets.{has, key_number}
use Rattle.rulebook.specs.declared.sets.SymbolSet.{SymbolSet}
use Rattle.chart.specs.States.{Stands, expected}
use Rattle.chart.proofs.Seen.{expected_seen, stands}
use Rattle.chart.proofs.drafts.Draft.lit_keys.Goals as goal

pub returns-clause-stands : goal.returns-clause-stands
returns-clause-stands c = subst Stands c.self.view_is (stands c.self.inside.settled c.self.inside.board c.self.invariant)

pub returns-clause-keys : goal.returns-clause-keys
returns-clause-keys c =
    subst (λ d. (n : ℕ) → has c.lit.result n ≡ (has (expected d) n && key_number n)) c.self.view_is
    (λ n. c.lit.ensures n ∙ ap (λ (x : SymbolSet). has x n && key_number n) (sym (expected_seen c.self.inside.settled c.self.inside.board)))
