use Rattle.std.proofs.Common.{◌≡◌, ℕ, ◌<◌, ◌≤◌, length}
use Rattle.soundbook.specs.Closures.{Grown, Closed}
use Rattle.soundbook.proofs.closures.round.Given as goal

abbrev pub invariant-loop-rule : goal.invariant-loop-rule
invariant-loop-rule g l =
    let growth = g.G.Growth in
    record {
      end : l.rule-end ≡ length (growth.grammar l.growth).rules;
      grown : Grown (growth.derived l.growth) l.set l.next;
      closed : (i : ℕ) → 1 ≤ i → i < l.rule → Closed (growth.fires l.growth i) (growth.added l.growth i) l.set l.next;
    }
