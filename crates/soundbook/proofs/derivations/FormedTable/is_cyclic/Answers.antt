use Rattle.std.proofs.Common.{sym, ◌∙◌}
use Rattle.soundbook.proofs.Deriving.{unit_set}
use Rattle.soundbook.proofs.derivations.FormedTable.is_cyclic.Goals as goal

pub returns : goal.returns
returns c =
    let set = unit_set _ _ _ c.closure.ensures.closed c.args.self.now.formed _ c.empty.ensures c.closure.ensures.grown in
    (λ h. set.sound _ (sym c.contains.ensures ∙ h), λ p. c.contains.ensures ∙ set.whole _ p)
