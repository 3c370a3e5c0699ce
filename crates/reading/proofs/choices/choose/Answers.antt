use Rattle.std.proofs.Common.{refl}
use Rattle.reading.proofs.Chosen.{chosen}
use Rattle.reading.proofs.choices.choose.Goals as goal

pub returns : goal.returns
returns c = chosen c.args.draft.now.book _ refl _ _ _ _ c.lowest_rule.result c.lowest_rule.ensures c.unwrap_or-rule.result c.unwrap_or-rule.ensures c.beginnings.result c.beginnings.ensures
