use Rattle.std.proofs.Common.{refl, ap, ◌∙◌}
use Rattle.soundbook.specs.Rows.{rule_of}
use Rattle.soundbook.specs.Tables.{meaning_of}
use Rattle.soundbook.proofs.Listing.{rule_numbered}
use Rattle.soundbook.proofs.tables.TableOf.rule.Goals as goal

pub returns : goal.returns
unfolding meaning_of
returns g c = ap rule_of c.numbered.ensures ∙ rule_numbered _ _ c.args.rule refl
