use Rattle.std.proofs.Common.{refl, ap, ◌∙◌}
use Rattle.soundbook.specs.Rows.{form_of}
use Rattle.soundbook.specs.Tables.{meaning_of}
use Rattle.soundbook.proofs.Listing.{form_numbered}
use Rattle.soundbook.proofs.tables.TableOf.key.Goals as goal

pub returns : goal.returns
unfolding meaning_of
returns g c = ap form_of c.numbered.ensures ∙ form_numbered _ _ c.args.key refl
