use Rattle.std.proofs.Common.{map, sym, ◌∙◌, ap, subst, Bor}
use Rattle.soundbook.specs.Sounds.{sound_meaning}
use Rattle.soundbook.specs.declared.sounds.SoundBook.{SoundBook}
use Rattle.chart.specs.Indexes.{IndexOf}
use Rattle.chart.specs.Items.{told}
use Rattle.chart.specs.Records.{wanted_in}
use Rattle.chart.specs.States.{opened}
use Rattle.chart.proofs.Changing.{opened_seen}
use Rattle.chart.proofs.Keeping.{kept_opened}
use Rattle.chart.proofs.Seen.{stands}
use Rattle.chart.proofs.drafts.Draft.open.Goals as goal

pub invariant_of-result : goal.invariant_of-result
invariant_of-result c =
    kept_opened c.of.result c.over.result c.args.chart.items
    (subst (λ (b : Bor SoundBook). IndexOf (sound_meaning b.now).grammar c.of.result.index) (sym c.of.ensures.book) c.of.ensures.index)
    c.of.ensures.records c.of.ensures.held c.over.ensures

pub returns-clause-opened : goal.returns-clause-opened
returns-clause-opened c =
    opened_seen c.of.result c.over.result c.args.chart.items c.of.ensures.records c.of.ensures.held c.over.ensures
    ∙ ap (λ (b : Bor SoundBook). opened b.now (wanted_in c.of.result 0) (map told c.args.chart.items)) c.of.ensures.book

pub returns-clause-stands : goal.returns-clause-stands
returns-clause-stands c =
    stands c.of.result c.over.result
    (kept_opened c.of.result c.over.result c.args.chart.items
    (subst (λ (b : Bor SoundBook). IndexOf (sound_meaning b.now).grammar c.of.result.index) (sym c.of.ensures.book) c.of.ensures.index)
    c.of.ensures.records c.of.ensures.held c.over.ensures)
