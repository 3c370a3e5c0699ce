use Rattle.std.proofs.Common.{refl, sym, ap, ◌∙◌}
use Rattle.std.proofs.lemmas.Bool.{false≢true}
use Rattle.language.specs.Book.{Grammar}
use Rattle.reading.proofs.Choosing.{same_rules}
use Rattle.reading.proofs.Programmes.{refused_whole, rooted}
use Rattle.reading.proofs.readings.reading.Goals as goal

pub returns-then-not-whole-clause-read : goal.returns-then-not-whole-clause-read
returns-then-not-whole-clause-read c = (refused_whole _ _ _ _ (c.from-held.ensures ∙ c.held-words.ensures) (λ w. false≢true (c.if-not-whole.ensures.whole ∙ c.if-not-whole.ensures.lawful.whole.1 w)), refl)

pub write_all-requires : goal.write_all-requires
write_all-requires c =
    rooted c.args.draft.now c.if-not-whole.ensures.lawful (c.if-not-whole.ensures.lawful.whole.0 (sym c.if-not-whole.ensures.whole)) _ _ _ _ (c.start.ensures ∙ ap (λ (g : Grammar). g.start) (same_rules c.book-book.ensures)) c.held-words.ensures c.from-held.ensures c.opened-top.ensures
