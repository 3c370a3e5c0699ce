use Rattle.std.proofs.Common.{sym, ◌∙◌}
use Rattle.std.proofs.lemmas.List.FromFn.{length-map-range_with_len}
use Rattle.booktext.specs.Text.{number_at, text_meaning}
use Rattle.booktext.proofs.texts.TextBookBook.keys.Goals as goal

pub returns : goal.returns
unfolding text_meaning
returns c = record { count = c.number_at.ensures; forms = c.number_at.ensures ∙ sym (length-map-range_with_len _ 0 (number_at c.args.self.now.text.now 0 1)) }
