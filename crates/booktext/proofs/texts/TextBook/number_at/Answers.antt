use Rattle.std.proofs.Common.{ap, ◌∙◌}
use Rattle.booktext.specs.Columns.{value}
use Rattle.booktext.specs.Text.{field_of}
use Rattle.booktext.proofs.Shown.{value_read}
use Rattle.booktext.proofs.texts.TextBook.number_at.Goals as goal

pub returns : goal.returns
returns c = c.unwrap_or.ensures ∙ (value_read _ c.number.result c.number.ensures ∙ ap value (c.field.ensures ∙ ap (λ m. field_of m c.args.place) c.middle.ensures))
