use Rattle.std.proofs.Common.{length, ap, ◌∙◌, arith}
use Rattle.booktext.specs.Text.{spelled, spelling_field, middle_of}
use Rattle.booktext.proofs.Meant.{spelling_lined, spelling_unlined}
use Rattle.booktext.proofs.Spelled.{spelling_short}
use Rattle.booktext.proofs.texts.TextBook.spelling.Goals as goal

pub returns-in-Some : goal.returns-in-Some
returns-in-Some c =
    let t = c.args.self.now.text.now in
    let e = c.spelled.ensures ∙ ap spelled (c.spelling_field.ensures ∙ ap spelling_field c.middle.ensures) in
    record { is = e ∙ spelling_lined t c.args.key c.in-Some.line c.in-Some.ensures; short = omega (arith, ap length e, spelling_short (middle_of t c.in-Some.line)) }

pub returns-in-None : goal.returns-in-None
returns-in-None c = record { is = spelling_unlined c.args.self.now.text.now c.args.key c.in-None.ensures; short = omega arith }
