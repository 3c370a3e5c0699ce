use Rattle.std.proofs.Common.{ap, ◌∙◌, arith}
use Rattle.soundbook.proofs.Plain.{plain}
use Rattle.language.specs.Machine.{next}
use Rattle.reading.proofs.Moving.{awaited_next}
use Rattle.reading.proofs.machines.Machine.symbol.Goals as goal

pub overflow_cast-result : goal.overflow_cast-result
overflow_cast-result g c =
    let p = plain _ c.args.self.now.book.now.sound in
    omega (arith, c.symbol.ensures, p.symbol_high c.args.rule c.args.place c.requires.rule c.requires.place)

pub returns : goal.returns
returns g c =
    let p = plain _ c.args.self.now.book.now.sound in
    awaited_next c.symbol.result (omega (arith, c.symbol.ensures, p.symbol_low c.args.rule c.args.place c.requires.rule c.requires.place))
    ∙ ap next c.symbol.ensures
