use Rattle.std.proofs.Common.{◌+◌, ◌-◌, ◌*◌, refl, arith}
use Rattle.booktext.proofs.Filled.{filled_more, filled_all}
use Rattle.booktext.proofs.writes.set_lines.Goals as goal

pub loop-number-preserved : goal.loop-number-preserved
loop-number-preserved g c = λ f makes.
    let first = c.args.numbers.start in
    let number = c.loop-number.number in
    filled_more f makes.wide c.args.space.now c.loop-number.space c.put.new.space c.line.result (34 * c.args.top) (34 * (c.args.top + c.from.result)) first (number - first) number (number + 1 - first)
    (c.loop-number.invariant f makes) c.put.ensures (makes.line number c.line.result (omega arith) (c.args.book, c.line.ensures, refl)) (omega arith) (omega (arith, c.from.ensures)) (omega (arith, c.from.ensures)) (omega arith)

pub returns : goal.returns
returns g c = λ f makes.
    let first = c.args.numbers.start in
    filled_all f c.args.space.now c.loop-number.space (34 * c.args.top) (34 * c.args.top) first (c.loop-number.number - first) (c.args.numbers.end - first) (c.loop-number.invariant f makes) refl (omega arith)
