use Rattle.std.proofs.Common.{arith}
use Rattle.soundbook.proofs.Plain.{plain}
use Rattle.reading.proofs.machines.Machine.left.Goals as goal

pub overflow_cast-result : goal.overflow_cast-result
overflow_cast-result g c =
    let p = plain _ c.args.self.now.book.now.sound in
    omega (arith, c.left.ensures, p.left_high c.args.rule c.requires)
