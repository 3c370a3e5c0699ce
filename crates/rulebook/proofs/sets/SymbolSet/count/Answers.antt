use Rattle.std.proofs.Common.{◌^◌, ◌<◌, arith}
use Rattle.rulebook.proofs.Counting.{ones_many}
use Rattle.rulebook.proofs.sets.SymbolSet.count.Goals as goal

pub returns : goal.returns
returns c =
    let fits : c.args.self.now.mask < 2 ^ 64 = omega arith in
    ones_many c.args.self.now fits
