use Rattle.std.proofs.Common.{arith}
use Rattle.soundbook.proofs.Plain.{plain}
use Rattle.chart.proofs.records.Settled.wanted.Goals as goal

pub corners-requires : goal.corners-requires
corners-requires c = let p = plain _ c.args.self.now.book.now.sound in omega (arith, c.start.ensures, p.start_high)
