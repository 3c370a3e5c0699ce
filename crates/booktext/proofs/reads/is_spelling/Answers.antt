use Rattle.std.proofs.Common.{length, ap, arith}
use Rattle.booktext.proofs.Spelled.{spelled_short}
use Rattle.booktext.proofs.reads.is_spelling.Goals as goal

pub split_at-requires : goal.split_at-requires
split_at-requires c = omega (arith, ap length c.spelled-spelling.ensures, spelled_short c.args.columns.now)
