use Rattle.std.proofs.Common.{◌≡◌, ◌++◌, length, drop}
use Rattle.booktext.specs.Columns.{lead, shown}
use Rattle.booktext.proofs.fields.set_right.Given as goal

abbrev pub invariant-loop-i : goal.invariant-loop-i
invariant-loop-i l = lead l.i l.rest ++ drop l.i l.columns ≡ shown (length l.columns) l.number
