use Rattle.std.proofs.Common.{◌≡◌}
use Rattle.booktext.specs.Written.{line_of}
use Rattle.booktext.proofs.Laid.{rule_to}
use Rattle.booktext.proofs.writes.rule_line.Given as goal

abbrev pub invariant-loop-at : goal.invariant-loop-at
invariant-loop-at g l = l.line ≡ line_of 82 (rule_to (g.B.Book.meaning l.book).grammar l.rule l.at)
