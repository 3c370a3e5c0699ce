use Rattle.std.proofs.Common.{◌-◌}
use Rattle.std.specs.List.{range_with_len, flat_map}
use Rattle.booktext.specs.Form.{AllYes, rule_questions}
use Rattle.booktext.proofs.reads.rule_lines.Given as goal

abbrev pub invariant-loop-line : goal.invariant-loop-line
invariant-loop-line l = AllYes (flat_map (rule_questions l.book.text.now) (range_with_len 1 (l.line - 1)))
