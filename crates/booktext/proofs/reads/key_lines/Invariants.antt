use Rattle.std.proofs.Common.{◌+◌, ◌-◌}
use Rattle.std.specs.List.{range_with_len, flat_map}
use Rattle.booktext.specs.Text.{number_at}
use Rattle.booktext.specs.Form.{AllYes, key_questions}
use Rattle.booktext.proofs.reads.key_lines.Given as goal

abbrev pub invariant-loop-place : goal.invariant-loop-place
invariant-loop-place l = AllYes (flat_map (key_questions l.book.text.now (1 + number_at l.book.text.now 0 3)) (range_with_len 0 (l.place - 0)))
