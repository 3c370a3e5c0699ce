use Rattle.std.proofs.Common.{get_or}
use Rattle.chart.specs.Records.{blank_record}
use Rattle.chart.proofs.Spanned.{NoneSpans}
use Rattle.chart.proofs.records.Settled.is_whole.Given as goal

abbrev pub invariant-loop-at : goal.invariant-loop-at
invariant-loop-at l = NoneSpans l.self l.board (get_or l.self.records l.last blank_record).waiting l.at
