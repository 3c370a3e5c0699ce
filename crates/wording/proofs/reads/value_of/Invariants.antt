use Rattle.std.proofs.Common.{◌≡◌, ◌^◌, ◌<◌, drop}
use Rattle.wording.specs.Pieces.{written_after}
use Rattle.wording.proofs.reads.value_of.Given as goal

abbrev pub invariant-loop-byte : goal.invariant-loop-byte
invariant-loop-byte l = (l.value < 10 ^ l.byte-index) × (written_after l.value (drop l.byte-index l.figures) ≡ written_after 0 l.figures)
