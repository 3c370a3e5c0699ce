use Rattle.std.proofs.Common.{◌≡◌, ℕ, ◌<◌, Ok, length, slice_index_or}
use Rattle.soundbook.proofs.copies.filled.Given as goal

abbrev pub invariant-loop-place : goal.invariant-loop-place
invariant-loop-place g l = (length l.items ≡ g.row.N) × ((i : ℕ) → i < l.place → goal.F-post g l.item i (Ok (slice_index_or l.items i l.fn.blank)))
