use Rattle.std.proofs.Common.{◌≡◌, take, replicate}
use Rattle.reading.proofs.stacks.wipe.Given as goal

abbrev pub invariant-loop-place : goal.invariant-loop-place
invariant-loop-place g l = take l.place-index l.room ≡ replicate l.place-index g.T.Blank.blank
