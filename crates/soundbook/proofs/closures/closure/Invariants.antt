use Rattle.std.proofs.Common.{◌-◌, ◌^◌}
use Rattle.soundbook.specs.Closures.{Grown}
use Rattle.soundbook.proofs.closures.closure.Given as goal

abbrev pub invariant-loop-next : goal.invariant-loop-next
invariant-loop-next g l = Grown (g.G.Growth.derived l.growth) l.initial.set l.set

-- each round but the last makes the mask larger
abbrev pub decreases-loop-next : goal.decreases-loop-next
decreases-loop-next g l = 2 ^ 64 - l.set.mask
