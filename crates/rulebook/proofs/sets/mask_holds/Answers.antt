use Rattle.std.proofs.Common.{inl, inr, arith}
use Rattle.language.specs.Masks.{bit}
use Rattle.rulebook.proofs.Holding.{holds_inside, holds_outside}
use Rattle.rulebook.proofs.sets.mask_holds.Goals as goal

pub returns-in-1-to-64 : goal.returns-in-1-to-64
unfolding bit
returns-in-1-to-64 c = holds_inside c.args.mask _ _ (omega arith) (omega arith)

pub returns-in_default : goal.returns-in_default
returns-in_default c = holds_outside c.args.mask _ (inl (omega arith))

pub returns-in_default-2 : goal.returns-in_default-2
returns-in_default-2 c = holds_outside c.args.mask _ (inr (omega arith))
