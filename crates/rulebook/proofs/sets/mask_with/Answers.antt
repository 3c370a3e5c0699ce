use Rattle.std.proofs.Common.{inl, inr, arith}
use Rattle.language.proofs.Masks.{or_grows}
use Rattle.rulebook.proofs.Holding.{holds_with, no_symbol}
use Rattle.rulebook.proofs.sets.mask_with.Goals as goal

pub returns-in-1-to-64 : goal.returns-in-1-to-64
returns-in-1-to-64 c = record { held = holds_with c.args.mask _ _ (omega arith) (omega arith); grows = or_grows c.args.mask _ }

pub returns-in_default : goal.returns-in_default
returns-in_default c = record { held = no_symbol c.args.mask _ (inl (omega arith)); grows = omega arith }

pub returns-in_default-2 : goal.returns-in_default-2
returns-in_default-2 c = record { held = no_symbol c.args.mask _ (inr (omega arith)); grows = omega arith }
