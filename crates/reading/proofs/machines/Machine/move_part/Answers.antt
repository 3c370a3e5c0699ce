use Rattle.std.proofs.Common.{arith}
use Rattle.std.proofs.lemmas.Option.{MatchOption-at_none}
use Rattle.reading.specs.Machines.{not_allowed}
use Rattle.reading.proofs.Moving.{move_none, empty, symbol_top, no_left}
use Rattle.reading.proofs.machines.Machine.move_part.Goals as goal

pub returns-in_default-clause-moved : goal.returns-in_default-clause-moved
returns-in_default-clause-moved g c = not_allowed (move_none _ _ _ (no_left _ _ c.in_default.ensures.top.1 c.in_default.ensures'.none))

pub returns-in_default-2-clause-moved : goal.returns-in_default-2-clause-moved
returns-in_default-2-clause-moved g c = not_allowed (move_none _ _ _ (symbol_top _ _ c.in_default.ensures.top.1 (omega (arith, c.in_default.field-0-0-test.1))))

pub returns-in_default-3-clause-moved : goal.returns-in_default-3-clause-moved
returns-in_default-3-clause-moved g c = not_allowed (move_none _ _ _ (empty (MatchOption-at_none _ _ c.in_default.is-0 c.top.ensures.none)))
