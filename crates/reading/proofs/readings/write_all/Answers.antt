use Rattle.std.proofs.Common.{refl, arith}
use Rattle.reading.proofs.Programmes.{few_moves, some_moves, written, refused_short}
use Rattle.reading.proofs.readings.write_all.Goals as goal

pub count-moves-requires-clause-owed : goal.count-moves-requires-clause-owed
count-moves-requires-clause-owed c = (_, c.requires.owed, few_moves _ _ _ _ c.requires)

pub returns-then-strip-moves-clause-read : goal.returns-then-strip-moves-clause-read
returns-then-strip-moves-clause-read c = (refused_short _ _ _ _ c.requires _ (c.count-moves.ensures _ c.requires.owed) _ c.if-strip-moves.true, refl)

pub returns-then-strip-moves-clause-space : goal.returns-then-strip-moves-clause-space
returns-then-strip-moves-clause-space c = λ held room e. omega (arith, room, c.count-moves.ensures _ c.requires.owed, few_moves _ _ _ _ c.requires, c.if-strip-moves.true)

pub write-requires-clause-owed : goal.write-requires-clause-owed
write-requires-clause-owed c = (_, c.requires.owed, c.count-moves.ensures _ c.requires.owed)

pub overflow_sub-result : goal.overflow_sub-result
overflow_sub-result c = omega (arith, c.count-moves.ensures _ c.requires.owed, some_moves _ _ _ _ c.requires)

pub overflow_mul-result : goal.overflow_mul-result
overflow_mul-result c = omega (arith, c.count-moves.ensures _ c.requires.owed, few_moves _ _ _ _ c.requires)

pub overflow_add-result : goal.overflow_add-result
overflow_add-result c = omega (arith, c.count-moves.ensures _ c.requires.owed, few_moves _ _ _ _ c.requires)

pub returns-clause-read : goal.returns-clause-read
returns-clause-read c =
    let many = c.count-moves.ensures _ c.requires.owed in
    written _ _ _ _ c.requires _ many _ _ (omega (arith, c.if-strip-moves.false)) (c.write.ensures _ c.requires.owed many)
