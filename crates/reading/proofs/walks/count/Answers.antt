use Rattle.std.proofs.Common.{length, ap, ◌∙◌, arith}
use Rattle.reading.proofs.Passing.{kept_one, counted_first, counted_more, counted_few, counted_all}
use Rattle.reading.proofs.walks.count.Goals as goal

pub loop-behind-init : goal.loop-behind-init
loop-behind-init c = (
  c.keep.ensures.room.places ∙ ap length c.over-stack.ensures.lent,
  counted_first _ _ _ _ _ (kept_one _ _ _ _ c.over-stack.ensures.empty (ap length c.over-stack.ensures.lent) c.keep.ensures.kept) c.many-moves.ensures,
)

pub next-requires-clause-owed : goal.next-requires-clause-owed
next-requires-clause-owed c = let (ns, owed, many) = c.loop-behind.invariant.1 c.requires.owed.0 c.requires.owed.1 in (ns, owed)

pub overflow_add-moves : goal.overflow_add-moves
overflow_add-moves c =
    let few = counted_few _ _ _ _ _ c.in-Some.behind _ _ c.many-moves-in-Some.ensures c.loop-behind.invariant.1 c.in-Some.ensures.told c.requires.owed.0 c.requires.owed.1 in
    omega (arith, few.1, c.requires.owed.2)

pub loop-behind-smaller : goal.loop-behind-smaller
loop-behind-smaller c =
    let few = counted_few _ _ _ _ _ c.in-Some.behind _ _ c.many-moves-in-Some.ensures c.loop-behind.invariant.1 c.in-Some.ensures.told c.requires.owed.0 c.requires.owed.1 in
    omega (arith, few.0, few.1, c.requires.owed.2)

pub loop-behind-preserved : goal.loop-behind-preserved
loop-behind-preserved c = (
  c.in-Some.ensures.room.places ∙ c.loop-behind.invariant.0,
  counted_more _ _ _ _ _ c.in-Some.behind _ _ c.many-moves-in-Some.ensures c.loop-behind.invariant.1 c.in-Some.ensures.told,
)

pub returns : goal.returns
returns c = counted_all _ _ _ _ _ c.loop-behind.invariant.1 c.in_default.ensures.told
