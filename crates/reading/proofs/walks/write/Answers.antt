use Rattle.std.proofs.Common.{length, refl, ap, ◌∙◌}
use Rattle.reading.specs.declared.walks.Behind.TheVariants.{Part}
use Rattle.reading.proofs.Passing.{kept_one, part_first, part_room, part_more, part_all}
use Rattle.reading.proofs.walks.write.Goals as goal

pub loop-behind-init : goal.loop-behind-init
loop-behind-init c = (
  c.keep.ensures.room.places ∙ ap length c.over-stack.ensures.lent,
  c.put-at.auto.strip,
  part_first _ _ _ _ _ _ (Part 129) _ _ (kept_one _ _ _ _ c.over-stack.ensures.empty (ap length c.over-stack.ensures.lent) c.keep.ensures.kept) refl c.put-at.ensures.begins c.requires.room c.put-at.ensures.written,
)

pub put-at-requires-in-Some-clause-some : goal.put-at-requires-in-Some-clause-some
put-at-requires-in-Some-clause-some c =
    (part_room _ _ _ _ _ _ _ c.in-Some.behind _ _ c.loop-behind.invariant.2 c.in-Some.ensures.told c.loop-behind.invariant.1 c.requires.room c.requires.owed.0 c.requires.owed.1 c.requires.owed.2).0

pub put-at-requires-in-Some-clause-inside : goal.put-at-requires-in-Some-clause-inside
put-at-requires-in-Some-clause-inside c =
    (part_room _ _ _ _ _ _ _ c.in-Some.behind _ _ c.loop-behind.invariant.2 c.in-Some.ensures.told c.loop-behind.invariant.1 c.requires.room c.requires.owed.0 c.requires.owed.1 c.requires.owed.2).1

pub loop-behind-preserved : goal.loop-behind-preserved
loop-behind-preserved c = (
  c.in-Some.ensures.room.places ∙ c.loop-behind.invariant.0,
  c.put-at-in-Some.auto.strip ∙ c.loop-behind.invariant.1,
  part_more _ _ _ _ _ _ _ c.in-Some.behind _ _ _ _ c.loop-behind.invariant.2 c.in-Some.ensures.told c.put-at-in-Some.ensures.begins
      (part_room _ _ _ _ _ _ _ c.in-Some.behind _ _ c.loop-behind.invariant.2 c.in-Some.ensures.told c.loop-behind.invariant.1 c.requires.room c.requires.owed.0 c.requires.owed.1 c.requires.owed.2).1
      c.put-at-in-Some.ensures.written,
)

pub returns : goal.returns
returns c = part_all _ _ _ _ _ _ _ _ c.loop-behind.invariant.2 c.in_default.ensures.told
