use Rattle.std.proofs.Common.{ap, ◌∙◌}
use Rattle.std.proofs.lemmas.Result.{err_from_is_err_and}
use Rattle.soundbook.specs.Sounds.{sound_meaning}
use Rattle.reading.specs.Machines.{first_of, grammar_of, rooms_of, sets_of}
use Rattle.reading.proofs.Running.{leads_more, part_symbol, refused_at, room_on, same_rooms, stacks_fit}
use Rattle.reading.proofs.machines.Machine.run.Goals as goal

pub step-requires : goal.step-requires
step-requires g c X e = part_symbol _ _ _ _ X _ _ _ _ c.loop-place.invariant.3 e

pub returns-in_err-step-clause-moved : goal.returns-in_err-step-clause-moved
returns-in_err-step-clause-moved g c =
    let i = c.loop-place.invariant in
    let m = c.args.self.now in
    let p = err_from_is_err_and c.from_residual.result c.from_residual.ensures.1 in
    rw (p.1, p.2)
    (refused_at (grammar_of m) (sets_of g.W.Word.tells m.unread.now) (rooms_of c.args.second.now c.args.third.now) _ (ap (λ b. (sound_meaning b.now).grammar) i.0)
    _ (same_rooms i.1 i.2) c.args.moves.now c.loop-place.place _ i.3 c.loop-place-test.true _ c.in_err-step.ensures.moved)

pub loop-place-preserved : goal.loop-place-preserved
loop-place-preserved g c =
    let i = c.loop-place.invariant in
    let m = c.args.self.now in
    let second = room_on i.1 c.step.ensures.second in
    let third = room_on i.2 c.step.ensures.third in (
      c.step.ensures.book ∙ i.0,
      second,
      third,
      leads_more (grammar_of m) (sets_of g.W.Word.tells m.unread.now) (rooms_of c.args.second.now c.args.third.now) _ (ap (λ b. (sound_meaning b.now).grammar) i.0)
          _ (same_rooms second third) c.args.moves.now c.loop-place.place _ i.3 c.loop-place-test.true _ c.in_ok-step.ensures.moved
          (stacks_fit (first_of g.W.Word.tells c.step.new.self) c.step.new.second c.step.new.third),
    )
