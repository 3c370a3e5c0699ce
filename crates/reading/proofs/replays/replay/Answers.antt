use Rattle.std.proofs.Common.{rules, length, ap}
use Rattle.soundbook.specs.Sounds.{sound_meaning}
use Rattle.reading.specs.Machines.{sets_of}
use Rattle.reading.proofs.Running.{all_empty, lent_rooms, some_left, start_short}
use Rattle.reading.proofs.replays.replay.Goals as goal

pub returns-in_err-start-clause-judged : goal.returns-in_err-start-clause-judged
returns-in_err-start-clause-judged g c = search (rules, start_short)

pub returns-then-is_empty-clause-judged : goal.returns-then-is_empty-clause-judged
returns-then-is_empty-clause-judged g c =
    all_empty _ _ (ap (λ b. (sound_meaning b.now).grammar) c.over-machine.ensures.book) _ _ (ap (λ w. sets_of g.W.Word.tells w.now) c.over-machine.ensures.unread)
    _ _ (lent_rooms c.over-third.result c.start.ensures.room (ap length c.over-second.ensures.lent) (ap length c.over-third.ensures.lent)) c.args.moves.now _ c.in_ok-run.ensures.moved (c.is_empty.ensures.0 c.if-is_empty.true)

pub returns-clause-judged : goal.returns-clause-judged
returns-clause-judged g c =
    some_left _ _ (ap (λ b. (sound_meaning b.now).grammar) c.over-machine.ensures.book) _ _ (ap (λ w. sets_of g.W.Word.tells w.now) c.over-machine.ensures.unread)
    _ _ (lent_rooms c.over-third.result c.start.ensures.room (ap length c.over-second.ensures.lent) (ap length c.over-third.ensures.lent)) c.args.moves.now _ c.in_ok-run.ensures.moved (λ e. let empty = c.is_empty.ensures.1 e in let other = c.if-is_empty.false in search rules)
