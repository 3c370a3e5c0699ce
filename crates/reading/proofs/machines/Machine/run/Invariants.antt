use Rattle.std.proofs.Common.{◌≡◌, take}
use Rattle.reading.specs.Machines.{grammar_of, rooms_of, state_of, sets_of}
use Rattle.reading.specs.Replays.{Leads}
use Rattle.reading.specs.Stacks.{SameRoom}
use Rattle.reading.proofs.machines.Machine.run.Given as goal

abbrev pub invariant-loop-place : goal.invariant-loop-place
invariant-loop-place g l =
    (l.self.book ≡ l.initial.self.book)
    × SameRoom l.initial.second l.second
    × SameRoom l.initial.third l.third
    × Leads (grammar_of l.initial.self) (sets_of g.W.Word.tells l.initial.self.unread.now) (rooms_of l.initial.second l.initial.third) (take l.place l.moves)
    (state_of g.W.Word.tells l.self l.second l.third)
