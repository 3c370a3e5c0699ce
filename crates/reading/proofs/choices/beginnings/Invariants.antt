use Rattle.std.proofs.Common.{◌≡◌, ◌+◌, length}
use Rattle.language.specs.Book.{size}
use Rattle.language.specs.Readings.{Children, yield, count}
use Rattle.draft.specs.States.{grammar, words}
use Rattle.reading.specs.Choices.{FirstChildren}
use Rattle.reading.proofs.Placing.{Placed}
use Rattle.reading.proofs.choices.beginnings.Given as goal

-- the children from the place on have their beginnings
abbrev pub invariant-loop-place : goal.invariant-loop-place
invariant-loop-place l =
    let g = grammar l.fn.draft in
    (ks : Children) → FirstChildren g (words l.fn.draft) l.fn.rule l.fn.start ks → count ks ≡ size g l.fn.rule → l.fn.start + length (yield ks) ≡ l.fn.end
    → Placed l.fn.start ks l.until l.place l.begins
