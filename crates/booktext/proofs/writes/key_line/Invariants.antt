use Rattle.std.proofs.Common.{◌≡◌, [], ◌∷◌}
use Rattle.language.specs.Book.{kind, spelling}
use Rattle.booktext.specs.Written.{boxed, line_of}
use Rattle.booktext.proofs.Laid.{spread_to}
use Rattle.booktext.proofs.writes.key_line.Given as goal

abbrev pub invariant-loop-at : goal.invariant-loop-at
invariant-loop-at g l =
    let m = (g.B.Book.meaning l.book).forms in
    l.line ≡ line_of 75 (boxed l.key ∷ boxed (kind m l.key) ∷ spread_to l.at (spelling m l.key) ∷ [])
