use Rattle.std.proofs.Common.{◌≡◌, ℕ, ◌&&◌, ltb}
use Rattle.rulebook.specs.Sets.{has}
use Rattle.wording.specs.Sets.{word_of}
use Rattle.wording.proofs.pressed.Matched.of.Given as goal

abbrev pub invariant-loop-key : goal.invariant-loop-key
invariant-loop-key g l = (c : ℕ) → has l.keys c ≡ (ltb c l.key && word_of (g.W.Word.tells l.word) c)
