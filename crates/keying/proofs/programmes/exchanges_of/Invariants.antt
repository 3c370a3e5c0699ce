use Rattle.std.proofs.Common.{◌≡◌, ◌++◌, map, drop}
use Rattle.soundbook.specs.Sounds.{sound_meaning}
use Rattle.dialogue.specs.Calls.{calls_as_sets}
use Rattle.keying.specs.Keyed.{piece_word, keying, spelled_tells}
use Rattle.keying.proofs.programmes.exchanges_of.Given as goal

-- the calls so far and those of the words that are left are all
abbrev pub invariant-loop-word : goal.invariant-loop-word
invariant-loop-word l = calls_as_sets spelled_tells l.exchanges.items ++ keying (map (piece_word (sound_meaning l.book)) (drop l.word-index l.words)) ≡ keying (map (piece_word (sound_meaning l.book)) l.words)
