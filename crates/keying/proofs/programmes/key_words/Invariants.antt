use Rattle.std.proofs.Common.{map, string_bytes}
use Rattle.soundbook.specs.Sounds.{sound_meaning}
use Rattle.dialogue.specs.Calls.{answers_in}
use Rattle.keying.specs.Keyed.{piece_word, KeyedRun}
use Rattle.keying.proofs.Going.{Going}
use Rattle.keying.proofs.programmes.key_words.Given as goal

abbrev pub invariant-loop-place : goal.invariant-loop-place
invariant-loop-place l =
    (run : KeyedRun l.book (map (piece_word (sound_meaning l.book)) l.programme.words.items) (answers_in l.exchanges.items)) → Going l.book l.programme.words.items (answers_in l.exchanges.items) run l.place (string_bytes l.said)
