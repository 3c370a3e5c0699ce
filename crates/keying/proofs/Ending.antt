-- All words of a programme are held: what the answer of the reading tells.
use Rattle.std.proofs.Common.{◌≡◌, ℕ, suc, ◌*◌, ◌≤◌, List, [], ◌++◌, map, length, get_or, take, Some, None, Option, sym, ap, ◌∙◌, subst, ⊎_elim, ◌⊎◌, inl, inr, arith}
use Rattle.std.specs.Prelude.{codes}
use Rattle.std.proofs.Math.ListN.{drop_of_length-le}
use Rattle.language.specs.Book.{Grammar, Meaning}
use Rattle.language.specs.Readings.{Programme}
use Rattle.language.specs.Order.{First}
use Rattle.language.proofs.Known.{sound_known}
use Rattle.language.proofs.Moves.Theorem.{moves_theorem}
use Rattle.lines.specs.Columns.{told_whole}
use Rattle.rulebook.specs.declared.faults.Fault.{Fault}
use Rattle.wording.specs.declared.pieces.Placed.{Placed}
use Rattle.reading.specs.Written.{moves_of, ReadingRefused, not_whole, short}
use Rattle.soundbook.specs.Sounds.{sound_meaning}
use Rattle.soundbook.specs.declared.sounds.SoundBook.{SoundBook}
use Rattle.draft.specs.States.{grammar, words}
use Rattle.dialogue.specs.Runs.{RunState, CallLaw}
use Rattle.dialogue.specs.declared.calls.Call.TheVariants.{Reading}
use Rattle.dialogue.specs.declared.calls.Answer.{Answer}
use Rattle.keying.specs.Keyed.{piece_word, keying, LastLine, AllKeyed, KeyedRun, LastSaid}
use Rattle.keying.proofs.Calling.{keying_reading}
use Rattle.keying.proofs.Going.{Going, law_of, many_calls, of_book}

module _ (b : SoundBook) (pieces : List Placed) (answers : List Answer) (run : KeyedRun b (map (piece_word (sound_meaning b)) pieces) answers) (s : List ℕ) (so_far : Going b pieces answers run (length pieces) s) where
  abbrev m : Meaning
  m = sound_meaning b

  abbrev old : RunState
  old = run.law.state (2 * length pieces)

  abbrev new : RunState
  new = run.law.state (suc (2 * length pieces))

  inside : 2 * length pieces ≤ length (keying (map (piece_word m) pieces))
  inside = omega (arith, many_calls b pieces answers run)

  -- the moves of the first reading fit the strip, since there are at most 100 words
  fits : (t : First (grammar old.draft) (grammar old.draft).start (words old.draft)) → length (moves_of t) ≤ length old.strip
  fits t =
      let few = (run.law.lawful (2 * length pieces) inside).few in
      let moves = (moves_theorem (sound_meaning old.draft.book) (sound_known (sound_meaning old.draft.book) old.draft.book.sound) (words old.draft) t.reads).few_moves few in
      let long : length old.strip ≡ 12836 = ap length so_far.strip ∙ run.long in
      omega (arith, moves, long)

  -- so a reading that is refused has no programme
  no_programme : (f : Fault) → ReadingRefused (grammar old.draft) (words old.draft) (length old.strip) f → Programme (grammar old.draft) (words old.draft) → ⊥
  no_programme _ (not_whole none) = none
  no_programme _ (short t l) = absurd (omega (arith, l, fits t))

  -- the words are a programme if moves are answered, and else they are not
  abbrev Ends : Grammar → List ℕ → Type 0
  Ends g end = ((t : First g g.start (words old.draft)) × (end ≡ told_whole (length (moves_of t)))) ⊎ ((Programme g (words old.draft) → ⊥) × (end ≡ codes "short\n"))

  read_last : (a : Answer) (end : List ℕ) → CallLaw old Reading a new → LastSaid None a end → Ends (grammar old.draft) end
  read_last a end law told = ⊎_elim
      (λ x. inl (x.1.first, subst (λ a. LastSaid None a end) x.2 told ∙ ap told_whole x.1.many))
      (λ x. inr (no_programme x.0 x.1.0, subst (λ a. LastSaid None a end) x.2 told))
      law.0

  ends : (end : List ℕ) → Ends m.grammar end → LastLine m 8000 (words old.draft) [] None end
  ends end (inl (t, is)) = subst (LastLine m 8000 (words old.draft) [] None) (sym is) (LastLine.whole t)
  ends end (inr (nothing, is)) = subst (LastLine m 8000 (words old.draft) [] None) (sym is) (LastLine.short nothing)

  -- the last line
  pub going_last : (stop : Option Fault) (a : Answer) (end : List ℕ) → a ≡ get_or answers (2 * length pieces) a → LastSaid stop a end → (t : List ℕ) → s ++ end ≡ t → AllKeyed m pieces stop t
  going_last stop a end is told t said = record {
    taken = length pieces;
    few = omega arith;
    shown = s;
    lines = so_far.lines;
    end = end;
    last =
        subst (λ ps. LastLine m 8000 (map (piece_word m) (take (length pieces) pieces)) ps stop end) (sym (drop_of_length-le pieces (omega arith)))
        (subst (λ ws. LastLine m 8000 ws [] stop end) so_far.words (last stop told));
    said = sym said;
  }
    where
      law : CallLaw old Reading a new
      law = law_of b pieces answers run (2 * length pieces) Reading a (omega (arith, many_calls b pieces answers run)) (keying_reading (piece_word m) pieces) is

      last : (stop : Option Fault) → LastSaid stop a end → LastLine m 8000 (words old.draft) [] stop end
      last (Some f) told = subst (LastLine m 8000 (words old.draft) [] (Some f)) (sym told) (LastLine.stopped f)
      last None told = ends end (of_book b pieces answers run (2 * length pieces) inside (λ g n. Ends g end) (read_last a end law told))
