-- A programme is keyed in: what is known after some of its words, and what the answers of a further word add.
use Rattle.std.proofs.Common.{◌≡◌, ℕ, false, suc, ◌+◌, ◌*◌, ◌<◌, ◌≤◌, min, List, [], ◌∷◌, ◌++◌, map, length, get_or, take, drop, Option, refl, sym, ap, ◌∙◌, subst, ⊎_elim, arith, length-append}
use Rattle.std.proofs.lemmas.List.{drop_more, get_or_read_under, length-map, length-take-le, map_more}
use Rattle.language.specs.Book.{Grammar, Meaning}
use Rattle.language.specs.Words.{Word}
use Rattle.lines.specs.Columns.{told_fault, told_word}
use Rattle.rulebook.specs.Sets.{has}
use Rattle.rulebook.specs.declared.sets.SymbolSet.{SymbolSet}
use Rattle.rulebook.specs.declared.faults.Fault.{Fault}
use Rattle.rulebook.specs.declared.faults.Fault.TheVariants.{Counts}
use Rattle.wording.specs.Programmes.{nothing}
use Rattle.wording.specs.declared.pieces.Placed.{Placed}
use Rattle.soundbook.specs.Sounds.{sound_meaning}
use Rattle.soundbook.specs.declared.sounds.SoundBook.{SoundBook}
use Rattle.draft.specs.declared.lit_set.LitSet.{LitSet}
use Rattle.draft.specs.Law.{IsLawful, PressAccepts, PressRefuses, PressTaken, LitIs}
use Rattle.draft.specs.States.{grammar, words, in_use}
use Rattle.dialogue.specs.Runs.{RunState, CallLaw, call_at, answer_at}
use Rattle.dialogue.specs.declared.calls.Call.{Call}
use Rattle.dialogue.specs.declared.calls.Call.TheVariants.{Press, Lit}
use Rattle.dialogue.specs.declared.calls.Answer.{Answer}
use Rattle.dialogue.specs.declared.calls.Answer.TheVariants.{Items, Yes, Refused}
use Rattle.keying.specs.Keyed.{piece_word, WordLine, Lines, LastLine, AllKeyed, keying, KeyedRun, WordSaid}
use Rattle.keying.proofs.Calling.{keying_many, keying_press, keying_lit}
use Rattle.dialogue.proofs.Running.{items_taken}

-- the line of the last of the words held, by the answer of lit
line_of : (m : RunState) (l : LitSet) (n : ℕ) → IsLawful m.draft → LitIs m.draft l → n ≡ length (words m.draft) → WordLine (grammar m.draft) (words m.draft) (told_word n m.draft.used l.count)
line_of m l n lawful lit many = record {
  items = in_use m.draft;
  over = lawful.items;
  lit = m.draft.lit;
  keys = lawful.lit;
  apart = lawful.lit_apart;
  said = ap (λ n. told_word n m.draft.used l.count) many ∙ (ap (λ u. told_word (length (words m.draft)) u l.count) used ∙ ap (told_word (length (words m.draft)) (length (in_use m.draft))) lit.count);
}
  where
    used : m.draft.used ≡ length (in_use m.draft)
    used = sym (length-take-le m.draft.used m.draft.places lawful.fits)

-- the fault of an answer that is a refusal
abbrev fault_in : Answer → Fault
fault_in (Refused f) = f
fault_in a = Counts

-- A run, seen after some of its words.
module _ (b : SoundBook) (pieces : List Placed) (answers : List Answer) (run : KeyedRun b (map (piece_word (sound_meaning b)) pieces) answers) where
  abbrev m : Meaning
  m = sound_meaning b

  abbrev words_to : ℕ → List Word
  words_to n = map (piece_word m) (take n pieces)

  abbrev calls : List (Call Word)
  calls = keying (map (piece_word m) pieces)

  abbrev state : ℕ → RunState
  state k = run.law.state k

  -- the first words are held, and their lines are said
  pub record Going (taken : ℕ) (s : List ℕ) : Type 0 where
    pub words : words (state (2 * taken)).draft ≡ words_to taken
    pub strip : (state (2 * taken)).strip ≡ run.strip
    pub lines : Lines m.grammar 8000 (words_to taken) s

  -- none is at first
  pub going_first : (s : List ℕ) → s ≡ [] → Going 0 s
  going_first s none = subst (Going 0) (sym none) (record { words = ap (λ (ss : List SymbolSet). map (λ (x : SymbolSet). has x) ss) run.law.first.words; strip = run.law.first_strip; lines = Lines.none })

  pub many_calls : length calls ≡ 2 * length pieces + 1
  many_calls = keying_many (piece_word m) pieces

  -- what the law says of a call and its answer, as it was read
  pub law_of : (k : ℕ) (c : Call Word) (a : Answer) → k < length calls → call_at calls k ≡ c → a ≡ get_or answers k a → CallLaw (state k) c a (state (suc k))
  law_of k c a low is_call read =
      subst (λ c. CallLaw (state k) c a (state (suc k))) is_call
      (subst (λ a. CallLaw (state k) (call_at calls k) a (state (suc k))) is_answer
      (run.law.call k low))
    where
      is_answer : answer_at answers k ≡ a
      is_answer = sym (get_or_read_under answers k (length answers) a (Yes false) read (omega (arith, low, run.law.answered)) refl)

  -- each state is one of this book, with 8,000 places
  pub of_book : (k : ℕ) → k ≤ length calls → (P : Grammar → ℕ → Type 0) → P (grammar (state k).draft) (length (state k).draft.places) → P m.grammar 8000
  of_book k low P p =
      subst (λ n. P m.grammar n) ((run.law.same k low).long ∙ (run.law.first.places ∙ ap (min 60000) run.many))
      (subst (λ (x : SoundBook). P (sound_meaning x).grammar (length (state k).draft.places)) ((run.law.same k low).book ∙ run.law.first.book) p)

  -- a further word, and the answers of its press and of lit
  module _ (taken : ℕ) (inside : taken < length pieces) (pressed : Answer) (is_pressed : pressed ≡ get_or answers (2 * taken) pressed) where
    abbrev piece : Placed
    piece = get_or pieces taken nothing

    abbrev word : Word
    word = piece_word m piece

    abbrev old : RunState
    old = state (2 * taken)

    abbrev mid : RunState
    mid = state (suc (2 * taken))

    before : 2 * taken ≤ length calls
    before = omega (arith, inside, many_calls)

    press : CallLaw old (Press word) pressed mid
    press = law_of (2 * taken) (Press word) pressed (omega (arith, inside, many_calls)) (keying_press (piece_word m) pieces taken nothing inside) is_pressed

    further : words_to (taken + 1) ≡ words_to taken ++ (word ∷ [])
    further = map_more (piece_word m) pieces taken nothing inside

    long : length (words_to taken) ≡ taken
    long = length-map (take taken pieces) (piece_word m) ∙ length-take-le taken pieces (omega (arith, inside))

    -- behind the lines of the words so far
    module _ (s : List ℕ) (so_far : Going taken s) where
      -- a word is refused, and that is said
      said_refused : (stop : Option Fault) (f : Fault) → PressRefuses (grammar old.draft) (length old.draft.places) (words old.draft) word f → AllKeyed m pieces stop (s ++ told_fault f)
      said_refused stop f reason = record {
        taken = taken;
        few = omega (arith, inside);
        shown = s;
        lines = so_far.lines;
        end = told_fault f;
        last =
            subst (λ ps. LastLine m 8000 (words_to taken) ps stop (told_fault f)) (sym (drop_more pieces taken nothing inside))
            (LastLine.refused piece (drop (taken + 1) pieces) stop f (subst (λ ws. PressRefuses m.grammar 8000 ws word f) so_far.words (of_book (2 * taken) before (λ g n. PressRefuses g n (words old.draft) word f) reason)));
        said = refl;
      }

      pub going_refused : (stop : Option Fault) (f : Fault) → pressed ≡ Refused f → (t : List ℕ) → s ++ told_fault f ≡ t → AllKeyed m pieces stop t
      going_refused stop f is t said = subst (AllKeyed m pieces stop) said
          (⊎_elim
          (λ x. absurd (items_taken x.0 f pressed x.2 is))
          (λ x. said_refused stop f (subst (PressRefuses (grammar old.draft) (length old.draft.places) (words old.draft) word) (sym (ap fault_in (sym is ∙ x.2))) x.1.refused))
          press.0)

      -- or it is taken, and its line said
      module _ (lit : Answer) (is_lit : lit ≡ get_or answers (2 * taken + 1) lit) where
        lit_law : CallLaw mid Lit lit (state (suc (suc (2 * taken))))
        lit_law = law_of (suc (2 * taken)) Lit lit (omega (arith, inside, many_calls)) (keying_lit (piece_word m) pieces taken inside) (is_lit ∙ ap (λ k. get_or answers k lit) one_more)
          where
            one_more : 2 * taken + 1 ≡ suc (2 * taken)
            one_more = omega arith

        -- lit changes nothing
        after : state (2 * (taken + 1)) ≡ mid
        after = ap state two_more ∙ lit_law.1
          where
            two_more : 2 * (taken + 1) ≡ suc (suc (2 * taken))
            two_more = omega arith

        said_held : (n : ℕ) → PressTaken old.draft mid.draft word n → (l : List ℕ) → l ≡ told_word (taken + 1) n lit_law.0.0.count → Going (taken + 1) (s ++ l)
        said_held n held l told = record {
          words = ap (λ (d : RunState). words d.draft) after ∙ (now ∙ sym further);
          strip = ap (λ (d : RunState). d.strip) after ∙ (press.1 ∙ so_far.strip);
          lines =
              subst (λ ws. Lines m.grammar 8000 ws (s ++ l)) (sym further)
              (Lines.more (words_to taken) word s l so_far.lines
              (subst (λ ws. PressAccepts m.grammar 8000 ws word) so_far.words (of_book (2 * taken) before (λ g n. PressAccepts g n (words old.draft) word) held.taken))
              (subst (λ ws. WordLine m.grammar ws l) now
              (of_book (suc (2 * taken)) between (λ g n. WordLine g (words mid.draft) l)
              (subst (WordLine (grammar mid.draft) (words mid.draft)) (sym (told ∙ ap (λ n. told_word (taken + 1) n lit_law.0.0.count) held.answer))
              (line_of mid lit_law.0.0 (taken + 1) (run.law.lawful (suc (2 * taken)) between) lit_law.0.1 many)))));
        }
          where
            between : suc (2 * taken) ≤ length calls
            between = omega (arith, inside, many_calls)

            now : words mid.draft ≡ words_to taken ++ (word ∷ [])
            now = held.words ∙ ap (λ ws. ws ++ (word ∷ [])) so_far.words

            many : taken + 1 ≡ length (words mid.draft)
            many = sym (ap length now ∙ (length-append (words_to taken) (word ∷ []) ∙ ap (λ n. n + 1) long))

        pub going_on : ((f : Fault) → pressed ≡ Refused f → ⊥) → (l : List ℕ) → WordSaid (taken + 1) pressed lit l → (t : List ℕ) → s ++ l ≡ t → Going (taken + 1) t
        going_on no_refusal l told t said = subst (Going (taken + 1)) said
            (⊎_elim
            (λ x. said_held x.0 x.1 l (subst (λ a. WordSaid (taken + 1) (Items x.0) a l) lit_law.0.2 (subst (λ a. WordSaid (taken + 1) a lit l) x.2 told)))
            (λ x. absurd (no_refusal x.0 x.2))
            press.0)
