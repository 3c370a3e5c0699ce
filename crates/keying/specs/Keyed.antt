-- What is said of a programme that is keyed in.
use Rattle.std.specs.Prelude.{◌≡◌, ℕ, Bool, ◌≤◌, ◌⊎◌, ◌↔◌, List, [], ◌∷◌, ◌++◌, map, length, take, drop, Option, Some, None, codes}
use Rattle.language.specs.Book.{Grammar, Meaning}
use Rattle.language.specs.Words.{Word}
use Rattle.language.specs.Readings.{Item, Programme}
use Rattle.language.specs.Columns.{Among, Apart}
use Rattle.language.specs.Order.{First}
use Rattle.lines.specs.Columns.{told_fault, told_word, told_whole}
use Rattle.rulebook.specs.declared.faults.Fault.{Fault}
use Rattle.soundbook.specs.Sounds.{sound_meaning}
use Rattle.soundbook.specs.declared.sounds.SoundBook.{SoundBook}
use Rattle.booktext.specs.Text.{text_meaning}
use Rattle.bookreport.specs.Findings.{Accepted, TextRefused}
use Rattle.wording.specs.Matching.{piece_matches}
use Rattle.wording.specs.Programmes.{CutAs}
use Rattle.wording.specs.Sets.{word_of}
use Rattle.wording.specs.declared.pieces.Placed.{Placed}
use Rattle.wording.specs.declared.spelled.Spelled.{Spelled}
use Rattle.reading.specs.Written.{moves_of}
use Rattle.draft.specs.Law.{MayFollow, ItemsOver, PressAccepts, PressRefuses}
use Rattle.dialogue.specs.Runs.{RunLaw}
use Rattle.dialogue.specs.declared.calls.Call.{Call}
use Rattle.dialogue.specs.declared.calls.Call.TheVariants.{Press, Lit, Reading}
use Rattle.dialogue.specs.declared.calls.Answer.{Answer}
use Rattle.dialogue.specs.declared.calls.Answer.TheVariants.{Items, Keys, Moves}

-- a piece of programme text as a word of a book
abbrev pub piece_word : Meaning → Placed → Word
piece_word m p = word_of (piece_matches m p.piece)

-- the line of the last of the words: how many they are, how many items there are over them, and how many keys may follow
pub record WordLine (g : Grammar) (ws : List Word) (s : List ℕ) : Type 0 where
  pub items : List Item
  pub over : ItemsOver g ws items
  pub lit : List ℕ
  pub keys : (c : ℕ) → Among c lit ↔ MayFollow g ws c
  pub apart : Apart lit
  pub said : s ≡ told_word (length ws) (length items) (length lit)

-- the lines of words that are taken one after another
pub data Lines (g : Grammar) (places : ℕ) : List Word → List ℕ → Type 0 where
  none : Lines g places [] []
  more : (ws : List Word) (w : Word) (s l : List ℕ) → Lines g places ws s → PressAccepts g places ws w → WordLine g (ws ++ (w ∷ [])) l → Lines g places (ws ++ (w ∷ [])) (s ++ l)

-- the last line, after the words taken: the next word is refused; or the text is, behind its last word; or the words are a
-- programme, and the line tells how many moves their first reading has; or they are no programme
pub data LastLine (m : Meaning) (places : ℕ) (ws : List Word) : List Placed → Option Fault → List ℕ → Type 0 where
  refused : (p : Placed) (ps : List Placed) (stop : Option Fault) (f : Fault) → PressRefuses m.grammar places ws (piece_word m p) f → LastLine m places ws (p ∷ ps) stop (told_fault f)
  stopped : (f : Fault) → LastLine m places ws [] (Some f) (told_fault f)
  whole : (t : First m.grammar m.grammar.start ws) → LastLine m places ws [] None (told_whole (length (moves_of t)))
  short : (Programme m.grammar ws → ⊥) → LastLine m places ws [] None (codes "short\n")

-- what is said of the pieces of a text: a line for each word from the front that is taken into 8,000 places, and the last line
pub record AllKeyed (m : Meaning) (pieces : List Placed) (stop : Option Fault) (s : List ℕ) : Type 0 where
  pub taken : ℕ
  pub few : taken ≤ length pieces
  pub shown : List ℕ
  pub lines : Lines m.grammar 8000 (map (piece_word m) (take taken pieces)) shown
  pub end : List ℕ
  pub last : LastLine m 8000 (map (piece_word m) (take taken pieces)) (drop taken pieces) stop end
  pub said : s ≡ shown ++ end

-- the same of the text, cut into its words
pub record KeyedIn (m : Meaning) (t s : List ℕ) : Type 0 where
  pub pieces : List Placed
  pub stop : Option Fault
  pub cut : CutAs t pieces stop
  pub keyed : AllKeyed m pieces stop s

-- what is said of a book text and a programme text: why the book is refused, or what becomes of the programme
abbrev pub Keyed : List ℕ → List ℕ → List ℕ → Type 0
Keyed b t s = ((f : Fault) × TextRefused b f × (s ≡ told_fault f)) ⊎ (Accepted b × KeyedIn (text_meaning b) t s)

-- Of the single steps:

-- the test that tells the words that are pressed
abbrev pub spelled_tells : Spelled → ℕ → Bool
spelled_tells w = piece_matches (sound_meaning w.book.now) w.word.piece

-- the calls that key in words: a press of each and what is lit then, and in the end the reading
abbrev pub keying : List Word → List (Call Word)
keying [] = Reading ∷ []
keying (w ∷ ws) = Press w ∷ Lit ∷ keying ws

-- these calls were made on a new draft of a sound book, with a chart of 8,000 places and a strip of 12,836, and answered so
pub record KeyedRun (book : SoundBook) (ws : List Word) (answers : List Answer) : Type 0 where
  pub lent : List Item
  pub many : length lent ≡ 8000
  pub strip : List ℕ
  pub long : length strip ≡ 12836
  pub places : List Item
  pub left : List ℕ
  pub law : RunLaw book lent strip (keying ws) answers places left

-- the line of a word that is taken, by the answers of its press and of lit
abbrev pub WordSaid : ℕ → Answer → Answer → List ℕ → Type 0
WordSaid number (Items n) (Keys lit) s = s ≡ told_word number n lit.count
WordSaid number pressed lit s = Unit {0}

-- the last line where no word is left, by the answer of the reading
abbrev pub LastSaid : Option Fault → Answer → List ℕ → Type 0
LastSaid (Some f) reading s = s ≡ told_fault f
LastSaid None (Moves w) s = s ≡ told_whole w.moves
LastSaid None reading s = s ≡ codes "short\n"
