-- The words of a whole programme text.
use Rattle.std.specs.Prelude.{◌≡◌, ℕ, ◌<◌, ◌≤◌, List, [], length, Some, None, Option, slice_index_or}
use Rattle.rulebook.specs.declared.faults.Fault.{Fault}
use Rattle.rulebook.specs.declared.faults.Fault.TheVariants.{ProgrammeLength}
use Rattle.wording.specs.Runs.{Longest, bytes_in}
use Rattle.wording.specs.Pieces.{Shows, WordRefused}
use Rattle.wording.specs.declared.pieces.Piece.TheVariants.{End}
use Rattle.wording.specs.declared.pieces.Placed.{Placed}

-- the piece shows the word of the text that begins at its place
pub record WordAt (t : List ℕ) (w : Placed) : Type 0 where
  pub past : ℕ
  pub longest : Longest t w.place past
  pub shows : Shows (bytes_in t w.place past) w.piece

-- what stands past a list of words
abbrev pub nothing : Placed
nothing = record { piece = End; place = 0 }

-- these are all words of the text that begin before a place, each once, from the front
pub record WordsBefore (t : List ℕ) (end : ℕ) (ws : List Placed) : Type 0 where
  pub each : (i : ℕ) → i < length ws → WordAt t (slice_index_or ws i nothing)
  pub before : (i : ℕ) → i < length ws → (slice_index_or ws i nothing).place < end
  pub rising : (i j : ℕ) → i < j → j < length ws → (slice_index_or ws i nothing).place < (slice_index_or ws j nothing).place
  pub all : (from past : ℕ) → Longest t from past → from < end → (i : ℕ) × (i < length ws) × ((slice_index_or ws i nothing).place ≡ from)

-- the first question answered no, and the words before it: the text is too long, or a word is refused
pub data Stopped (t : List ℕ) (ws : List Placed) : Fault → Type 0 where
  long : 4096 < length t → ws ≡ [] → Stopped t ws ProgrammeLength
  word : {f : Fault} (from past : ℕ) → length t ≤ 4096 → WordsBefore t from ws → Longest t from past → WordRefused from (bytes_in t from past) f → Stopped t ws f

-- a text is cut into all its words, or into those before the first question answered no
abbrev pub CutAs : List ℕ → List Placed → Option Fault → Type 0
CutAs t ws None = (length t ≤ 4096) × WordsBefore t (length t) ws
CutAs t ws (Some f) = Stopped t ws f
