-- What a word of programme text is read as, and when it is refused.
use Rattle.std.specs.Prelude.{◌≡◌, ℕ, ◌+◌, ◌-◌, ◌*◌, ◌<◌, ◌≤◌, ◌⊎◌, List, [], ◌∷◌, length, slice_index}
use Rattle.language.specs.Sound.{Letter, Lettered}
use Rattle.rulebook.specs.declared.faults.Fault.{Fault}
use Rattle.rulebook.specs.declared.faults.Fault.TheVariants.{WordByte, WordLength}
use Rattle.wording.specs.Runs.{NextWord, bytes_in}
use Rattle.wording.specs.declared.pieces.Piece.{Piece}
use Rattle.wording.specs.declared.pieces.Piece.TheVariants.{Name, Figure, End}
use Rattle.wording.specs.declared.pieces.Placed.{Placed}

-- the bytes that a piece came from
abbrev pub bytes_of : Piece → List ℕ
bytes_of (Name b) = b.now
bytes_of (Figure b v) = b.now
bytes_of End = []

-- one of the digits 0 to 9
pub record Digit (b : ℕ) : Type 0 where
  pub low : 48 ≤ b
  pub high : b ≤ 57

-- 1 to 4 digits
pub record Figures (s : List ℕ) : Type 0 where
  pub some : 1 ≤ length s
  pub few : length s ≤ 4
  pub digits : (i : ℕ) → i < length s → Digit (slice_index s i)

-- the number that digits write after the number n
abbrev pub written_after : ℕ → List ℕ → ℕ
written_after n [] = n
written_after n (b ∷ bs) = written_after (n * 10 + (b - 48)) bs

-- the word s is read as a piece that shows its very bytes: a name, a figure with its value, or, of no bytes, the end
abbrev pub Shows : List ℕ → Piece → Type 0
Shows s (Name b) = (b.now ≡ s) × Lettered 1 s
Shows s (Figure b v) = (b.now ≡ s) × Figures s × (v ≡ written_after 0 s)
Shows s End = s ≡ []

-- a byte of a word fits the first: after a letter or hyphen it is one too, after any other byte a digit
pub data ByteFits (first b : ℕ) : Type 0 where
  letters : Letter first → Letter b → ByteFits first b
  figures : (Letter first → ⊥) → Digit b → ByteFits first b

-- the byte at this place is the first that does not fit
pub record IsMisfit (first : ℕ) (s : List ℕ) (k : ℕ) : Type 0 where
  pub inside : k < length s
  pub before : (i : ℕ) → i < k → ByteFits first (slice_index s i)
  pub unfit : ByteFits first (slice_index s k) → ⊥

-- more bytes than a name may have, or than a figure
abbrev pub TooLong : List ℕ → Type 0
TooLong s = (Letter (slice_index s 0) × (24 < length s)) ⊎ ((Letter (slice_index s 0) → ⊥) × (4 < length s))

-- the first question answered no, of the word s that begins after so many bytes; refusals count bytes from 1
pub data WordRefused (from : ℕ) (s : List ℕ) : Fault → Type 0 where
  byte : (k : ℕ) → IsMisfit (slice_index s 0) s k → WordRefused from s (WordByte (from + k + 1))
  long : ((i : ℕ) → i < length s → ByteFits (slice_index s 0) (slice_index s i)) → TooLong s → WordRefused from s (WordLength (from + 1))

-- the first word at a place or past it is taken as this piece, and ends before past
pub record PieceTaken (t : List ℕ) (at past : ℕ) (p : Placed) : Type 0 where
  pub next : NextWord t at p.place past
  pub shows : Shows (bytes_in t p.place past) p.piece

-- the first word at a place or past it is refused
pub record PieceRefused (t : List ℕ) (at : ℕ) (f : Fault) : Type 0 where
  pub from : ℕ
  pub past : ℕ
  pub next : NextWord t at from past
  pub word : WordRefused from (bytes_in t from past) f
