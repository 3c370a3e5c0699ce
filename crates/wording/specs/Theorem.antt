-- What is said of a text is said of it in one way.
use Rattle.std.specs.Prelude.{◌≡◌, ℕ, List}
use Rattle.rulebook.specs.declared.faults.Fault.{Fault}
use Rattle.wording.specs.Pieces.{Shows, WordRefused}
use Rattle.wording.specs.Runs.{NextWord}
use Rattle.wording.specs.declared.pieces.Piece.{Piece}

-- there is one next word, it is refused for one reason at most, and none is both refused and shown by a piece
pub record WordIs (t : List ℕ) : Type 0 where
  pub next : (at from past from' past' : ℕ) → NextWord t at from past → NextWord t at from' past' → (from ≡ from') × (past ≡ past')
  pub one : (from : ℕ) (f h : Fault) → WordRefused from t f → WordRefused from t h → f ≡ h
  pub apart : (from : ℕ) (p : Piece) (f : Fault) → Shows t p → WordRefused from t f → ⊥

abbrev pub WordTheorem : Type 0
WordTheorem = (t : List ℕ) → WordIs t
