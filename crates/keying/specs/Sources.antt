-- What keyin prints, and whether it reads.
use Rattle.std.specs.Prelude.{◌≡◌, ℕ, ◌≤◌, List, length, String, string_bytes, Result, MatchResult, IfOk}
use Rattle.std.specs.IoError.{error_kind}
use Rattle.std.specs.declared.io.Error.{Error}
use Rattle.std.specs.declared.io.ErrorKind.TheVariants.{OutOfMemory}
use Rattle.lines.specs.Columns.{told_fault}
use Rattle.rulebook.specs.declared.faults.Fault.{Fault}
use Rattle.booktext.specs.Text.{text_meaning}
use Rattle.bookreport.specs.Findings.{Accepted, TextRefused}
use Rattle.keying.specs.Keyed.{KeyedIn}

-- the book is refused: its fault is told, unless memory runs out, and nothing is read
pub record BookRefused {R A : Type 0} (b : List ℕ) (old new : R) (r : Result (String A) Error) : Type 0 where
  pub fault : Fault
  pub refused : TextRefused b fault
  pub unread : new ≡ old
  pub said : MatchResult r (λ s. string_bytes s ≡ told_fault fault) (λ e. error_kind e ≡ OutOfMemory)

-- the book is accepted: what is printed is what is said of some text, of which at most 4,097 bytes are read
pub record BookAccepted {A : Type 0} (b : List ℕ) (r : Result (String A) Error) : Type 0 where
  pub accepted : Accepted b
  pub said : IfOk r (λ s. (t : List ℕ) × (length t ≤ 4097) × KeyedIn (text_meaning b) t (string_bytes s))
