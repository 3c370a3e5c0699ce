-- What stands for a file that may be missing.
use Rattle.std.specs.Prelude.{◌≡◌, Ok, Err, Result, Option, MatchResult, MatchOption, IsErrAnd}
use Rattle.std.specs.IoError.{error_kind}
use Rattle.std.specs.declared.io.Error.{Error}
use Rattle.std.specs.declared.io.ErrorKind.TheVariants.{NotFound}

-- the value; or none, and the error was that there is no such file; or another error, as it was
abbrev pub Present : {T : Type 0} → Result T Error → Result (Option T) Error → Type 0
Present opened r = MatchResult r (λ o. MatchOption o (IsErrAnd opened (λ e. error_kind e ≡ NotFound)) (λ v. opened ≡ Ok v)) (λ e. (opened ≡ Err e) × (error_kind e ≡ NotFound → ⊥))
