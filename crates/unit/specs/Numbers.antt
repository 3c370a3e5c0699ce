-- The number that a call answers.
use Rattle.std.specs.Prelude.{ℕ, Result, Ok, Err}
use Rattle.rulebook.specs.Fault.{number_of}
use Rattle.unit.specs.declared.failures.Failure.{Failure}
use Rattle.unit.specs.declared.failures.Failure.TheVariants.{Refused, OutOfMemory}
use Rattle.unit.specs.declared.failures.TheConstants.{OUT_OF_MEMORY}

-- 0 where all went well, the number of the fault that refused, or that of no memory
abbrev pub number : Result (Unit {0}) Failure → ℕ
number (Ok x) = 0
number (Err (Refused f)) = number_of f
number (Err OutOfMemory) = OUT_OF_MEMORY
