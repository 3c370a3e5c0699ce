-- Calls as they are told: a word by the set of keys that it matches.
use Rattle.std.specs.Prelude.{ℕ, Bool, List, Result, Ok, Err, map}
use Rattle.language.specs.Words.{Word}
use Rattle.wording.specs.Sets.{word_of}
use Rattle.dialogue.specs.declared.calls.Call.{Call}
use Rattle.dialogue.specs.declared.calls.Call.TheVariants.{Press, RubOut, Lit, Whole, Reading}
use Rattle.dialogue.specs.declared.calls.Answer.{Answer}
use Rattle.rulebook.specs.declared.faults.Fault.{Fault}
use Rattle.dialogue.specs.declared.calls.Answer.TheVariants.{Refused}
use Rattle.dialogue.specs.declared.calls.Exchange.{Exchange}

-- a call, by the test that tells each word
abbrev pub call_of : {W : Type 0} → (W → ℕ → Bool) → Call W → Call Word
call_of tells (Press w) = Press (word_of (tells w))
call_of tells RubOut = RubOut
call_of tells Lit = Lit
call_of tells Whole = Whole
call_of tells Reading = Reading

-- the calls of exchanges, as they are calls_in, and as they are told; and their answers
abbrev pub calls_in : {W : Type 0} → List (Exchange W) → List (Call W)
calls_in {W} es = map (λ (e : Exchange W). e.call) es

abbrev pub calls_as_sets : {W : Type 0} → (W → ℕ → Bool) → List (Exchange W) → List (Call Word)
calls_as_sets {W} tells es = map (λ (e : Exchange W). call_of tells e.call) es

abbrev pub answers_in : {W : Type 0} → List (Exchange W) → List Answer
answers_in {W} es = map (λ (e : Exchange W). e.answer) es

-- what a call gives is its answer, and so is its refusal
abbrev pub answer_of : Result Answer Fault → Answer
answer_of (Ok a) = a
answer_of (Err f) = Refused f
