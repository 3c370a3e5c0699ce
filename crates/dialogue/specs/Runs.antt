-- The law of a run: what each call answers and leaves, and what is seen before and after each.
use Rattle.std.specs.Prelude.{◌≡◌, ℕ, suc, ◌<◌, ◌≤◌, false, ◌⊎◌, List, ◌++◌, length, slice_index_or}
use Rattle.language.specs.Words.{Word}
use Rattle.language.specs.Readings.{Item}
use Rattle.rulebook.specs.declared.faults.Fault.{Fault}
use Rattle.soundbook.specs.declared.sounds.SoundBook.{SoundBook}
use Rattle.draft.specs.declared.lit_set.LitSet.{LitSet}
use Rattle.draft.specs.States.{DraftState, grammar, words}
use Rattle.draft.specs.Law.{IsLawful, IsNew, SameChart, PressTaken, PressRefused, RubOutTaken, RubOutRefused, LitIs}
use Rattle.reading.specs.Written.{ReadingWritten, ReadingRefused}
use Rattle.dialogue.specs.declared.calls.Call.{Call}
use Rattle.dialogue.specs.declared.calls.Call.TheVariants.{Press, RubOut, Lit, Whole, Reading}
use Rattle.dialogue.specs.declared.calls.Answer.{Answer}
use Rattle.dialogue.specs.declared.calls.Answer.TheVariants.{Items, Keys, Yes, Moves, Refused}

-- what is seen between two calls: the draft, and the strip
pub record RunState : Type 0 where
  pub draft : DraftState
  pub strip : List ℕ

abbrev pub run_state : DraftState → List ℕ → RunState
run_state d s = record { draft = d; strip = s }

-- A call is answered with what it gives, or refused; taken and refused say what then holds.
abbrev pub AnswerIs : {A : Type 0} → (A → Answer) → (A → Type 0) → (Fault → Type 0) → Answer → Type 0
AnswerIs {A} gives taken refused a = ((x : A) × taken x × (a ≡ gives x)) ⊎ ((f : Fault) × refused f × (a ≡ Refused f))

-- what each call answers, and what it leaves
abbrev pub CallLaw : RunState → Call Word → Answer → RunState → Type 0
CallLaw old (Press w) a new = AnswerIs Items (PressTaken old.draft new.draft w) (PressRefused old.draft new.draft w) a × (new.strip ≡ old.strip)
CallLaw old RubOut a new = AnswerIs Items (RubOutTaken old.draft new.draft) (RubOutRefused old.draft new.draft) a × (new.strip ≡ old.strip)
CallLaw old Lit a new = ((l : LitSet) × LitIs old.draft l × (a ≡ Keys l)) × (new ≡ old)
CallLaw old Whole a new = (a ≡ Yes old.draft.whole) × (new ≡ old)
CallLaw old Reading a new =
    AnswerIs Moves (ReadingWritten (grammar old.draft) (words old.draft) old.strip new.strip) (λ f. ReadingRefused (grammar old.draft) (words old.draft) (length old.strip) f × (new.strip ≡ old.strip)) a
    × (new.draft ≡ old.draft)

-- the call of a number, counted from 0, and its answer
abbrev pub call_at : List (Call Word) → ℕ → Call Word
call_at calls k = slice_index_or calls k Lit

abbrev pub answer_at : List Answer → ℕ → Answer
answer_at answers k = slice_index_or answers k (Yes false)

-- The law. Of calls made one after another on a new draft of a sound book, over this chart and with this strip, with their
-- answers, and the chart and the strip as they are handed back:
pub record RunLaw (book : SoundBook) (chart : List Item) (strip : List ℕ) (calls : List (Call Word)) (answers : List Answer) (chart_left : List Item) (strip_left : List ℕ) : Type 0 where
  -- there is a state before the first call, one between any two, and one after the last
  pub state : ℕ → RunState
  -- each call is answered
  pub answered : length answers ≡ length calls
  -- at first the draft is new, and the strip is as it was
  pub first : IsNew book chart (state 0).draft
  pub first_strip : (state 0).strip ≡ strip
  -- in each state the draft shows exactly what the words held ask for, and all else of its chart is as at first
  pub lawful : (k : ℕ) → k ≤ length calls → IsLawful (state k).draft
  pub same : (k : ℕ) → k ≤ length calls → SameChart (state 0).draft (state k).draft
  -- each call leads from one state to the next
  pub call : (k : ℕ) → k < length calls → CallLaw (state k) (call_at calls k) (answer_at answers k) (state (suc k))
  -- a refused call changes nothing
  pub refused : (k : ℕ) (f : Fault) → k < length calls → answer_at answers k ≡ Refused f → state (suc k) ≡ state k
  -- the last state is what is handed back
  pub last : (state (length calls)).draft.places ++ (state (length calls)).draft.beyond ≡ chart_left
  pub last_strip : (state (length calls)).strip ≡ strip_left
