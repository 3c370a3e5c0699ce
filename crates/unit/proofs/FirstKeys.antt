-- Keys pressed one after another on a draft that held no word.
use Rattle.std.proofs.Common.{◌≡◌, ℕ, ◌+◌, ◌<◌, List, [], ◌∷◌, ◌++◌, length, set, sym, ap, ◌∙◌, subst, ⊎_elim, arith}
use Rattle.std.specs.Prelude.{slice_index}
use Rattle.std.proofs.lemmas.Bool.{cases_eq}
use Rattle.std.proofs.lemmas.List.{map_more}
use Rattle.language.specs.Book.{Grammar}
use Rattle.language.specs.Words.{only}
use Rattle.soundbook.specs.Sounds.{sound_meaning}
use Rattle.soundbook.specs.declared.sounds.SoundBook.{SoundBook}
use Rattle.draft.specs.Law.{SameChart, PressAccepts}
use Rattle.draft.specs.States.{DraftState, grammar, words}
use Rattle.unit.specs.declared.presses.PressAnswer.{PressAnswer}
use Rattle.unit.specs.Presses.{first_words, AcceptsKeys, IsAnswer, HoldsAnswers}
use Rattle.unit.specs.Steps.{IsKeyPress}
use Rattle.unit.proofs.Writing.{written_more}

-- the same book and as many places
pub same_rules : (old new : DraftState) → SameChart old new → grammar new ≡ grammar old
same_rules old new same = ap (λ (b : SoundBook). (sound_meaning b).grammar) same.book

pub of_same : (old new : DraftState) → SameChart old new → (P : Grammar → ℕ → Type 0) → P (grammar new) (length new.places) → P (grammar old) (length old.places)
of_same old new same P p = subst (λ g. P g (length old.places)) (same_rules old new same) (subst (P (grammar new)) same.long p)

pub same_more : (old now new : DraftState) → SameChart old now → SameChart now new → SameChart old new
same_more old now new before after = record { book = after.book ∙ before.book; long = after.long ∙ before.long; beyond = after.beyond ∙ before.beyond }

-- the first k keys are pressed, and their answers written
pub record IsPressOfFirst (old now : DraftState) (keys : List ℕ) (k : ℕ) (before after : List PressAnswer) : Type 0 where
  pub same : SameChart old now
  pub accepted : AcceptsKeys (grammar old) (length old.places) keys k
  pub answers : HoldsAnswers (grammar old) keys k before after
  pub words : words now ≡ first_words k keys

module _ (old : DraftState) (keys : List ℕ) (before : List PressAnswer) (now : DraftState) (k : ℕ) (after : List PressAnswer) (pressed : IsPressOfFirst old now keys k before after) where
  pub first_more : k < length keys → (new : DraftState) (a : PressAnswer) → IsKeyPress now new (slice_index keys k) a → IsPressOfFirst old new keys (k + 1) before (set after k a)
  first_more inside new a key =
      let held : words new ≡ first_words (k + 1) keys = key.words ∙ (ap (λ ws. ws ++ (only (slice_index keys k) ∷ [])) pressed.words ∙ sym (map_more only keys k 0 inside)) in
      let accepts : PressAccepts (grammar old) (length old.places) (first_words k keys) (only (slice_index keys k)) =
      of_same old now pressed.same (λ g n. PressAccepts g n (first_words k keys) (only (slice_index keys k))) (subst (λ ws. PressAccepts (grammar now) (length now.places) ws (only (slice_index keys k))) pressed.words key.accepted) in
      record {
        same = same_more old now new pressed.same key.same;
        accepted = λ j l. ⊎_elim
            (λ last. subst (λ i. PressAccepts (grammar old) (length old.places) (first_words i keys) (only (slice_index keys i))) (sym last) accepts)
            (λ earlier. pressed.accepted j (omega (arith, l, earlier)))
            (cases_eq j k);
        answers = written_more (grammar old) keys k before after a pressed.answers
            (subst (λ g. IsAnswer g (first_words (k + 1) keys) a) (same_rules old now pressed.same) (subst (λ ws. IsAnswer (grammar now) ws a) held key.answer));
        words = held;
      }
