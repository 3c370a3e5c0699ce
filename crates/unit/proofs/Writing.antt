-- Answers written into places, one after another.
use Rattle.std.proofs.Common.{◌≡◌, ℕ, ◌+◌, ◌<◌, List, length, get_or, set, drop, Some, sym, ap, ◌∙◌, subst, ⊎_elim, arith, get_or-set_same}
use Rattle.std.proofs.lemmas.Bool.{cases_eq}
use Rattle.std.proofs.lemmas.List.{length-set, drop-drop, drop-set-lt, get_or-set_other}
use Rattle.std.proofs.lemmas.Option.{slice_get_within, get_or_from_slice_get, slice_get-get_or}
use Rattle.language.specs.Book.{Grammar}
use Rattle.unit.specs.declared.presses.PressAnswer.{PressAnswer}
use Rattle.unit.specs.Presses.{first_words, IsAnswer, HoldsAnswers}

module _ (g : Grammar) (keys : List ℕ) where
  pub written_more : (k : ℕ) (old now : List PressAnswer) (x : PressAnswer) → HoldsAnswers g keys k old now → IsAnswer g (first_words (k + 1) keys) x → HoldsAnswers g keys (k + 1) old (set now k x)
  written_more k old now x before is = record {
    long = length-set now k x ∙ before.long;
    answers = λ j a l h.
        let within : j < length now = omega (arith, slice_get_within (set now k x) j a h, length-set now k x) in
        let at : get_or (set now k x) j x ≡ a = get_or_from_slice_get (set now k x) j a x h in
        ⊎_elim
        (λ same. subst (λ i. IsAnswer g (first_words (i + 1) keys) a) (sym same) (subst (IsAnswer g (first_words (k + 1) keys))
        (sym (get_or-set_same now k x x (omega (arith, same, within))) ∙ (ap (λ i. get_or (set now k x) i x) (sym same) ∙ at)) is))
        (λ other. before.answers j a (omega (arith, l, other)) (slice_get-get_or now j x within ∙ ap Some (sym (get_or-set_other now k j x x other) ∙ at)))
        (cases_eq j k);
    others =
        drop-set-lt (k + 1) now k x (omega arith)
        ∙ (sym (drop-drop 1 k now)
        ∙ (ap (drop 1) before.others
        ∙ drop-drop 1 k old));
  }
