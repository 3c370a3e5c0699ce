-- Prefixes of the words held, and first readings of them.
use Rattle.std.specs.Prelude.{Result, Ok, Err, MatchResult, is_err}
use Rattle.std.proofs.Common.{◌≡◌, ℕ, ◌+◌, ◌≤◌, false, List, [], ◌∷◌, length, take, sym, ap, ◌∙◌, subst, ⊎_elim, arith, length-append}
use Rattle.std.proofs.Math.Seq.{take-length}
use Rattle.std.proofs.lemmas.Bool.{cases_eq}
use Rattle.std.proofs.lemmas.List.{take-take, take-append-le}
use Rattle.language.specs.Words.{Word}
use Rattle.language.specs.Readings.{Programme}
use Rattle.rulebook.specs.declared.faults.Fault.{Fault}
use Rattle.draft.specs.Law.{RubOutTaken}
use Rattle.draft.specs.States.{DraftState, grammar, words}
use Rattle.unit.specs.Steps.{HoldsPrefix, HoldsLongest}
use Rattle.unit.proofs.FirstKeys.{same_rules, same_more}

module _ (old now : DraftState) (held : HoldsPrefix old now) where
  of_held : (ws : List Word) → Programme (grammar old) ws → Programme (grammar now) ws
  of_held ws = subst (λ g. Programme g ws) (sym (same_rules old now held.same))

  pub prefix_longest : Programme (grammar now) (words now) → HoldsLongest old now
  prefix_longest p = record { held = held; programme = subst (λ g. Programme g (words now)) (same_rules old now held.same) p }

  module _ (none : Programme (grammar now) (words now) → ⊥) where
    -- nor are those held
    no_more : (n : ℕ) → length (words now) ≤ n → n ≤ length (words old) → Programme (grammar old) (take n (words old)) → ⊥
    no_more n low high p = ⊎_elim
        (λ same. none (subst (Programme (grammar now)) (ap (λ k. take k (words old)) same ∙ sym held.prefix) (of_held _ p)))
        (λ other. held.longest n (omega (arith, low, other)) high p)
        (cases_eq n (length (words now)))

    pub prefix_less : (new : DraftState) (n : ℕ) → RubOutTaken now new n → HoldsPrefix old new
    prefix_less new n taken =
        let one : length (words now) ≡ length (words new) + 1 = ap length taken.words ∙ length-append (words new) (taken.last ∷ []) in
        record {
          prefix =
              sym (take-length (words new))
              ∙ (sym (take-append-le (length (words new)) (words new) (taken.last ∷ []) (omega arith))
              ∙ (ap (take (length (words new))) (sym taken.words ∙ held.prefix)
              ∙ take-take (length (words new)) (length (words now)) (words old) (omega (arith, one))));
          few = omega (arith, one, held.few);
          longest = λ m low high. no_more m (omega (arith, low, one)) high;
          same = same_more old now new held.same taken.same;
        }

-- a call that is not refused
pub ok_taken : (r : Result ℕ Fault) (P : ℕ → Type 0) (Q : Fault → Type 0) → MatchResult r P Q → is_err r ≡ false → (n : ℕ) × P n
ok_taken (Ok n) P Q m e = (n, m)
ok_taken (Err f) P Q m e = cc
