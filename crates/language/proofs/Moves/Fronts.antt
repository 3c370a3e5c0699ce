-- Where the first of some moves lead.
use Rattle.std.proofs.Common.{◌≡◌, ℕ, add-one, ◌+◌, ◌<◌, ◌≤◌, List, [], ◌∷◌, ◌++◌, length, take, drop, slice_index, refl, sym, ap, ◌∙◌, ⊎_elim, arith}
use Rattle.std.proofs.Math.Seq.{take-suc}
use Rattle.std.proofs.lemmas.List.{length-take-le, take-append-drop, take-append-le, take_all}
use Rattle.std.proofs.lemmas.Bool.{cases_lt}
use mathlib.Core.Option.{Option, some, none}
use Rattle.language.specs.Book.{Grammar}
use Rattle.language.specs.Machine.{State, step, steps, after}
use Rattle.language.proofs.Moves.Steps.{steps_append}

-- a list with an element is not empty
pub cons_apart : {A : Type 0} (x : A) (xs : List A) → x ∷ xs ≡ [] → ⊥
cons_apart x xs e = let z : ◌≡◌ {A = ℕ} 0 1 = cc in omega arith

-- a state is not none
pub none_apart : (s : State) → none ≡ some s → ⊥
none_apart s e = let z : ◌≡◌ {A = ℕ} 0 1 = cc in omega arith

-- the first of the first moves
pub front_of : (j k : ℕ) (ns : List ℕ) → j ≤ k → take j (take k ns) ≡ take j ns
front_of j k ns h = ⊎_elim
    (λ l.
    let low : j ≤ length (take k ns) = omega (arith, length-take-le k ns (omega arith)) in
    sym (ap (take j) (sym (take-append-drop k ns)) ∙ take-append-le j (take k ns) (drop k ns) low))
    (λ l. ap (take j) (take_all k ns l))
    (cases_lt k (length ns))

module _ (g : Grammar) where
  -- no moves lead on from a refused one
  pub none_on : (ns : List ℕ) (s : State) → steps g none ns ≡ some s → ⊥
  none_on [] s h = none_apart s h
  none_on (n ∷ ns) s h = none_on ns s h

  -- so the first of moves that lead somewhere lead somewhere
  pub front_leads : (o : Option State) (j k : ℕ) (ns : List ℕ) (s : State) → j ≤ k → steps g o (take k ns) ≡ some s → (u : State) × (steps g o (take j ns) ≡ some u)
  front_leads o j k ns s h e = by (steps g o (take j ns)) refl
    where
      rest : List ℕ
      rest = drop j (take k ns)

      cut : take k ns ≡ take j ns ++ rest
      cut = sym (take-append-drop j (take k ns)) ∙ ap (λ x. x ++ drop j (take k ns)) (front_of j k ns h)

      by : (r : Option State) → steps g o (take j ns) ≡ r → (u : State) × (steps g o (take j ns) ≡ some u)
      by none f = absurd (none_on rest s (ap (λ x. steps g x rest) (sym f) ∙ (sym (steps_append g o (take j ns) rest) ∙ (ap (steps g o) (sym cut) ∙ e))))
      by (some u) f = (u, f)

  -- one move more
  pub one_more : (o : Option State) (k : ℕ) (ns : List ℕ) (s : State) → k < length ns → steps g o (take k ns) ≡ some s → steps g o (take (k + 1) ns) ≡ step g s (slice_index ns k)
  one_more o k ns s h e =
      ap (λ j. steps g o (take j ns)) (add-one k)
      ∙ (ap (steps g o) (take-suc ns k 0 h)
      ∙ (steps_append g o (take k ns) (slice_index ns k ∷ []) ∙ ap (λ x. after g x (slice_index ns k)) e))
