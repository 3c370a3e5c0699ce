-- Moves are refused for one reason at most, and none are both accepted and refused.
use Rattle.std.proofs.Common.{◌≡◌, ℕ, ◌+◌, ◌<◌, ◌≤◌, List, [], length, take, refl, sym, ap, ◌∙◌, subst, ⊎_elim, arith}
use Rattle.std.proofs.Math.Option.{Option, some, none}
use Rattle.std.proofs.lemmas.List.{take_all}
use Rattle.std.proofs.lemmas.Bool.{cases_lt}
use Rattle.language.specs.Book.{Grammar}
use Rattle.language.specs.Words.{Word}
use Rattle.language.specs.Machine.{State, stacks, steps, initial, Complete}
use Rattle.language.proofs.Moves.Back.{run_theorem}
use Rattle.language.proofs.Moves.Theorem.{moves_theorem}
use Rattle.language.proofs.Moves.Fronts.{front_leads, front_of, none_apart, one_more}
use Rattle.rulebook.specs.declared.faults.Fault.{Fault}
use Rattle.rulebook.specs.declared.faults.Fault.TheVariants.{MoveRefused, StacksLeft, StackFull}
use Rattle.reading.specs.Replays.{Rooms, StateFits, Leads, ReplayAccepted, ReplayRefused, start, barred, full, left, ReplayTheorem}

module _ (g : Grammar) (ws : List Word) (room : Rooms) (ns : List ℕ) where
  abbrev to : ℕ → Option State
  to k = steps g (some (initial g ws)) (take k ns)

  -- after this many moves, and after all fewer, the machine is in a state that fits
  abbrev Goes : ℕ → Type 0
  Goes k = (j : ℕ) → j ≤ k → (u : State) × (to j ≡ some u) × StateFits room u

  -- after one move more it is in none
  abbrev Stops : ℕ → Type 0
  Stops k = (u : State) → to (k + 1) ≡ some u → StateFits room u → ⊥

  goes : (k : ℕ) (s : State) → Leads g ws room (take k ns) s → Goes k
  goes k s l j h =
      let u = front_leads g (some (initial g ws)) j k ns s h l.to in
      (u.0, u.1, l.fit j u.0 (ap (steps g (some (initial g ws))) (front_of j k ns h) ∙ u.1))

  -- so another refusal stops the moves at the same place
  apart_at : (k j : ℕ) → Stops k → Goes j → j < k + 1
  apart_at k j s g = ⊎_elim (λ l. l) (λ h. let u = g (k + 1) h in absurd (s u.0 u.1 u.2)) (cases_lt j (k + 1))

  same_at : (k j : ℕ) → Goes k → Stops k → Goes j → Stops j → k ≡ j
  same_at k j gk sk gj sj = omega (arith, apart_at k j sk gj, apart_at j k sj gk)

  barred_stops : (k : ℕ) → to (k + 1) ≡ none → Stops k
  barred_stops k e u h f = none_apart u (sym e ∙ h)

  full_stops : (k : ℕ) (t : State) → to (k + 1) ≡ some t → (StateFits room t → ⊥) → Stops k
  full_stops k t e n u h f = let z : some u ≡ some t = sym h ∙ e in let same : u ≡ t = cc in n (subst (StateFits room) same f)

  -- what a refusal says: of the start symbol, of a move, or of the end
  data Said : Fault → Type 0 where
    no_start : (StateFits room (initial g ws) → ⊥) → Said (StackFull 0)
    no_move : (k : ℕ) → k < length ns → Goes k → to (k + 1) ≡ none → Said (MoveRefused (k + 1))
    no_space : (k : ℕ) (t : State) → k < length ns → Goes k → to (k + 1) ≡ some t → (StateFits room t → ⊥) → Said (StackFull (k + 1))
    no_end : (s : State) → Goes (length ns) → steps g (some (initial g ws)) ns ≡ some s → (s ≡ stacks [] [] [] → ⊥) → Said (StacksLeft (length ns))

  goes_all : (s : State) → Leads g ws room ns s → Goes (length ns)
  goes_all s l = goes (length ns) s (subst (λ ms. Leads g ws room ms s) (sym (take_all (length ns) ns (omega arith))) l)

  said : (f : Fault) → ReplayRefused g ws room ns f → Said f
  said f (start n) = no_start n
  said f (barred k s h l e) = no_move k h (goes k s l) (one_more g (some (initial g ws)) k ns s h l.to ∙ e)
  said f (full k s t h l e n) = no_space k t h (goes k s l) (one_more g (some (initial g ws)) k ns s h l.to ∙ e) n
  said f (left s l n) = no_end s (goes_all s l) l.to n

  started : (k : ℕ) → Goes k → (StateFits room (initial g ws) → ⊥) → ⊥
  started k gk n = let u = gk 0 (omega arith) in let same : some (initial g ws) ≡ some u.0 = u.1 in let s : u.0 ≡ initial g ws = cc in n (subst (StateFits room) s u.2)

  -- none stops before the end where all goes
  ended : {A : Type 0} (k : ℕ) → k < length ns → Stops k → Goes (length ns) → A
  ended k h s a = absurd (omega (arith, apart_at k (length ns) s a))

  both : {A : Type 0} (k j : ℕ) (t : State) → Goes k → Goes j → to (k + 1) ≡ none → to (j + 1) ≡ some t → (StateFits room t → ⊥) → A
  both k j t gk gj e d n =
      let same = same_at k j gk (barred_stops k e) gj (full_stops j t d n) in
      absurd (none_apart t (sym e ∙ (ap (λ x. to (x + 1)) same ∙ d)))

  one_said : (f h : Fault) → Said f → Said h → f ≡ h
  one_said f h (no_start n) (no_start m) = refl
  one_said f h (no_start n) (no_move k l a e) = absurd (started k a n)
  one_said f h (no_start n) (no_space k t l a e m) = absurd (started k a n)
  one_said f h (no_start n) (no_end s a e m) = absurd (started (length ns) a n)
  one_said f h (no_move k l a e) (no_start n) = absurd (started k a n)
  one_said f h (no_move k l a e) (no_move j m b d) = ap (λ x. MoveRefused (x + 1)) (same_at k j a (barred_stops k e) b (barred_stops j d))
  one_said f h (no_move k l a e) (no_space j t m b d n) = both k j t a b e d n
  one_said f h (no_move k l a e) (no_end s b d n) = ended k l (barred_stops k e) b
  one_said f h (no_space k t l a e m) (no_start n) = absurd (started k a n)
  one_said f h (no_space k t l a e m) (no_move j i b d) = both j k t b a d e m
  one_said f h (no_space k t l a e m) (no_space j u i b d n) = ap (λ x. StackFull (x + 1)) (same_at k j a (full_stops k t e m) b (full_stops j u d n))
  one_said f h (no_space k t l a e m) (no_end s b d n) = ended k l (full_stops k t e m) b
  one_said f h (no_end s a e m) (no_start n) = absurd (started (length ns) a n)
  one_said f h (no_end s a e m) (no_move j i b d) = ended j i (barred_stops j d) a
  one_said f h (no_end s a e m) (no_space j t i b d n) = ended j i (full_stops j t d n) a
  one_said f h (no_end s a e m) (no_end t b d n) = refl

  -- and an accepted run does not stop
  accepted_apart : (f : Fault) → ReplayAccepted g ws room ns → Said f → ⊥
  accepted_apart f c s = by f s
    where
      all : Goes (length ns)
      all = goes_all (stacks [] [] []) (record { to = c.run; fit = c.fit })

      by : (f : Fault) → Said f → ⊥
      by f (no_start n) = started (length ns) all n
      by f (no_move k l a e) = ended k l (barred_stops k e) all
      by f (no_space k t l a e n) = ended k l (full_stops k t e n) all
      by f (no_end s a e n) = let z : some (stacks [] [] []) ≡ some s = sym c.run ∙ e in let same : s ≡ stacks [] [] [] = cc in n same

pub replay_theorem : ReplayTheorem
replay_theorem m sound ws room ns = record {
  one = λ f h p q. one_said m.grammar ws room ns f h (said m.grammar ws room ns f p) (said m.grammar ws room ns h q);
  apart = λ f c p. accepted_apart m.grammar ws room ns f c (said m.grammar ws room ns f p);
  read = λ c. run_theorem m sound ws ns c.run;
  all = λ t e fit. record { run = subst (Complete m.grammar ws) e (moves_theorem m sound ws t).run; fit = fit };
}
