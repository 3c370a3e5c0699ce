-- Moves one after another, and what refuses them.
use Rattle.std.proofs.Common.{◌≡◌, ℕ, ◌+◌, ◌<◌, ◌≤◌, true, List, [], map, length, take, slice_index, Option as Maybe, Some, refl, sym, ap, ◌∙◌, subst, ⊎_elim, arith}
use Rattle.std.proofs.Math.Option.{Option, some}
use Rattle.std.proofs.lemmas.List.{take_all, length-map, length-reverse, length-take-le}
use Rattle.std.proofs.lemmas.Bool.{cases_lt}
use Rattle.language.specs.Book.{Grammar}
use Rattle.language.specs.Words.{Word}
use Rattle.language.specs.Machine.{Entry, word, Awaited, State, stacks, step, steps, initial}
use Rattle.language.proofs.Moves.First.{part_under}
use Rattle.language.proofs.Moves.Fronts.{front_of, one_more}
use Rattle.rulebook.specs.declared.faults.Fault.{Fault}
use Rattle.rulebook.specs.declared.faults.Fault.TheVariants.{StacksLeft, StackFull}
use Rattle.reading.specs.declared.stacks.Blank.{Ghosts}
use Rattle.reading.specs.declared.stacks.Stack.{Stack}
use Rattle.reading.specs.Machines.{awaited, above, rooms_of, symbol_on_top, Barred, not_allowed, no_room}
use Rattle.reading.specs.Replays.{Rooms, rooms, StateFits, Leads, ReplayAccepted, ReplayRefused, start, barred, full, left}
use Rattle.reading.specs.Stacks.{stacked, places, SameRoom}

-- rooms stay the same from call to call
pub room_on : {b : Ghosts ℕ} {s t u : Stack ℕ b} → SameRoom s t → SameRoom t u → SameRoom s u
room_on p q = record { name = q.name ∙ p.name; places = q.places ∙ p.places }

pub same_rooms : {b : Ghosts ℕ} {s t u v : Stack ℕ b} → SameRoom s t → SameRoom u v → rooms_of t v ≡ rooms_of s u
same_rooms p q = rw (p.places, q.places) refl

-- the rooms of two stacks by the places that were lent, where the first stack was used meanwhile
pub lent_rooms : {b : Ghosts ℕ} {s t : Stack ℕ b} {n k : ℕ} (u : Stack ℕ b) → SameRoom s t → places s ≡ n → places u ≡ k → rooms_of t u ≡ rooms n k
lent_rooms u p e f = rw (p.places, e, f) refl

-- no more elements stand on a stack than there are places
stacked_short : {b : Ghosts ℕ} (s : Stack ℕ b) → length (stacked s) ≤ places s
stacked_short s = omega (arith, length-reverse (take s.len s.room.now), length-take-le s.len s.room.now s.within, s.within)

-- so they fit their rooms
pub stacks_fit : {b : Ghosts ℕ} (es : List Entry) (second third : Stack ℕ b) → StateFits (rooms_of second third) (stacks es (map awaited (stacked second)) (stacked third))
stacks_fit es second third = record {
  second = omega (arith, length-map (stacked second) awaited, stacked_short second);
  third = stacked_short third;
}

module _ (g : Grammar) (ws : List Word) (room : Rooms) where
  -- one move more or a refusal, told by another name of the book and of the rooms
  module _ (k : Grammar) (same : k ≡ g) (room' : Rooms) (alike : room' ≡ room) (ns : List ℕ) (at : ℕ) (s : State) (leads : Leads g ws room (take at ns) s) (below : at < length ns) where
    pub leads_more : (t : State) → step k s (slice_index ns at) ≡ some t → StateFits room' t → Leads g ws room (take (at + 1) ns) t
    leads_more t e fits = record { to = led; fit = fit }
      where
        led : steps g (some (initial g ws)) (take (at + 1) ns) ≡ some t
        led = one_more g (some (initial g ws)) at ns s below leads.to ∙ subst (λ h. step h s (slice_index ns at) ≡ some t) same e

        last : (j : ℕ) (u : State) → steps g (some (initial g ws)) (take j (take (at + 1) ns)) ≡ some u → at < j → t ≡ u
        last j u h l =
            let all : take j (take (at + 1) ns) ≡ take (at + 1) ns = take_all j _ (omega (arith, length-take-le (at + 1) ns (omega arith))) in
            let there : some t ≡ some u = sym led ∙ (ap (steps g (some (initial g ws))) (sym all) ∙ h) in
            cc

        earlier : (j : ℕ) → j ≤ at → take j (take at ns) ≡ take j (take (at + 1) ns)
        earlier j l = front_of j at ns l ∙ sym (front_of j (at + 1) ns (omega arith))

        fit : (j : ℕ) (u : State) → steps g (some (initial g ws)) (take j (take (at + 1) ns)) ≡ some u → StateFits room u
        fit j u h = ⊎_elim
            (λ l. subst (StateFits room) (last j u h l) (subst (λ p. StateFits p t) alike fits))
            (λ l. leads.fit j u (ap (steps g (some (initial g ws))) (earlier j l) ∙ h))
            (cases_lt at j)

    pub refused_at : (f : Fault) → Barred room' (step k s (slice_index ns at)) (at + 1) f → ReplayRefused g ws room ns f
    refused_at f b =
        let n = slice_index ns at in
        by (step g s n) refl f (subst (λ p. Barred p (step g s n) (at + 1) f) alike (subst (λ h. Barred room' (step h s n) (at + 1) f) same b))
      where
        by : (o : Option State) → step g s (slice_index ns at) ≡ o → (f : Fault) → Barred room o (at + 1) f → ReplayRefused g ws room ns f
        by o e f (not_allowed no_step) = barred at s below leads (e ∙ no_step)
        by o e f (no_room t to over) = full at s t below leads (e ∙ to) over

  -- with a part on the first stack, a symbol is on top of the second
  pub part_symbol : (ns : List ℕ) (X : ℕ) (d : Maybe ℕ) (us : List Word) (bs : List Awaited) (ls : List ℕ) → Leads g ws room ns (stacks (above d us) bs ls) → d ≡ Some X
      → symbol_on_top bs ≡ true
  part_symbol ns X d us bs ls leads e =
      let u = part_under g ws ns X (map word us) bs ls (leads.to ∙ ap (λ x. some (stacks (above x us) bs ls)) e) in
      subst (λ cs. symbol_on_top cs ≡ true) (sym u.2) refl

-- the moves are judged by what they lead to, told by other names of the book, the words and the rooms
module _ (g k : Grammar) (same : k ≡ g) (ws us : List Word) (read : us ≡ ws) (room room' : Rooms) (alike : room' ≡ room) (ns : List ℕ) (s : State)
    (leads : Leads k us room' ns s) where
  leads_to : Leads g ws room ns s
  leads_to = subst (λ h. Leads h ws room ns s) same (subst (λ vs. Leads k vs room ns s) read (subst (λ p. Leads k us p ns s) alike leads))

  pub all_empty : s ≡ stacks [] [] [] → ReplayAccepted g ws room ns
  all_empty e = record { run = leads_to.to ∙ ap some e; fit = leads_to.fit }

  pub some_left : (s ≡ stacks [] [] [] → ⊥) → ReplayRefused g ws room ns (StacksLeft (length ns))
  some_left n = left s leads_to n

-- or the start symbol does not fit
pub start_short : (g : Grammar) (ws : List Word) (room : Rooms) (ns : List ℕ) (f : Fault) → f ≡ StackFull 0 → room.second ≤ 0 → ReplayRefused g ws room ns f
start_short g ws room ns f e h = subst (ReplayRefused g ws room ns) (sym e) (start (λ fits. omega (arith, fits.second)))
