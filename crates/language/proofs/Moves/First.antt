-- The first stack holds at most one part, above the words not yet read.
--
-- A part gets there when an end mark goes, and under an end mark a symbol to come stands. So it is taken off before another
-- end mark is on top.
use Rattle.std.proofs.Common.{◌≡◌, ℕ, zero, suc, List, [], ◌∷◌, ◌++◌, map, drop, refl, ap, subst, arith}
use mathlib.Core.Option.{Option, some, none}
use Rattle.std.proofs.lemmas.Bool.{cond_both}
use Rattle.language.specs.Book.{Grammar, right, symbol}
use Rattle.language.specs.Words.{Word}
use Rattle.language.specs.Machine.{Entry, word, done, Awaited, next, end, State, stacks, agrees, reduce, move, remove, step, after, steps, initial}
use Rattle.language.specs.FirstStack.{OnePart, no_part, one_part, FirstStackTheorem}
use Rattle.language.proofs.Moves.Allowed.{step_cases}
use Rattle.language.proofs.Moves.Fronts.{cons_apart, none_apart}

-- directly under each end mark stands a symbol to come
abbrev Marked : List Awaited → Type 0
Marked [] = Unit {0}
Marked (next B ∷ bs) = Marked bs
Marked (end ∷ []) = ⊥
Marked (end ∷ (end ∷ bs)) = ⊥
Marked (end ∷ (next B ∷ bs)) = Marked bs

-- the rest of a rule may be put over an end mark
marked_over : (cs : List ℕ) (B : ℕ) (bs : List Awaited) → Marked bs → Marked (map next cs ++ (end ∷ next B ∷ bs))
marked_over [] B bs m = m
marked_over (c ∷ cs) B bs m = marked_over cs B bs m

-- what is under an end mark is marked
marked_under : (bs : List Awaited) → Marked (end ∷ bs) → Marked bs
marked_under [] m = absurd m
marked_under (end ∷ bs) m = absurd m
marked_under (next B ∷ bs) m = m

-- behind the first of the words from place k on stand those from the place after it on
behind_first : (k : ℕ) (ws : List Word) (e : Entry) (es : List Entry) → e ∷ es ≡ map word (drop k ws) → es ≡ map word (drop (suc k) ws)
behind_first zero [] e es h = absurd (cons_apart e es h)
behind_first zero (w ∷ ws) e es h = cc
behind_first (suc k) [] e es h = absurd (cons_apart e es h)
behind_first (suc k) (w ∷ ws) e es h = behind_first k ws e es h

module _ (g : Grammar) (ws : List Word) where
  -- with a part on the first stack, a symbol to come is on top of the second
  data Orderly (es : List Entry) (bs : List Awaited) : Type 0 where
    words_top : (k : ℕ) → es ≡ map word (drop k ws) → Marked bs → Orderly es bs
    part_top : (X k : ℕ) → es ≡ done X ∷ map word (drop k ws) → Marked (end ∷ bs) → Orderly es bs

  -- so it is where a step leads
  abbrev Kept : Option State → Type 0
  Kept o = (t : State) → o ≡ some t → Orderly t.first t.second

  kept_none : Kept none
  kept_none t e = absurd (none_apart t e)

  kept_some : (es : List Entry) (bs : List Awaited) (ls : List ℕ) → Orderly es bs → Kept (some (stacks es bs ls))
  kept_some es bs ls o t e = let same : stacks es bs ls ≡ t = cc in subst (λ s. Orderly s.first s.second) same o

  -- with the first entry taken off, words are left
  taken_off : (e : Entry) (es : List Entry) (bs cs : List Awaited) → Orderly (e ∷ es) bs → Marked cs → Orderly es cs
  taken_off e es bs cs (words_top k h m) c = words_top (suc k) (behind_first k ws e es h) c
  taken_off e es bs cs (part_top X k h m) c = let tail : es ≡ map word (drop k ws) = cc in words_top k tail c

  marked_second : (es : List Entry) (bs : List Awaited) → Orderly es bs → Marked bs
  marked_second es bs (words_top k h m) = m
  marked_second es bs (part_top X k h m) = marked_under bs m

  kept_move : (es : List Entry) (bs : List Awaited) (ls : List ℕ) → Orderly es bs → Kept (move es bs ls)
  kept_move es [] ls o = kept_none
  kept_move es (next B ∷ bs) ls o = kept_none
  kept_move es (end ∷ bs) [] o = kept_none
  kept_move es (end ∷ bs) (A ∷ ls) (words_top k h m) = kept_some _ _ _ (part_top A k (ap (λ x. done A ∷ x) h) m)
  kept_move es (end ∷ bs) (A ∷ ls) (part_top X k h m) = absurd m

  kept_remove : (es : List Entry) (bs : List Awaited) (ls : List ℕ) → Orderly es bs → Kept (remove g es bs ls)
  kept_remove [] bs ls o = kept_none
  kept_remove (e ∷ es) [] ls o = kept_none
  kept_remove (e ∷ es) (end ∷ bs) ls o = kept_none
  kept_remove (e ∷ es) (next B ∷ bs) ls o =
      cond_both (agrees g e B) _ _ Kept (λ a. kept_some es bs ls (taken_off e es (next B ∷ bs) bs o (marked_second (e ∷ es) (next B ∷ bs) o))) (λ a. kept_none)

  kept_reduce : (r : ℕ) (es : List Entry) (bs : List Awaited) (ls : List ℕ) → Orderly es bs → Kept (reduce g r es bs ls)
  kept_reduce r [] bs ls o = kept_none
  kept_reduce r (e ∷ es) [] ls o = kept_none
  kept_reduce r (e ∷ es) (end ∷ bs) ls o = kept_none
  kept_reduce r (e ∷ es) (next B ∷ bs) ls o =
      let over = marked_over (drop 1 (right g r)) B bs (marked_second (e ∷ es) (next B ∷ bs) o) in
      cond_both (agrees g e (symbol g r 0)) _ _ Kept (λ a. kept_some es _ _ (taken_off e es (next B ∷ bs) _ o over)) (λ a. kept_none)

  kept_step : (s : State) (n : ℕ) → Orderly s.first s.second → Kept (step g s n)
  kept_step s n o = step_cases g s n Kept (λ z. kept_move _ _ _ o) (λ z. kept_remove _ _ _ o) (λ z. kept_reduce n _ _ _ o) kept_none

  kept_after : (o : Option State) (n : ℕ) → Kept o → Kept (after g o n)
  kept_after none n k = kept_none
  kept_after (some s) n k = kept_step s n (k s refl)

  kept_steps : (ns : List ℕ) (o : Option State) → Kept o → Kept (steps g o ns)
  kept_steps [] o k = k
  kept_steps (n ∷ ns) o k = kept_steps ns (after g o n) (kept_after o n k)

  one_of : (es : List Entry) (bs : List Awaited) → Orderly es bs → OnePart ws es
  one_of es bs (words_top k h m) = no_part k h
  one_of es bs (part_top X k h m) = one_part X k h

-- wherever moves lead
orderly : (g : Grammar) (ws : List Word) (ns : List ℕ) (s : State) → steps g (some (initial g ws)) ns ≡ some s → Orderly g ws s.first s.second
orderly g ws ns s h = kept_steps g ws ns (some (initial g ws)) (kept_some g ws _ _ _ (words_top 0 refl tt)) s h

pub first_stack_theorem : FirstStackTheorem
first_stack_theorem g ws ns s h = one_of g ws s.first s.second (orderly g ws ns s h)

-- a part done is no word
part_apart : (X : ℕ) (es : List Entry) (us : List Word) → done X ∷ es ≡ map word us → ⊥
part_apart X es [] h = cons_apart (done X) es h
part_apart X es (w ∷ us) h = let z : ◌≡◌ {A = ℕ} 0 1 = cc in omega arith

-- with a part on top of the first stack, a symbol to come is on top of the second
pub part_under : (g : Grammar) (ws : List Word) (ns : List ℕ) (X : ℕ) (es : List Entry) (bs : List Awaited) (ls : List ℕ)
    → steps g (some (initial g ws)) ns ≡ some (stacks (done X ∷ es) bs ls) → (B : ℕ) × (cs : List Awaited) × (bs ≡ next B ∷ cs)
part_under g ws ns X es bs ls h = under bs (orderly g ws ns _ h)
  where
    under : (bs : List Awaited) → Orderly g ws (done X ∷ es) bs → (B : ℕ) × (cs : List Awaited) × (bs ≡ next B ∷ cs)
    under bs (words_top k e m) = absurd (part_apart X es (drop k ws) e)
    under [] (part_top Y k e m) = absurd m
    under (end ∷ cs) (part_top Y k e m) = absurd m
    under (next B ∷ cs) (part_top Y k e m) = (B, cs, refl)
