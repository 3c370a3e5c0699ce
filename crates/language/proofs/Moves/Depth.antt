-- The second and third stack of the machine along the moves of a reading.
--
-- They grow only when a rule is begun, the second by at most six places and the third by one. The moves of a reading begin
-- each of its rules once, by the number behind the first child.
use Rattle.std.proofs.Common.{◌≡◌, ℕ, zero, suc, ◌+◌, ◌≤◌, eqb, cond, List, [], ◌∷◌, ◌++◌, map, length, take, drop, refl, ap, ◌∙◌, subst, arith, length-append, length-drop}
use mathlib.Core.Option.{Option, some, none}
use Rattle.std.proofs.lemmas.List.{length-map, take-append-drop}
use Rattle.std.proofs.lemmas.Bool.{cond_both, cond-false, ne_eqb}
use Rattle.language.specs.Book.{Grammar, Numbered, left, right, size, symbol}
use Rattle.language.specs.Readings.{Children, none as no_child, key, part, count, Fits}
use Rattle.language.specs.Machine.{Entry, Awaited, next, end, State, stacks, agrees, reduce, move, remove, step, after, steps, initial}
use Rattle.language.specs.Moves.{behind, inner, moves, below}
use Rattle.language.specs.Depth.{Deep, DepthTheorem}
use Rattle.language.proofs.Fits.{fits_numbered}
use Rattle.language.proofs.Moves.Allowed.{step_cases}
use Rattle.language.proofs.Moves.Fronts.{none_apart}

-- how many rules a move begins, and how many some moves
abbrev begins : ℕ → ℕ
begins n = cond (eqb n 0) 0 (cond (eqb n 129) 0 1)

abbrev begun : List ℕ → ℕ
begun [] = 0
begun (n ∷ ns) = begins n + begun ns

begun_append : (p q : List ℕ) → begun (p ++ q) ≡ begun p + begun q
begun_append [] q = omega arith
begun_append (n ∷ p) q = omega (arith, begun_append p q)

-- the first of some moves begin no more than all
begun_front : (k : ℕ) (ns : List ℕ) → begun (take k ns) ≤ begun ns
begun_front k ns = omega (arith, begun_append (take k ns) (drop k ns), ap begun (take-append-drop k ns))

-- in a book of at most 128 rules the number of a rule begins one
begins_rule : (g : Grammar) → length g.rules ≤ 128 → (r : ℕ) → Numbered g r → begins r ≡ 1
begins_rule g few r n =
    cond-false (eqb r 0) 0 (cond (eqb r 129) 0 1) (ne_eqb r 0 (λ e. omega (arith, n.low)))
    ∙ cond-false (eqb r 129) 0 1 (ne_eqb r 129 (λ e. omega (arith, n.high)))

deep_more : (s : State) (k n : ℕ) → Deep s k → k ≤ n → Deep s n
deep_more s k n d l = record { second = omega (arith, d.second); third = omega (arith, d.third) }

-- where the rules have at most six symbols
module _ (g : Grammar) (few : length g.rules ≤ 128) (short : (r : ℕ) → Numbered g r → size g r ≤ 6) where
  -- the state, if there is one, needs no more than n rules do
  abbrev Kept : ℕ → Option State → Type 0
  Kept n o = (t : State) → o ≡ some t → Deep t n

  kept_none : (n : ℕ) → Kept n none
  kept_none n t e = absurd (none_apart t e)

  kept_some : (n : ℕ) (s : State) → Deep s n → Kept n (some s)
  kept_some n s d t e = let same : s ≡ t = cc in subst (λ u. Deep u n) same d

  -- a move and a removal begin no rule
  kept_move : (n : ℕ) (es : List Entry) (bs : List Awaited) (ls : List ℕ) → Deep (stacks es bs ls) n → Kept n (move es bs ls)
  kept_move n es [] ls d = kept_none n
  kept_move n es (next B ∷ bs) ls d = kept_none n
  kept_move n es (end ∷ bs) [] d = kept_none n
  kept_move n es (end ∷ bs) (A ∷ ls) d = kept_some n _ (record { second = omega (arith, d.second); third = omega (arith, d.third) })

  kept_remove : (n : ℕ) (es : List Entry) (bs : List Awaited) (ls : List ℕ) → Deep (stacks es bs ls) n → Kept n (remove g es bs ls)
  kept_remove n [] bs ls d = kept_none n
  kept_remove n (e ∷ es) [] ls d = kept_none n
  kept_remove n (e ∷ es) (end ∷ bs) ls d = kept_none n
  kept_remove n (e ∷ es) (next B ∷ bs) ls d =
      cond_both (agrees g e B) _ _ (Kept n) (λ a. kept_some n (stacks es bs ls) (record { second = omega (arith, d.second); third = d.third })) (λ a. kept_none n)

  -- a reduction begins one
  kept_reduce : (n r : ℕ) (es : List Entry) (bs : List Awaited) (ls : List ℕ) → Numbered g r → Deep (stacks es bs ls) n → Kept (suc n) (reduce g r es bs ls)
  kept_reduce n r [] bs ls h d = kept_none (suc n)
  kept_reduce n r (e ∷ es) [] ls h d = kept_none (suc n)
  kept_reduce n r (e ∷ es) (end ∷ bs) ls h d = kept_none (suc n)
  kept_reduce n r (e ∷ es) (next B ∷ bs) ls h d =
      cond_both (agrees g e (symbol g r 0)) _ _ (Kept (suc n)) (λ a. kept_some (suc n) _ over) (λ a. kept_none (suc n))
    where
      over : Deep (stacks es (map next (drop 1 (right g r)) ++ (end ∷ next B ∷ bs)) (left g r ∷ ls)) (suc n)
      over = record { second = simp (length-append, length-map, length-drop) (omega (arith, d.second, short r h)); third = omega (arith, d.third) }

  kept_more : (k n : ℕ) (o : Option State) → k ≤ n → Kept k o → Kept n o
  kept_more k n o l kept t e = deep_more t k n (kept t e) l

  kept_step : (s : State) (n k : ℕ) → Deep s k → Kept (begins n + k) (step g s n)
  kept_step s n k d = step_cases g s n (Kept (begins n + k))
      (λ z. kept_more k _ _ (omega arith) (kept_move k _ _ _ d))
      (λ z. kept_more k _ _ (omega arith) (kept_remove k _ _ _ d))
      (λ h. kept_more (suc k) _ _ (omega (arith, begins_rule g few n h)) (kept_reduce k n _ _ _ h d))
      (kept_none (begins n + k))

  kept_after : (o : Option State) (n k : ℕ) → Kept k o → Kept (begins n + k) (after g o n)
  kept_after none n k kept = kept_none (begins n + k)
  kept_after (some s) n k kept = kept_step s n k (kept s refl)

  -- so the stacks need no more than the rules begun do
  kept_steps : (ns : List ℕ) (o : Option State) (k : ℕ) → Kept k o → Kept (begun ns + k) (steps g o ns)
  kept_steps [] o k kept = kept_more k _ o (omega arith) kept
  kept_steps (n ∷ ns) o k kept = kept_more (begun ns + (begins n + k)) _ _ (omega arith) (kept_steps ns (after g o n) (begins n + k) (kept_after o n k kept))

-- a rule is begun once its first child stands
abbrev started : ℕ → ℕ
started zero = 0
started (suc d) = 1

started_some : (d : ℕ) → 1 ≤ d → started d ≡ 1
started_some zero h = absurd (omega arith)
started_some (suc d) h = refl

-- where each rule has some symbol
module _ (g : Grammar) (few : length g.rules ≤ 128) (filled : (r : ℕ) → Numbered g r → 1 ≤ size g r) where
  -- the move behind the first child begins its rule, and those behind the later ones none
  begins_behind : (r d : ℕ) → Numbered g r → started d + begins (behind r d) ≡ 1
  begins_behind r zero n = omega (arith, begins_rule g few r n)
  begins_behind r (suc d) n = refl

  started_whole : (r : ℕ) (ks : Children) → Fits g r ks → count ks ≡ size g r → started (count ks) ≡ 1
  started_whole r ks f whole = started_some (count ks) (omega (arith, whole, filled r (fits_numbered g r ks f)))

  -- the moves of children begin each rule below, and their own once one child stands
  begun_inner : (r : ℕ) (ks : Children) → Fits g r ks → begun (inner r ks) ≡ below ks + started (count ks)
  begun_inner r no_child f = omega arith
  begun_inner r (key ks c) f =
      let own = behind r (count ks) ∷ [] in
      omega (arith, begun_append (inner r ks) own, begun_inner r ks f.0, begins_behind r (count ks) (fits_numbered g r ks f.0))
  begun_inner r (part ks s cs) f =
      let own = 0 ∷ behind r (count ks) ∷ [] in
      let children : begun (inner s cs ++ own) ≡ suc (below cs) + begins (behind r (count ks)) =
      omega (arith, begun_append (inner s cs) own, begun_inner s cs f.3, started_whole s cs f.3 f.4) in
      omega (arith, begun_append (inner r ks) (inner s cs ++ own), children, begun_inner r ks f.0, begins_behind r (count ks) (fits_numbered g r ks f.0))

  begun_moves : (r : ℕ) (ks : Children) → Fits g r ks → count ks ≡ size g r → begun (moves r ks) ≡ suc (below ks)
  begun_moves r ks f whole = omega (arith, begun_append (inner r ks) (0 ∷ 129 ∷ []), begun_inner r ks f, started_whole r ks f whole)

-- the first of the moves begin no more rules than the reading has
pub depth_theorem : DepthTheorem
depth_theorem m sound ws t k s e =
    let g = m.grammar in
    let r = t.reading.by in
    let ks = t.reading.children in
    let few = sound.formed.counts.few_rules in
    let short = λ (q : ℕ) (n : Numbered g q). (sound.formed.rules q n).few_symbols in
    let start : Deep (initial g ws) 0 = record { second = omega arith; third = omega arith } in
    let kept = kept_steps g few short (take k (moves r ks)) (some (initial g ws)) 0 (kept_some g few short 0 (initial g ws) start) s e in
    let all = begun_moves g few (λ q n. (sound.formed.rules q n).some_symbols) r ks t.reading.fits t.reading.whole in
    deep_more s (begun (take k (moves r ks)) + 0) (suc (below ks)) kept (omega (arith, begun_front k (moves r ks), all))
