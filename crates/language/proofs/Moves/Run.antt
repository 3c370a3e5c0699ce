-- The moves of a reading are a complete run.
use Rattle.std.proofs.Common.{◌≡◌, ℕ, suc, ◌<◌, ◌≤◌, T, List, [], ◌∷◌, ◌++◌, map, length, take, drop, sym, refl, ap, ◌∙◌, subst, arith}
use mathlib.Core.Option.{Option, some, none as nothing}
use Rattle.std.proofs.lemmas.List.{append-nil, append_assoc, map-append, take-append-drop}
use Rattle.std.proofs.lemmas.Bool.{cond-true}
use Rattle.language.specs.Book.{Grammar, Key, Numbered, left, size, symbol}
use Rattle.language.specs.Words.{Word, Is}
use Rattle.language.specs.Readings.{Children, none, key, part, yield, count, Fits, Reads}
use Rattle.language.specs.Machine.{Entry, word, done, Awaited, next, State, stacks, agrees, step, steps, Complete}
use Rattle.language.specs.Moves.{behind, inner, moves}
use Rattle.language.proofs.Words.{is_front, is_back, is_single}
use Rattle.language.proofs.Fits.{fits_numbered}
use Rattle.language.proofs.Moves.Steps.{steps_append, word_agrees, done_agrees, within, open_within, complete_step, behind_step}

-- the first stack's words, cut after n words
words_cut : (n : ℕ) (us : List Word) (es : List Entry) → map word us ++ es ≡ map word (take n us) ++ (map word (drop n us) ++ es)
words_cut n us es =
    ap (λ ws. map word ws ++ es) (sym (take-append-drop n us))
    ∙ (ap (λ fs. fs ++ es) (map-append word (take n us) (drop n us)) ∙ append_assoc (map word (take n us)) (map word (drop n us)) es)

-- moves one after the other
chain : (g : Grammar) (s t : State) (u : Option State) (p q : List ℕ) → steps g (some s) p ≡ some t → steps g (some t) q ≡ u → steps g (some s) (p ++ q) ≡ u
chain g s t u p q e f = steps_append g (some s) p q ∙ (ap (λ x. steps g x q) e ∙ f)

-- the same from a first stack of words that is cut after n words
chain_cut : (g : Grammar) (n : ℕ) (us : List Word) (es : List Entry) (bs : List Awaited) (ls : List ℕ) (t : State) (u : Option State) (p q : List ℕ)
    → steps g (some (stacks (map word (take n us) ++ (map word (drop n us) ++ es)) bs ls)) p ≡ some t → steps g (some t) q ≡ u
    → steps g (some (stacks (map word us ++ es) bs ls)) (p ++ q) ≡ u
chain_cut g n us es bs ls t u p q e f = ap (λ fs. steps g (some (stacks fs bs ls)) (p ++ q)) (words_cut n us es) ∙ chain g _ t u p q e f

-- in a book of at most 128 rules, each with some symbol
module _ (g : Grammar) (few : length g.rules ≤ 128) (filled : (r : ℕ) → Numbered g r → 1 ≤ size g r) where
  -- the moves of all children of rule s, and 0, lead to its left side done
  run_done : (s : ℕ) (cs : Children) (t : State) (es : List Entry) (bs : List Awaited) (ls q : List ℕ) → Fits g s cs → count cs ≡ size g s
      → steps g (some t) (inner s cs) ≡ some (within g s (count cs) es bs ls)
      → steps g (some t) (inner s cs ++ (0 ∷ q)) ≡ steps g (some (stacks (done (left g s) ∷ es) bs ls)) q
  run_done s cs t es bs ls q f whole run =
      let some_child : 1 ≤ count cs = omega (arith, filled s (fits_numbered g s cs f)) in
      chain g t (within g s (count cs) es bs ls) _ (inner s cs) (0 ∷ q) run (ap (λ x. steps g x q) (complete_step g s (count cs) es bs ls whole some_child))

  -- the move behind a key reads its word
  run_key : (r d c B : ℕ) (us : List Word) (es : List Entry) (bs : List Awaited) (ls : List ℕ)
      → Numbered g r → d < size g r → symbol g r d ≡ c → Key g c → Is (c ∷ []) us
      → step g (within g r d (map word us ++ es) (next B ∷ bs) ls) (behind r d) ≡ some (within g r (suc d) es (next B ∷ bs) ls)
  run_key r d c B us es bs ls n h e k is =
      let single = is_single c us is in
      let w = single.word in
      ap (λ vs. step g (within g r d (map word vs ++ es) (next B ∷ bs) ls) (behind r d)) single.is
      ∙ behind_step g few r d B (word w) es bs ls n h (word_agrees g w (symbol g r d) (subst (Key g) (sym e) k) (subst (λ x. T (w x)) (sym e) single.matches))

  -- the moves of a part and the move behind it read its words, if its children's moves do
  run_part : (r d s : ℕ) (cs : Children) (B : ℕ) (us : List Word) (es : List Entry) (bs : List Awaited) (ls : List ℕ)
      → Numbered g r → d < size g r → symbol g r d ≡ left g s → Fits g s cs → count cs ≡ size g s
      → ((C : ℕ) (ds : List Awaited) (ms : List ℕ) → steps g (some (stacks (map word us ++ es) (next C ∷ ds) ms)) (inner s cs) ≡ some (within g s (count cs) es (next C ∷ ds) ms))
      → steps g (some (within g r d (map word us ++ es) (next B ∷ bs) ls)) (inner s cs ++ (0 ∷ behind r d ∷ [])) ≡ some (within g r (suc d) es (next B ∷ bs) ls)
  run_part r d s cs B us es bs ls n h e f whole run =
      let o = open_within g r d B bs ls h in
      ap (λ t. steps g (some t) (inner s cs ++ (0 ∷ behind r d ∷ []))) (o.is (map word us ++ es))
      ∙ (run_done s cs _ es (next o.top ∷ o.second) o.third (behind r d ∷ []) f whole (run o.top o.second o.third)
      ∙ (ap (λ t. step g t (behind r d)) (sym (o.is (done (left g s) ∷ es)))
      ∙ behind_step g few r d B (done (left g s)) es bs ls n h (done_agrees g (left g s) (symbol g r d) e)))

  -- the moves of children read their words
  run_inner : (r : ℕ) (ks : Children) → Fits g r ks → (us : List Word) → Is (yield ks) us → (es : List Entry) (B : ℕ) (bs : List Awaited) (ls : List ℕ)
      → steps g (some (stacks (map word us ++ es) (next B ∷ bs) ls)) (inner r ks) ≡ some (within g r (count ks) es (next B ∷ bs) ls)
  run_inner r none f [] h es B bs ls = refl
  run_inner r none f (w ∷ us) h es B bs ls = absurd h.begins
  run_inner r (key ks c) f us h es B bs ls =
      let n = length (yield ks) in
      chain_cut g n us es (next B ∷ bs) ls _ _ (inner r ks) (behind r (count ks) ∷ [])
      (run_inner r ks f.0 (take n us) (is_front (yield ks) (c ∷ []) us h) (map word (drop n us) ++ es) B bs ls)
      (run_key r (count ks) c B (drop n us) es bs ls (fits_numbered g r ks f.0) f.1 f.2 f.3 (is_back (yield ks) (c ∷ []) us h))
  run_inner r (part ks s cs) f us h es B bs ls =
      let n = length (yield ks) in
      chain_cut g n us es (next B ∷ bs) ls _ _ (inner r ks) (inner s cs ++ (0 ∷ behind r (count ks) ∷ []))
      (run_inner r ks f.0 (take n us) (is_front (yield ks) (yield cs) us h) (map word (drop n us) ++ es) B bs ls)
      (run_part r (count ks) s cs B (drop n us) es bs ls (fits_numbered g r ks f.0) f.1 f.2 f.3 f.4
      (run_inner s cs f.3 (drop n us) (is_back (yield ks) (yield cs) us h) es))

  -- the moves of a reading of the start part are a complete run
  pub run_moves : (ws : List Word) (t : Reads g g.start ws) → Complete g ws (moves t.reading.by t.reading.children)
  run_moves ws t =
      let r = t.reading.by in
      let ks = t.reading.children in
      let fits = t.reading.fits in
      let S = g.start in
      ap (λ es. steps g (some (stacks es (next S ∷ []) [])) (moves r ks)) (sym (append-nil (map word ws)))
      ∙ (run_done r ks (stacks (map word ws ++ []) (next S ∷ []) []) [] (next S ∷ []) [] (129 ∷ []) fits t.reading.whole (run_inner r ks fits ws t.is [] S [] [])
      ∙ cond-true (agrees g (done (left g r)) S) _ nothing (done_agrees g (left g r) S (sym t.reading.heads)))
