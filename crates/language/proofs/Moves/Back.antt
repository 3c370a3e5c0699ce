-- A complete run of the machine is the moves of a reading.
--
-- By recursion on the moves that are left: they lead from stacks told by frames to the empty stacks, and with the moves made
-- before they are those of a reading.
use Rattle.std.proofs.Common.{◌≡◌, ℕ, suc, ◌≤◌, true, List, [], ◌∷◌, ◌++◌, map, drop, sym, refl, ap, ◌∙◌, subst, inl, inr, ⊎_elim, append_assoc, append-nil, arith, drop-cons}
use Rattle.std.proofs.lemmas.List.{drop_all}
use Rattle.std.proofs.lemmas.Bool.{cases_lt}
use Rattle.language.specs.Book.{Grammar, Numbered, left, right, size, symbol}
use Rattle.language.specs.Words.{Word, Is}
use Rattle.language.specs.Readings.{Children, none, yield, count, Programme}
use Rattle.language.specs.Machine.{Entry, word, done, Awaited, next, end, State, stacks, agrees, Complete}
use Rattle.language.specs.Moves.{inner, moves, RunTheorem}
use Rattle.language.proofs.Fits.{fits_count}
use Rattle.language.proofs.Chart.Turned.{Tree, leaves, push, push_count}
use Rattle.language.proofs.Chart.Proper.{Proper, sound_proper}
use Rattle.language.proofs.Moves.Fronts.{none_on}
use Rattle.language.proofs.Moves.Allowed.{Ends, some_first, some_second, end_blocked, empty_blocked, only_move, take_cases}
use Rattle.language.proofs.Moves.Frames.{tree_moves, behind_later, Frame, awaited, later, lefts, read, made, Before, Found, Partly, word_found, done_found, pushed}

-- the second stack: the symbol to come and what stands below it
abbrev pending : (g : Grammar) → List (Frame g) → List Awaited
pending g fs = next (awaited g fs) ∷ later g fs

-- the stacks with the symbols cs of rule r to come, over the frames
abbrev inside : (g : Grammar) → ℕ → List ℕ → List Word → List (Frame g) → State
inside g r cs us fs = stacks (map word us) (map next cs ++ (end ∷ pending g fs)) (left g r ∷ lefts g fs)

-- the moves ms on the words ws
module _ (g : Grammar) (proper : Proper g) (ws : List Word) (ms : List ℕ) where
  -- they are those of a reading
  abbrev Result : Type 0
  Result = (t : Programme g ws) × (moves t.reading.by t.reading.children ≡ ms)

  -- what is shown of the moves ns that are left: when an entry and a symbol to come are on top;
  abbrev Taking : List ℕ → Type 0
  Taking ns = (e : Entry) (us : List Word) (fs : List (Frame g)) → ((X : ℕ) → agrees g e X ≡ true → Found g ws ms X fs us ns)
      → Ends g (stacks (e ∷ map word us) (pending g fs) (lefts g fs)) ns → Result

  -- when d symbols of rule r are done;
  abbrev Going : List ℕ → Type 0
  Going ns = (r d : ℕ) (ks : Children) (us : List Word) (fs : List (Frame g)) → Partly g ws ms r ks fs us ns → d ≡ count ks
      → Ends g (inside g r (drop d (right g r)) us fs) ns → Result

  -- when all of them are
  abbrev Closing : List ℕ → Type 0
  Closing ns = (r : ℕ) (ks : Children) (us : List Word) (fs : List (Frame g)) → Partly g ws ms r ks fs us ns → count ks ≡ size g r
      → Ends g (inside g r [] us fs) ns → Result

  -- when nothing is to come, no move and no word is left
  last : (us : List Word) (ns : List ℕ) → Ends g (stacks (map word us) [] []) ns → (us ≡ []) × (ns ≡ [])
  last [] [] h = (refl, refl)
  last (w ∷ us) [] h = absurd (some_first g (word w) (map word us) [] [] h)
  last us (n ∷ q) h = absurd (none_on g q _ (only_move g (map word us) [] [] n q (empty_blocked (map word us)) h).1)

  -- a tree of the start part over all words is a reading of them
  whole : (us : List Word) (ns : List ℕ) (t : Tree g g.start) → Before ws (leaves g g.start t) us → ms ≡ tree_moves g g.start t ++ (129 ∷ ns)
      → (us ≡ []) × (ns ≡ []) → Result
  whole us ns (inl k) b e h = absurd (proper.start_apart k)
  whole us ns (inr t) b e h =
      let p = yield t.children in
      let is : Is (p ++ []) ws = b [] (subst (Is []) (sym h.0) (record { begins = tt; long = refl })) in
      (record { reading = t; is = subst (λ x. Is x ws) (append-nil p) is }, sym (e ∙ rw h.1 (simp append_assoc)))

  -- an entry with a tree of the symbol to come is removed with it
  removed : (n : ℕ) (q : List ℕ) (us : List Word) (fs : List (Frame g)) → Going q → n ≡ 129 → Found g ws ms (awaited g fs) fs us (n ∷ q)
      → Ends g (stacks (map word us) (later g fs) (lefts g fs)) q → Result
  removed n q us [] going e found h =
      whole us q found.tree found.words (found.is ∙ ap (λ x. tree_moves g g.start found.tree ++ (x ∷ q)) e) (last us q h)
  removed n q us (f ∷ fs) going e found h =
      let r = f.rule in
      let ks = f.children in
      let X = symbol g r (count ks) in
      let t = found.tree in
      going r (suc (count ks)) (push g X ks t) us fs
      (pushed g ws ms r n X ks us fs q t f.fits f.more refl (e ∙ behind_later r (count ks) f.begun)
      (subst (λ p. Before ws p us) (append_assoc (read g fs) (yield ks) _) found.words) (found.is ∙ append_assoc (made g fs) (inner r ks) _))
      (sym (push_count g X ks t)) h

  -- an entry with a tree of the first symbol of rule n begins it
  reduced : (n : ℕ) (q : List ℕ) (us : List Word) (fs : List (Frame g)) → Going q → Numbered g n → Found g ws ms (symbol g n 0) fs us (n ∷ q)
      → Ends g (inside g n (drop 1 (right g n)) us fs) q → Result
  reduced n q us fs going numbered found h =
      let X = symbol g n 0 in
      let t = found.tree in
      going n 1 (push g X none t) us fs (pushed g ws ms n n X none us fs q t numbered (proper.filled n numbered) refl refl found.words found.is)
      (sym (push_count g X none t)) h

  taking_none : Taking []
  taking_none e us fs found h = absurd (some_first g e (map word us) (pending g fs) (lefts g fs) h)

  taking_more : (n : ℕ) (q : List ℕ) → Going q → Taking (n ∷ q)
  taking_more n q going e us fs found =
      take_cases g e (map word us) (awaited g fs) (later g fs) (lefts g fs) n q (λ z a. removed n q us fs going z (found (awaited g fs) a))
      (λ z a. reduced n q us fs going z (found (symbol g n 0) a))

  closing_none : Closing []
  closing_none r ks us fs p e h = absurd (some_second g (map word us) end (pending g fs) (left g r ∷ lefts g fs) h)

  closing_more : (n : ℕ) (q : List ℕ) → Taking q → Closing (n ∷ q)
  closing_more n q taking r ks us fs p e h =
      let m = only_move g (map word us) (end ∷ pending g fs) (left g r ∷ lefts g fs) n q (end_blocked (map word us) (pending g fs)) h in
      taking (done (left g r)) us fs (done_found g ws ms r ks us fs q (subst (λ x. Partly g ws ms r ks fs us (x ∷ q)) m.0 p) e) m.1

  -- when a symbol is to come and only words stand on the first stack, the next word is taken
  next_word : (ns : List ℕ) → Taking ns → (us : List Word) (fs : List (Frame g)) → Before ws (read g fs) us → ms ≡ made g fs ++ ns
      → Ends g (stacks (map word us) (pending g fs) (lefts g fs)) ns → Result
  next_word [] taking us fs b e h = absurd (some_second g (map word us) (next (awaited g fs)) (later g fs) (lefts g fs) h)
  next_word (n ∷ q) taking [] fs b e h = absurd (none_on g q _ (only_move g [] (pending g fs) (lefts g fs) n q tt h).1)
  next_word (n ∷ q) taking (w ∷ us) fs b e h = taking (word w) us fs (word_found g ws ms w us fs (n ∷ q) b e) h

  -- a rule goes on with its next symbol, or is complete
  going_on : (ns : List ℕ) → Taking ns → Closing ns → Going ns
  going_on ns taking closing r d ks us fs p e h =
      let to_come = λ (cs : List ℕ). Ends g (inside g r cs us fs) ns in
      let now : to_come (drop (count ks) (right g r)) = subst (λ x. to_come (drop x (right g r))) e h in
      let high : count ks ≤ size g r = fits_count g r ks p.fits in
      ⊎_elim
      (λ l. next_word ns taking us (record { rule = r; children = ks; fits = p.fits; begun = p.begun; more = l } ∷ fs) p.words p.is
      (subst to_come (drop-cons (right g r) (count ks) 0 l) now))
      (λ l. closing r ks us fs p (omega arith) (subst to_come (drop_all (count ks) (right g r) l) now)) (cases_lt (count ks) (size g r))

  every_run : (ns : List ℕ) → Taking ns × Going ns
  every_run [] = (taking_none, going_on [] taking_none closing_none)
  every_run (n ∷ q) =
      let rest = every_run q in
      let taking = taking_more n q rest.1 in
      (taking, going_on (n ∷ q) taking (closing_more n q rest.0))

  complete_run : Complete g ws ms → Result
  complete_run = next_word ms (every_run ms).0 ws [] (λ q i. i) refl

-- a complete run on words is the moves of a reading of them
pub run_theorem : RunTheorem
run_theorem m sound ws ns = complete_run m.grammar (sound_proper m sound) ws ns
