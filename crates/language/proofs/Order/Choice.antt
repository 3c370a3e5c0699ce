-- The reading that is chosen part by part is the first.
use Rattle.std.proofs.Common.{◌≡◌, ℕ, ◌≤◌, ◌⊎◌, List, [], ◌∷◌, length, take, drop, sym, refl, ◌∙◌, ap₂, inl, inr, ⊎_elim, arith}
use Rattle.std.proofs.lemmas.Bool.{cases_lt}
use Rattle.language.specs.Book.{Grammar, Key, Meaning, left, size, symbol}
use Rattle.language.specs.Sound.{Sound}
use Rattle.language.specs.Words.{Word, Is}
use Rattle.language.specs.Readings.{Children, none, key, part, yield, count, Fits, Reads}
use Rattle.language.specs.Order.{beginnings, Earlier, Inner, Before, Least}
use Rattle.language.specs.Choice.{Covers, word, reading, Lowest, Earliest, Chosen}
use Rattle.language.proofs.Words.{is_front, is_back, is_single}
use Rattle.language.proofs.Order.Total.{KeysApart, sound_apart, same_symbol, whole_count, not_both}

-- beginnings are earlier, or the same and so is what follows, or that comes first
abbrev pub Ahead : List ℕ → List ℕ → Type 0 → Type 0 → Type 0
Ahead xs ys S I = Earlier xs ys ⊎ ((xs ≡ ys) × (S ⊎ I))

-- children of one rule are the same as others, or come first
abbrev pub Within : Children → Children → Type 0
Within ks ls = Ahead (beginnings ks) (beginnings ls) (ks ≡ ls) (Inner ks ls)

-- a reading is the same as another, or comes first
abbrev pub Leads : ℕ → Children → ℕ → Children → Type 0
Leads r ks q ls = ((r ≡ q) × (ks ≡ ls)) ⊎ Before r ks q ls

-- no later beginning of the last child, and where it is the same the others are not behind
ahead_more : {S I T J : Type 0} (b j : ℕ) (xs ys : List ℕ) → b ≤ j → (b ≡ j → Ahead xs ys S I) → (b ≡ j → S ⊎ I → T ⊎ J) → Ahead (b ∷ xs) (j ∷ ys) T J
ahead_more {S} {I} {T} {J} b j xs ys h others last = ⊎_elim (λ l. inl (inl l)) (λ k. let same : b ≡ j = omega arith in rest same (others same)) (cases_lt b j)
  where
    rest : b ≡ j → Ahead xs ys S I → Ahead (b ∷ xs) (j ∷ ys) T J
    rest e (inl a) = inl (inr (e, a))
    rest e (inr (p, o)) = inr (ap₂ ◌∷◌ e p, last e o)

-- no higher rule, and where it is the same the children are not behind
leads : (r q : ℕ) (ks ls : Children) → r ≤ q → (r ≡ q → Within ks ls) → Leads r ks q ls
leads r q ks ls h within = ⊎_elim (λ l. inr (inl l)) (λ k. let same : r ≡ q = omega arith in rest same (within same)) (cases_lt r q)
  where
    rest : r ≡ q → Within ks ls → Leads r ks q ls
    rest e (inl a) = inr (inr (e, inl a))
    rest e (inr (p, inl s)) = inl (e, s)
    rest e (inr (p, inr i)) = inr (inr (e, inr (p, i)))

-- the last child is a part
parts_lead : (ks ls : Children) (s t : ℕ) (cs ds : Children) → Leads s cs t ds → (ks ≡ ls) ⊎ Inner ks ls → (part ks s cs ≡ part ls t ds) ⊎ Inner (part ks s cs) (part ls t ds)
parts_lead ks ls s t cs ds (inl (e, p)) (inl q) = inl (cc)
parts_lead ks ls s t cs ds (inl (e, p)) (inr i) = inr (inr (e, p, i))
parts_lead ks ls s t cs ds (inr b) o = inr (inl b)

module _ (g : Grammar) (apart : KeysApart g) where
  -- the chosen child begins no later than another at its place
  begins_first : (r d b : ℕ) (ws : List Word) (ls : Children) → Earliest g r d b ws → Fits g r ls → count ls ≡ d → Is (yield ls) (take (length (yield ls)) ws)
      → Covers g (symbol g r d) (drop (length (yield ls)) ws) → b ≤ length (yield ls)
  begins_first r d b ws ls earliest f e h covers = earliest (length (yield ls)) (record { children = ls; fits = f; many = e; is = h }) covers

  key_covers : (r d c : ℕ) (ws : List Word) → symbol g r d ≡ c → Key g c → Is (c ∷ []) ws → Covers g (symbol g r d) ws
  key_covers r d c ws e k h =
      let single = is_single c ws h in
      rw (e, single.is) (word single.word k single.matches)

  part_covers : (r d s : ℕ) (cs : Children) (ws : List Word) → symbol g r d ≡ left g s → Fits g s cs → count cs ≡ size g s → Is (yield cs) ws → Covers g (symbol g r d) ws
  part_covers r d s cs ws e f n h = reading ws (record { reading = record { by = s; children = cs; heads = sym e; fits = f; whole = n }; is = h })

  -- a reading of the lowest rule
  lowest_leads : (r q : ℕ) (ks ls : Children) (ws : List Word) → Lowest g r ws → left g q ≡ left g r → Fits g q ls → count ls ≡ size g q → Is (yield ls) ws
      → (r ≡ q → Within ks ls) → Leads r ks q ls
  lowest_leads r q ks ls ws lowest e f n h within = leads r q ks ls (lowest q e (record { children = ls; fits = f; many = n; is = h })) within

  chosen_within : (r : ℕ) (ks ls : Children) (ws : List Word) → count ks ≡ count ls → Fits g r ks → Fits g r ls → Is (yield ks) ws → Is (yield ls) ws
      → Chosen g r ks ws → Within ks ls
  chosen_within r none none ws e f h i k chosen = inr (refl, inl refl)
  chosen_within r none (key ls d) ws e f h i k chosen = absurd (omega (arith, e))
  chosen_within r none (part ls t ds) ws e f h i k chosen = absurd (omega (arith, e))
  chosen_within r (key ks c) none ws e f h i k chosen = absurd (omega (arith, e))
  chosen_within r (key ks c) (key ls d) ws e f h i k chosen =
      let same = same_symbol g r (count ks) (count ls) c d e f.2 h.2 in
      let many : count ks ≡ count ls = omega (arith, e) in
      let front = is_front (yield ls) (d ∷ []) ws k in
      let covers = key_covers r (count ks) d (drop (length (yield ls)) ws) (f.2 ∙ same) h.3 (is_back (yield ls) (d ∷ []) ws k) in
      ahead_more (length (yield ks)) (length (yield ls)) (beginnings ks) (beginnings ls)
      (begins_first r (count ks) (length (yield ks)) ws ls chosen.0 h.0 (sym many) front covers)
      (λ b. chosen_within r ks ls (take (length (yield ks)) ws) many f.0 h.0 (is_front (yield ks) (c ∷ []) ws i) (rw b front) chosen.1)
      (λ b o. ⊎_elim (λ p. inl (ap₂ key p same)) inr o)
  chosen_within r (key ks c) (part ls t ds) ws e f h i k chosen = absurd (not_both g apart r (count ks) (count ls) c t ds e f.2 f.3 h.2 h.3)
  chosen_within r (part ks s cs) none ws e f h i k chosen = absurd (omega (arith, e))
  chosen_within r (part ks s cs) (key ls d) ws e f h i k chosen = absurd (not_both g apart r (count ls) (count ks) d s cs (sym e) h.2 h.3 f.2 f.3)
  chosen_within r (part ks s cs) (part ls t ds) ws e f h i k chosen =
      let same = same_symbol g r (count ks) (count ls) (left g s) (left g t) e f.2 h.2 in
      let many : count ks ≡ count ls = omega (arith, e) in
      let front = is_front (yield ls) (yield ds) ws k in
      let back = is_back (yield ls) (yield ds) ws k in
      let covers = part_covers r (count ks) t ds (drop (length (yield ls)) ws) (f.2 ∙ same) h.3 h.4 back in
      ahead_more (length (yield ks)) (length (yield ls)) (beginnings ks) (beginnings ls)
      (begins_first r (count ks) (length (yield ks)) ws ls chosen.0 h.0 (sym many) front covers)
      (λ b. chosen_within r ks ls (take (length (yield ks)) ws) many f.0 h.0 (is_front (yield ks) (yield cs) ws i) (rw b front) chosen.1)
      (λ b. parts_lead ks ls s t cs ds (lowest_leads s t cs ds (drop (length (yield ks)) ws) chosen.2 (sym same) h.3 h.4 (rw b back)
      (λ one. chosen_within s cs ds (drop (length (yield ks)) ws) (whole_count g s t cs ds f.4 h.4 one) f.3 (rw one h.3) (is_back (yield ks) (yield cs) ws i) (rw b back) chosen.3)))

-- the reading chosen part by part is the first
pub chosen_least : (m : Meaning) → Sound m → (X : ℕ) (ws : List Word) (t : Reads m.grammar X ws)
    → Lowest m.grammar t.reading.by ws → Chosen m.grammar t.reading.by t.reading.children ws → Least t
chosen_least m sound X ws t lowest chosen b =
    let apart = sound_apart m sound in
    let one = t.reading in
    let other = b.reading in
    let many = whole_count m.grammar one.by other.by one.children other.children one.whole other.whole in
    lowest_leads m.grammar apart one.by other.by one.children other.children ws lowest (other.heads ∙ sym one.heads) other.fits other.whole b.is
    (λ same. chosen_within m.grammar apart one.by one.children other.children ws (many same) one.fits (rw same other.fits) t.is b.is chosen)
