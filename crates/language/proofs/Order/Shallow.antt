-- The children of a rule over given words, with few rules one below the other, can be listed.
use Rattle.std.proofs.Common.{◌≡◌, ℕ, zero, suc, ◌<◌, ◌≤◌, max, Bool, true, false, T, ◌⊎◌, List, [], ◌∷◌, ◌++◌, length, take, drop, sym, refl, ap, ◌∙◌, subst, inl, inr, ⊎_elim, arith, length-append, take-append-drop}
use native.Mathlib.Decide.{map_dec, dec_lt, ℕ_discrete}
use Rattle.language.specs.Book.{Grammar, Key, Numbered, left, size, symbol}
use Rattle.language.specs.Words.{Word, Begins, Is}
use Rattle.language.specs.Readings.{Children, none, key, part, yield, count, Fits}
use Rattle.language.specs.Moves.{below}
use Rattle.language.proofs.Decided.{both_dec, dec_key, dec_numbered}
use Rattle.language.proofs.Words.{is_append, is_front, is_back}
use Rattle.language.proofs.Fits.{fits_numbered}
use Rattle.language.proofs.Order.Listed.{Listed, Below, Made, listed_none, listed_one, listed_same, listed_or, listed_when, listed_below, listed_made}

-- how many rules stand one below the other
abbrev pub depth : Children → ℕ
depth none = 0
depth (key ks c) = depth ks
depth (part ks s cs) = max (depth ks) (suc (depth cs))

-- no more than there are rules
pub depth_below : (ks : Children) → depth ks ≤ below ks
depth_below none = omega arith
depth_below (key ks c) = depth_below ks
depth_below (part ks s cs) = omega (arith, depth_below ks, depth_below cs)

dec_T : (b : Bool) → Dec (T b)
dec_T true = yes tt
dec_T false = no (λ h. h)

dec_begins : (p : List ℕ) (ws : List Word) → Dec (Begins p ws)
dec_begins p [] = yes tt
dec_begins [] (w ∷ ws) = no (λ h. h)
dec_begins (c ∷ p) (w ∷ ws) = both_dec (dec_T (w c)) (dec_begins p ws)

dec_is : (p : List ℕ) (ws : List Word) → Dec (Is p ws)
dec_is p ws = map_dec (λ h. record { begins = h.0; long = h.1 }) (λ h. (h.begins, h.long)) (both_dec (dec_begins p ws) (ℕ_discrete (length p) (length ws)))

-- the children stand under the first d symbols of rule r, read the words, and have fewer than n rules one below the other
pub record Shallow (g : Grammar) (n r d : ℕ) (ws : List Word) (ks : Children) : Type 0 where
  pub fits : Fits g r ks
  pub many : count ks ≡ d
  pub is : Is (yield ks) ws
  pub deep : depth ks < n

module _ (g : Grammar) (m r d : ℕ) (ws : List Word) where
  -- a key at place d, after j words
  abbrev KeyAt : ℕ → Children → Type 0
  KeyAt j ks = ((d < size g r) × (Key g (symbol g r d) × Is (symbol g r d ∷ []) (drop j ws))) × Made key (Shallow g (suc m) r d (take j ws)) (λ c. c ≡ symbol g r d) ks

  -- a part at place d, after j words, by rule s
  abbrev PartAt : ℕ → ℕ → Children → Type 0
  PartAt j s ks = ((d < size g r) × (symbol g r d ≡ left g s)) × Made (λ a b. part a s b) (Shallow g (suc m) r d (take j ws)) (Shallow g m s (size g s) (drop j ws)) ks

  -- the last of the children is a key or a part
  abbrev LastAt : ℕ → Children → Type 0
  LastAt j ks = KeyAt j ks ⊎ Below (PartAt j) (suc (length g.rules)) ks

  -- words in two shares
  together : (j : ℕ) (p q : List ℕ) → Is p (take j ws) → Is q (drop j ws) → Is (p ++ q) ws
  together j p q h k = subst (Is (p ++ q)) (take-append-drop j ws) (is_append p (take j ws) q (drop j ws) h k)

  key_shallow : (j : ℕ) (ks : Children) → KeyAt j ks → Shallow g (suc m) r (suc d) ws ks
  key_shallow j ks ((small, (k, h)), (a, c, s, e, same)) = subst (Shallow g (suc m) r (suc d) ws) (sym same) (record {
    fits = (s.fits, omega arith, ap (symbol g r) s.many ∙ sym e, subst (Key g) (sym e) k);
    many = ap suc s.many;
    is = together j (yield a) (c ∷ []) s.is (rw e h);
    deep = s.deep;
  })

  part_shallow : (j s : ℕ) (ks : Children) → PartAt j s ks → Shallow g (suc m) r (suc d) ws ks
  part_shallow j s ks ((small, e), (a, b, p, q, same)) = subst (Shallow g (suc m) r (suc d) ws) (sym same) (record {
    fits = (p.fits, omega arith, ap (symbol g r) p.many ∙ e, q.fits, q.many);
    many = ap suc p.many;
    is = together j (yield a) (yield b) p.is q.is;
    deep = omega arith;
  })

  -- children with such a last one are those children, and each of those has one
  last_shallow : (ks : Children) → Below LastAt (suc (length ws)) ks → Shallow g (suc m) r (suc d) ws ks
  last_shallow ks (j, h, o) = ⊎_elim (key_shallow j ks) (λ p. part_shallow j p.0 ks p.2) o

  -- how far the children before the last go
  front_length : (p q : List ℕ) → Is (p ++ q) ws → length p < suc (length ws)
  front_length p q h = omega (arith, simp length-append at h.long)

  shallow_last : (ks : Children) → Shallow g (suc m) r (suc d) ws ks → Below LastAt (suc (length ws)) ks
  shallow_last none h = absurd (omega (arith, h.many))
  shallow_last (key ks c) h =
      let e : count ks ≡ d = omega (arith, h.many) in
      let same : symbol g r d ≡ c = ap (symbol g r) (sym e) ∙ h.fits.2 in
      let front = is_front (yield ks) (c ∷ []) ws h.is in
      let back = is_back (yield ks) (c ∷ []) ws h.is in
      let before : Shallow g (suc m) r d (take (length (yield ks)) ws) ks = record { fits = h.fits.0; many = e; is = front; deep = h.deep } in
      let last : KeyAt (length (yield ks)) (key ks c) = ((omega (arith, e, h.fits.1), (rw same h.fits.3, rw same back)), (ks, c, before, sym same, refl)) in
      (length (yield ks), front_length (yield ks) (c ∷ []) h.is, inl last)
  shallow_last (part ks s cs) h =
      let e : count ks ≡ d = omega (arith, h.many) in
      let same : symbol g r d ≡ left g s = ap (symbol g r) (sym e) ∙ h.fits.2 in
      let front = is_front (yield ks) (yield cs) ws h.is in
      let back = is_back (yield ks) (yield cs) ws h.is in
      let before : Shallow g (suc m) r d (take (length (yield ks)) ws) ks = record { fits = h.fits.0; many = e; is = front; deep = omega (arith, h.deep) } in
      let child : Shallow g m s (size g s) (drop (length (yield ks)) ws) cs = record { fits = h.fits.3; many = h.fits.4; is = back; deep = omega (arith, h.deep) } in
      let last : PartAt (length (yield ks)) s (part ks s cs) = ((omega (arith, e, h.fits.1), same), (ks, cs, before, child, refl)) in
      (length (yield ks), front_length (yield ks) (yield cs) h.is, inr (s, omega (arith, (fits_numbered g s cs h.fits.3).high), last))

-- one more place, where the places before it and the readings of parts with fewer rules below can be listed
module _ (g : Grammar) (m : ℕ) (lower : (s : ℕ) (ws : List Word) → Listed (Shallow g m s (size g s) ws)) where
  listed_start : (r : ℕ) (ws : List Word) → Listed (Shallow g (suc m) r 0 ws)
  listed_start r ws =
      let decided = both_dec (dec_numbered g r) (dec_is [] ws) in
      listed_same (λ ks. (Numbered g r × Is [] ws) × (ks ≡ none)) (Shallow g (suc m) r 0 ws) to from (listed_when (λ ks. ks ≡ none) decided (listed_one none))
    where
      to : (ks : Children) → (Numbered g r × Is [] ws) × (ks ≡ none) → Shallow g (suc m) r 0 ws ks
      to ks ((n, h), e) = subst (Shallow g (suc m) r 0 ws) (sym e) (record { fits = n; many = refl; is = h; deep = omega arith })

      from : (ks : Children) → Shallow g (suc m) r 0 ws ks → (Numbered g r × Is [] ws) × (ks ≡ none)
      from none h = ((h.fits, h.is), refl)
      from (key ks c) h = absurd (omega (arith, h.many))
      from (part ks s cs) h = absurd (omega (arith, h.many))

  listed_key : (r d : ℕ) (ws : List Word) (j : ℕ) → Listed (Shallow g (suc m) r d (take j ws)) → Listed (KeyAt g m r d ws j)
  listed_key r d ws j front =
      let c = symbol g r d in
      let P = Shallow g (suc m) r d (take j ws) in
      let decided = both_dec (dec_lt d (size g r)) (both_dec (dec_key g c) (dec_is (c ∷ []) (drop j ws))) in
      listed_when (Made key P (λ x. x ≡ c)) decided (listed_made key P (λ x. x ≡ c) front (listed_one c))

  listed_part : (r d : ℕ) (ws : List Word) (j : ℕ) → Listed (Shallow g (suc m) r d (take j ws)) → (s : ℕ) → Listed (PartAt g m r d ws j s)
  listed_part r d ws j front s =
      let P = Shallow g (suc m) r d (take j ws) in
      let Q = Shallow g m s (size g s) (drop j ws) in
      let made = listed_made (λ a b. part a s b) P Q front (lower s (drop j ws)) in
      listed_when (Made (λ a b. part a s b) P Q) (both_dec (dec_lt d (size g r)) (ℕ_discrete (symbol g r d) (left g s))) made

  listed_last : (r d : ℕ) (ws : List Word) (j : ℕ) → Listed (Shallow g (suc m) r d (take j ws)) → Listed (LastAt g m r d ws j)
  listed_last r d ws j front =
      let parts = listed_below (PartAt g m r d ws j) (listed_part r d ws j front) (suc (length g.rules)) in
      listed_or (KeyAt g m r d ws j) (Below (PartAt g m r d ws j) (suc (length g.rules))) (listed_key r d ws j front) parts

  listed_places : (r d : ℕ) (ws : List Word) → Listed (Shallow g (suc m) r d ws)
  listed_places r zero ws = listed_start r ws
  listed_places r (suc d) ws =
      let ends = listed_below (LastAt g m r d ws) (λ j. listed_last r d ws j (listed_places r d (take j ws))) (suc (length ws)) in
      listed_same (Below (LastAt g m r d ws) (suc (length ws))) (Shallow g (suc m) r (suc d) ws) (last_shallow g m r d ws) (shallow_last g m r d ws) ends

-- all such children can be listed
pub listed_shallow : (g : Grammar) (n r d : ℕ) (ws : List Word) → Listed (Shallow g n r d ws)
listed_shallow g zero r d ws = listed_none (Shallow g 0 r d ws) (λ ks h. omega (arith, h.deep))
listed_shallow g (suc m) r d ws = listed_places g m (λ s vs. listed_shallow g m s (size g s) vs) r d ws
