-- What begins with the words and may start where it starts is held.
use Rattle.std.proofs.Common.{◌≡◌, ℕ, suc, ◌+◌, ◌<◌, ◌≤◌, T, List, [], ◌∷◌, ◌++◌, length, get_or, sym, refl, subst, arith, length-append}
use Rattle.language.specs.Book.{Grammar, Numbered, left, size, symbol}
use Rattle.language.specs.Words.{Word, blank, Begins, between}
use Rattle.language.specs.Readings.{Children, none, key, part, yield, count, Fits}
use Rattle.language.specs.Chart.{Corner, self, down, Wanted, first, next, Held, begin, advance, Spans, finished}
use Rattle.language.proofs.Words.{begins_assoc}
use Rattle.language.proofs.Chart.Between.{begins_next, begins_match}
use Rattle.language.proofs.Chart.Proper.{Proper}
use Rattle.language.proofs.Fits.{fits_numbered}

-- the first d symbols of rule r from after word i to word k: an item, or none of them where the left side may start
pub data Dotted (g : Grammar) (ws : List Word) (r : ℕ) : ℕ → ℕ → ℕ → Type 0 where
  nothing : (i : ℕ) → Wanted g ws i (left g r) → Dotted g ws r 0 i i
  holds : (d i k : ℕ) → Held g ws r d i k → Dotted g ws r d i k

module _ (g : Grammar) (ws : List Word) where
  -- where the left side of a rule may start, its first symbol may
  pub wanted_down : (r k Y : ℕ) → Numbered g r → Wanted g ws k Y → left g r ≡ Y → Wanted g ws k (symbol g r 0)
  wanted_down r _ _ n (first Y c) e = first (symbol g r 0) (down r n (subst (Corner g g.start) (sym e) c))
  wanted_down r _ _ n (next s d i k Y h l c) e = next s d i k (symbol g r 0) h l (down r n (subst (Corner g (symbol g s d)) (sym e) c))

  -- the next symbol may start
  pub dotted_wanted : (r d i k X : ℕ) → Numbered g r → Dotted g ws r d i k → d < size g r → symbol g r d ≡ X → Wanted g ws k X
  dotted_wanted r _ _ _ X n (nothing i w) l e = subst (Wanted g ws i) e (wanted_down r i (left g r) n w refl)
  dotted_wanted r _ _ _ X n (holds d i k h) l e = next r d i k X h l (subst (Corner g (symbol g r d)) e self)

  -- where the next symbol spans, one more is done
  dotted_more : (r d i j k X : ℕ) → Numbered g r → Dotted g ws r d i j → d < size g r → symbol g r d ≡ X → Spans g ws X j k → Held g ws r (suc d) i k
  dotted_more r _ _ _ k X n (nothing i w) l e s = begin r i k n w (subst (λ Y. Spans g ws Y i k) (sym e) s)
  dotted_more r _ _ _ k X n (holds d i j h) l e s = advance r d i j k h l (subst (λ Y. Spans g ws Y j k) (sym e) s)

  -- some symbols done are an item
  pub dotted_held : (r d i k : ℕ) → Dotted g ws r d i k → 1 ≤ d → Held g ws r d i k
  dotted_held r _ _ _ (nothing i w) l = absurd (omega arith)
  dotted_held r _ _ _ (holds d i k h) l = h

  -- one more child, a key or a part
  key_more : (r i j c : ℕ) (ks : Children) → Fits g r (key ks c) → Dotted g ws r (count ks) i j → T (get_or ws j blank c) → Dotted g ws r (suc (count ks)) i (suc j)
  key_more r i j c ks f st m = holds (suc (count ks)) i (suc j)
      (dotted_more r (count ks) i j (suc j) c (fits_numbered g r ks f.0) st f.1 f.2 (Spans.word c j f.3 m))

  part_more : (r i j k s : ℕ) (ks cs : Children) → Fits g r (part ks s cs) → Dotted g ws r (count ks) i j → Held g ws s (count cs) j k → Dotted g ws r (suc (count ks)) i k
  part_more r i j k s ks cs f st h =
      let spans = finished s j k (subst (λ d. Held g ws s d j k) f.4 h) in
      holds (suc (count ks)) i k (dotted_more r (count ks) i j k (left g s) (fits_numbered g r ks f.0) st f.1 f.2 spans)

module _ (g : Grammar) (proper : Proper g) (ws : List Word) (k : ℕ) (short : k ≤ length ws) where
  -- children of a rule that may start after word i, whose keys end at word k or before
  pub children_dotted : (r i : ℕ) (ks : Children) (rest : List ℕ) → Wanted g ws i (left g r) → Fits g r ks → Begins (yield ks ++ rest) (between i k ws)
      → i + length (yield ks) ≤ k → Dotted g ws r (count ks) i (i + length (yield ks))
  children_dotted r i none rest w f b l = subst (Dotted g ws r 0 i) (omega arith) (nothing i w)
  children_dotted r i (key ks c) rest w f b l =
      let j = i + length (yield ks) in
      let e : suc j ≡ i + length (yield ks ++ (c ∷ [])) = omega (arith, length-append (yield ks) (c ∷ [])) in
      let b' = begins_assoc (yield ks) (c ∷ []) rest (between i k ws) b in
      let st = children_dotted r i ks (c ∷ rest) w f.0 b' (omega arith) in
      let m = begins_match ws c rest j k (omega arith) short (begins_next ws (yield ks) (c ∷ rest) i k (omega arith) b') in
      subst (Dotted g ws r (suc (count ks)) i) e (key_more g ws r i j c ks f st m)
  children_dotted r i (part ks s cs) rest w f b l =
      let j = i + length (yield ks) in
      let e : j + length (yield cs) ≡ i + length (yield ks ++ yield cs) = omega (arith, length-append (yield ks) (yield cs)) in
      let b' = begins_assoc (yield ks) (yield cs) rest (between i k ws) b in
      let st = children_dotted r i ks (yield cs ++ rest) w f.0 b' (omega arith) in
      let w' = dotted_wanted g ws r (count ks) i j (left g s) (fits_numbered g r ks f.0) st f.1 f.2 in
      let below = children_dotted s j cs rest w' f.3 (begins_next ws (yield ks) (yield cs ++ rest) i k (omega arith) b') (omega arith) in
      let h = dotted_held g ws s (count cs) j (j + length (yield cs)) below (omega (arith, f.4, proper.filled s (fits_numbered g s cs f.3))) in
      subst (Dotted g ws r (suc (count ks)) i) e (part_more g ws r i j (j + length (yield cs)) s ks cs f st h)
