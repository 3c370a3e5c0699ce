-- The first of the children of a first reading.
use Rattle.std.proofs.Common.{◌≡◌, ℕ, ◌+◌, ◌<◌, ◌≤◌, ◌⊎◌, List, [], ◌∷◌, ◌++◌, length, sym, refl, ap, subst, inl, inr, ⊎_elim, arith, length-append}
use Rattle.std.proofs.lemmas.Bool.{cases_lt}
use Rattle.language.specs.Book.{Grammar, Meaning, left, size, symbol}
use Rattle.language.specs.Sound.{Sound}
use Rattle.language.specs.Words.{Word, Is, between}
use Rattle.language.specs.Readings.{Children, none, key, part, yield, count, Fits, Done, Reads}
use Rattle.language.specs.Chart.{Wanted, Held}
use Rattle.language.specs.Choice.{Covers, LowestHeld, EarliestHeld, ChosenHeld}
use Rattle.language.specs.Order.{Least}
use Rattle.language.proofs.Words.{is_front, is_back, is_single, is_begins}
use Rattle.language.proofs.Fits.{fits_numbered}
use Rattle.language.proofs.Chart.Between.{length_between, between_front, between_back}
use Rattle.language.proofs.Chart.Local.{done_held, done_forward, covers_spans}
use Rattle.language.proofs.Chart.Proper.{Proper, sound_proper}
use Rattle.language.proofs.Chart.Used.{behind_wanted}
use Rattle.language.proofs.Order.Items.{items_theorem}
use Rattle.reading.specs.Choices.{FirstChildren, Front, EarliestBegin}

-- all of them, and none
pub front_all : (ks : Children) → Front ks ks
front_all none = refl
front_all (key ks c) = inl refl
front_all (part ks s cs) = inl refl

pub front_count : (ls ks : Children) → Front ls ks → count ls ≤ count ks
front_count ls none f = omega (arith, ap count f)
front_count ls (key ks c) (inl e) = omega (arith, ap count e)
front_count ls (key ks c) (inr f) = omega (arith, front_count ls ks f)
front_count ls (part ks s cs) (inl e) = omega (arith, ap count e)
front_count ls (part ks s cs) (inr f) = omega (arith, front_count ls ks f)

-- as many as all are all
pub front_whole : (ls ks : Children) → Front ls ks → count ls ≡ count ks → ls ≡ ks
front_whole ls none f e = f
front_whole ls (key ks c) (inl is) e = is
front_whole ls (key ks c) (inr f) e = absurd (omega (arith, e, front_count ls ks f))
front_whole ls (part ks s cs) (inl is) e = is
front_whole ls (part ks s cs) (inr f) e = absurd (omega (arith, e, front_count ls ks f))

-- the first children with the next one
pub record NextFront (ls ks : Children) : Type 0 where
  pub next : Children
  pub front : Front next ks
  pub one : ((c : ℕ) × (next ≡ key ls c)) ⊎ ((s : ℕ) × ((cs : Children) × (next ≡ part ls s cs)))

later_key : (ls ks : Children) (c : ℕ) → NextFront ls ks → NextFront ls (key ks c)
later_key ls ks c n = record { next = n.next; front = inr n.front; one = n.one }

later_part : (ls ks : Children) (s : ℕ) (cs : Children) → NextFront ls ks → NextFront ls (part ks s cs)
later_part ls ks s cs n = record { next = n.next; front = inr n.front; one = n.one }

pub next_front : (ls ks : Children) → Front ls ks → count ls < count ks → NextFront ls ks
next_front ls none f l = absurd (omega arith)
next_front ls (key ks c) (inl e) l = absurd (omega (arith, ap count e))
next_front ls (key ks c) (inr f) l = ⊎_elim
    (λ h. later_key ls ks c (next_front ls ks f h))
    (λ h. let same = front_whole ls ks f (omega (arith, h, front_count ls ks f)) in record { next = key ks c; front = inl refl; one = inl (c, ap (λ xs. key xs c) (sym same)) })
    (cases_lt (count ls) (count ks))
next_front ls (part ks s cs) (inl e) l = absurd (omega (arith, ap count e))
next_front ls (part ks s cs) (inr f) l = ⊎_elim
    (λ h. later_part ls ks s cs (next_front ls ks f h))
    (λ h. let same = front_whole ls ks f (omega (arith, h, front_count ls ks f)) in record { next = part ks s cs; front = inl refl; one = inr (s, (cs, ap (λ xs. part xs s cs) (sym same))) })
    (cases_lt (count ls) (count ks))

module _ (g : Grammar) (proper : Proper g) (ws : List Word) where
  -- without the last child, which yields the rest
  without : (r i : ℕ) (ks : Children) (rest : List ℕ) → Wanted g ws i (left g r) → Fits g r ks → Is (yield ks ++ rest) (between i (i + length (yield ks ++ rest)) ws)
      → i + length (yield ks ++ rest) ≤ length ws → ChosenHeld g ws r i ks → FirstChildren g ws r i ks
  without r i ks rest w f is inside chosen =
      let long = length-append (yield ks) rest in
      record {
        wanted = w;
        fits = f;
        is = subst (Is (yield ks)) (between_front ws i (i + length (yield ks ++ rest)) (length (yield ks)) (omega (arith, long))) (is_front (yield ks) rest _ is);
        inside = omega (arith, inside, long);
        chosen = chosen;
      }

  before_key : (r i : ℕ) (ks : Children) (c : ℕ) → FirstChildren g ws r i (key ks c) → FirstChildren g ws r i ks
  before_key r i ks c f = without r i ks (c ∷ []) f.wanted f.fits.0 f.is f.inside f.chosen.1

  before_part : (r i : ℕ) (ks : Children) (s : ℕ) (cs : Children) → FirstChildren g ws r i (part ks s cs) → FirstChildren g ws r i ks
  before_part r i ks s cs f = without r i ks (yield cs) f.wanted f.fits.0 f.is f.inside f.chosen.1

  pub firsts : (r i : ℕ) (ls ks : Children) → Front ls ks → FirstChildren g ws r i ks → FirstChildren g ws r i ls
  firsts r i ls none e f = subst (FirstChildren g ws r i) (sym e) f
  firsts r i ls (key ks c) (inl e) f = subst (FirstChildren g ws r i) (sym e) f
  firsts r i ls (key ks c) (inr l) f = firsts r i ls ks l (before_key r i ks c f)
  firsts r i ls (part ks s cs) (inl e) f = subst (FirstChildren g ws r i) (sym e) f
  firsts r i ls (part ks s cs) (inr l) f = firsts r i ls ks l (before_part r i ks s cs f)

  -- they are an item
  held : (r i : ℕ) (ks : Children) → FirstChildren g ws r i ks → 1 ≤ count ks → Held g ws r (count ks) i (i + length (yield ks))
  held r i ks f some = done_held g proper ws r (count ks) i (i + length (yield ks)) f.wanted (record { children = ks; fits = f.fits; many = refl; is = f.is }) some f.inside

  -- the next child may start where they end
  next_wanted : (r i X : ℕ) (ks : Children) → FirstChildren g ws r i ks → count ks < size g r → symbol g r (count ks) ≡ X → Wanted g ws (i + length (yield ks)) X
  next_wanted r i X ks f l e =
      let k = i + length (yield ks) in
      behind_wanted g proper ws k f.inside r i X ks [] f.wanted f.fits (is_begins (yield ks) [] (between i k ws) f.is) (omega arith) l e

  -- it begins as early as it can
  child_earliest : (r i k : ℕ) (ks : Children) → FirstChildren g ws r i ks → 1 ≤ count ks → count ks < size g r → k ≤ length ws
      → Covers g (symbol g r (count ks)) (between (i + length (yield ks)) k ws) → EarliestHeld g ws r (count ks) i (i + length (yield ks)) k
      → EarliestBegin g ws r (count ks) i k (i + length (yield ks))
  child_earliest r i k ks f some l short covers earliest = record {
    held = held r i ks f some;
    spans = covers_spans g proper ws (symbol g r (count ks)) (i + length (yield ks)) k (next_wanted r i (symbol g r (count ks)) ks f l refl) covers short;
    earliest = earliest;
  }

  pub key_earliest : (r i : ℕ) (ks : Children) (c : ℕ) → FirstChildren g ws r i (key ks c) → 1 ≤ count ks
      → EarliestBegin g ws r (count ks) i (i + length (yield (key ks c))) (i + length (yield ks))
  key_earliest r i ks c f some =
      let k = i + length (yield (key ks c)) in
      let near : i + length (yield ks) ≤ k = omega (arith, length-append (yield ks) (c ∷ [])) in
      let last = subst (Is (c ∷ [])) (between_back ws i k (length (yield ks)) near) (is_back (yield ks) (c ∷ []) _ f.is) in
      let single = is_single c (between (i + length (yield ks)) k ws) last in
      let covers : Covers g (symbol g r (count ks)) (between (i + length (yield ks)) k ws) = rw (f.fits.2, single.is) (Covers.word single.word f.fits.3 single.matches) in
      child_earliest r i k ks (before_key r i ks c f) some f.fits.1 f.inside covers f.chosen.0

  -- a part that is the last child: its words
  pub part_is : (r i : ℕ) (ks : Children) (s : ℕ) (cs : Children) → FirstChildren g ws r i (part ks s cs) → Is (yield cs) (between (i + length (yield ks)) (i + length (yield (part ks s cs))) ws)
  part_is r i ks s cs f =
      let near : i + length (yield ks) ≤ i + length (yield (part ks s cs)) = omega (arith, length-append (yield ks) (yield cs)) in
      subst (Is (yield cs)) (between_back ws i (i + length (yield (part ks s cs))) (length (yield ks)) near) (is_back (yield ks) (yield cs) _ f.is)

  -- its reading
  abbrev pub part_reads : (r i : ℕ) (ks : Children) (s : ℕ) (cs : Children) → FirstChildren g ws r i (part ks s cs)
      → Reads g (symbol g r (count ks)) (between (i + length (yield ks)) (i + length (yield (part ks s cs))) ws)
  part_reads r i ks s cs f = record { reading = record { by = s; children = cs; heads = sym f.fits.2; fits = f.fits.3; whole = f.fits.4 }; is = part_is r i ks s cs f }

  pub part_earliest : (r i : ℕ) (ks : Children) (s : ℕ) (cs : Children) → FirstChildren g ws r i (part ks s cs) → 1 ≤ count ks
      → EarliestBegin g ws r (count ks) i (i + length (yield (part ks s cs))) (i + length (yield ks))
  part_earliest r i ks s cs f some =
      child_earliest r i _ ks (before_part r i ks s cs f) some f.fits.1 f.inside (Covers.reading _ (part_reads r i ks s cs f)) f.chosen.0

  -- and its children are those of a first reading
  pub part_wanted : (r i : ℕ) (ks : Children) (s : ℕ) (cs : Children) → FirstChildren g ws r i (part ks s cs) → Wanted g ws (i + length (yield ks)) (symbol g r (count ks))
  part_wanted r i ks s cs f = next_wanted r i (symbol g r (count ks)) ks (before_part r i ks s cs f) f.fits.1 refl

module _ (m : Meaning) (sound : Sound m) (ws : List Word) where
  -- the children of a first reading
  pub first_children : (X i k : ℕ) → Wanted m.grammar ws i X → k ≤ length ws → (t : Reads m.grammar X (between i k ws)) → Least t
      → FirstChildren m.grammar ws t.reading.by i t.reading.children × (i + length (yield t.reading.children) ≡ k) × (Held m.grammar ws t.reading.by (size m.grammar t.reading.by) i k) × LowestHeld m.grammar ws t.reading.by i k
  first_children X i k w short t least =
      let proper = sound_proper m sound in
      let r = t.reading.by in
      let some = proper.filled r (fits_numbered m.grammar r t.reading.children t.reading.fits) in
      let done : Done m.grammar r (size m.grammar r) (between i k ws) = record { children = t.reading.children; fits = t.reading.fits; many = t.reading.whole; is = t.is } in
      let order = done_forward m.grammar proper ws r (size m.grammar r) i k done some in
      let chosen = (items_theorem m sound ws X i k w short t).0 least in
      let ends : i + length (yield t.reading.children) ≡ k = omega (arith, t.is.long, length_between ws i k (omega arith) short) in (
        record {
          wanted = subst (Wanted m.grammar ws i) (sym t.reading.heads) w;
          fits = t.reading.fits;
          is = subst (λ n. Is (yield t.reading.children) (between i n ws)) (sym ends) t.is;
          inside = omega (arith, ends);
          chosen = chosen.1;
        },
        ends,
        done_held m.grammar proper ws r (size m.grammar r) i k (subst (Wanted m.grammar ws i) (sym t.reading.heads) w) done some short,
        chosen.0,
      )

  -- the reading of a part that is the last child is the first of its words
  pub part_least : (r i : ℕ) (ks : Children) (s : ℕ) (cs : Children) (f : FirstChildren m.grammar ws r i (part ks s cs)) → Least (part_reads m.grammar (sound_proper m sound) ws r i ks s cs f)
  part_least r i ks s cs f =
      (items_theorem m sound ws _ _ _ (part_wanted m.grammar (sound_proper m sound) ws r i ks s cs f) f.inside (part_reads m.grammar (sound_proper m sound) ws r i ks s cs f)).1 (f.chosen.2, f.chosen.3)
