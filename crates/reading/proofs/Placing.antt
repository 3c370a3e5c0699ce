-- The beginnings of the children of a rule are told one by one, from the last leftwards.
use Rattle.std.proofs.Common.{◌≡◌, ℕ, suc, ◌+◌, ◌-◌, ◌<◌, ◌≤◌, ◌⊎◌, List, length, slice_index, slice_set, inl, inr, replicate, sym, refl, ap, ◌∙◌, subst, ⊎_elim, arith}
use Rattle.std.proofs.lemmas.Bool.{cases_lt, cases_eq}
use Rattle.std.proofs.lemmas.List.{get_or-set_same, get_or-set_other, length-set}
use Rattle.language.specs.Book.{Grammar, size}
use Rattle.language.specs.Words.{Word}
use Rattle.language.specs.Readings.{Children, key, part, yield, count}
use Rattle.language.proofs.Chart.Proper.{Proper}
use Rattle.language.proofs.Fits.{no_children, fits_numbered}
use Rattle.soundbook.specs.Sounds.{sound_meaning}
use Rattle.soundbook.specs.declared.sounds.SoundBook.{SoundBook}
use Rattle.reading.proofs.Choosing.{plain_as, proper_as}
use Rattle.reading.specs.Choices.{Begin, EarliestBegin, FirstChildren, Front}
use Rattle.reading.proofs.Fronts.{front_whole, NextFront, next_front, firsts, key_earliest, part_earliest}

-- the first children, so many, end at a word, and the others' beginnings are told
pub record Placed (i : ℕ) (ks : Children) (until place : ℕ) (at : List ℕ) : Type 0 where
  pub long : length at ≡ 6
  pub some : 1 ≤ place
  pub few : place ≤ count ks
  pub low : slice_index at 0 ≡ i
  pub ends : (ls : Children) → Front ls ks → count ls ≡ place → until ≡ i + length (yield ls)
  pub begins : (ls : Children) → Front ls ks → place ≤ count ls → count ls < count ks → slice_index at (count ls) ≡ i + length (yield ls)

-- before the last child
pub placed_last : (i : ℕ) (ks : Children) (k : ℕ) → 1 ≤ count ks → i + length (yield ks) ≡ k → Placed i ks k (count ks) (replicate 6 i)
placed_last i ks k some ends = record {
  long = refl;
  some = some;
  few = omega arith;
  low = refl;
  ends = λ ls f e. sym ends ∙ ap (λ xs. i + length (yield xs)) (sym (front_whole ls ks f e));
  begins = λ ls f low high. absurd (omega arith);
}

-- behind the first child
pub placed_first : (i : ℕ) (ks : Children) (until : ℕ) (at : List ℕ) → Placed i ks until 1 at → Begin i at ks
placed_first i ks until at p ls f l = ⊎_elim
    (λ h.
    let nothing = no_children ls (omega (arith, h)) in
    subst (λ xs. slice_index at (count xs) ≡ i + length (yield xs)) (sym nothing) (p.low ∙ omega arith))
    (λ h. p.begins ls f (omega arith) l)
    (cases_lt (count ls) 1)

module _ (g : Grammar) (proper : Proper g) (ws : List Word) (r i : ℕ) (ks : Children) (all : FirstChildren g ws r i ks) where
  -- where the child behind the first children begins
  next_begins : (ls : Children) (until : ℕ) → Front ls ks → 1 ≤ count ls → count ls < count ks
      → ((ns : Children) → Front ns ks → count ns ≡ suc (count ls) → until ≡ i + length (yield ns)) → EarliestBegin g ws r (count ls) i until (i + length (yield ls))
  next_begins ls until f some l ends = by n.one
    where
      n : NextFront ls ks
      n = next_front ls ks f l

      here : FirstChildren g ws r i n.next
      here = firsts g proper ws r i n.next ks n.front all

      by : ((c : ℕ) × (n.next ≡ key ls c)) ⊎ ((s : ℕ) × ((cs : Children) × (n.next ≡ part ls s cs))) → EarliestBegin g ws r (count ls) i until (i + length (yield ls))
      by (inl (c, e)) =
          let at = ends n.next n.front (ap count e) ∙ ap (λ xs. i + length (yield xs)) e in
          subst (λ k. EarliestBegin g ws r (count ls) i k (i + length (yield ls))) (sym at) (key_earliest g proper ws r i ls c (subst (FirstChildren g ws r i) e here) some)
      by (inr (s, (cs, e))) =
          let at = ends n.next n.front (ap count e) ∙ ap (λ xs. i + length (yield xs)) e in
          subst (λ k. EarliestBegin g ws r (count ls) i k (i + length (yield ls))) (sym at) (part_earliest g proper ws r i ls s cs (subst (FirstChildren g ws r i) e here) some)

  -- one child more, whose beginning was found
  pub placed_more : (until place d begin : ℕ) (at : List ℕ) → Placed i ks until place at → place ≡ suc d → 1 ≤ d → d < 6
      → ((b : ℕ) → EarliestBegin g ws r d i until b → begin ≡ b) → Placed i ks begin d (slice_set at d begin)
  placed_more until place d begin at p e some small found = record {
    long = length-set at d begin ∙ p.long;
    some = some;
    few = omega (arith, p.few, e);
    low = get_or-set_other at d 0 begin 0 (λ z. omega arith) ∙ p.low;
    ends = begin_is;
    begins = λ ls f low high. ⊎_elim
        (λ h. ap (slice_index (slice_set at d begin)) h ∙ (get_or-set_same at d begin 0 (omega (arith, p.long)) ∙ begin_is ls f h))
        (λ ne. get_or-set_other at d (count ls) begin 0 (λ z. ne z) ∙ p.begins ls f (omega (arith, ne, e)) high)
        (cases_eq (count ls) d);
  }
    where
      begin_is : (ls : Children) → Front ls ks → count ls ≡ d → begin ≡ i + length (yield ls)
      begin_is ls f h =
          found (i + length (yield ls)) (subst (λ n. EarliestBegin g ws r n i until (i + length (yield ls))) h
          (next_begins ls until f (omega (arith, h)) (omega (arith, h, p.few, e)) (λ ns x y. p.ends ns x (omega (arith, y, h, e)))))

-- the same, told by the book of the draft and by the numbers that the loop has
module _ (book : SoundBook) (g : Grammar) (same : (sound_meaning book).grammar ≡ g) (ws : List Word) (r i : ℕ) (ks : Children) (all : FirstChildren g ws r i ks) where
  pub placed_start : (k n : ℕ) → n ≡ size (sound_meaning book).grammar r → count ks ≡ size g r → i + length (yield ks) ≡ k → Placed i ks k n (replicate 6 i)
  placed_start k n answer many ends =
      let some = (plain_as book g same).some_symbols r (fits_numbered g r ks all.fits) in
      let is : count ks ≡ n = many ∙ (ap (λ h. size h r) (sym same) ∙ sym answer) in
      subst (λ p. Placed i ks k p (replicate 6 i)) is (placed_last i ks k (omega (arith, many, some)) ends)

  pub placed_next : (until place d begin : ℕ) (at : List ℕ) → Placed i ks until place at → 1 < place → d ≡ place - 1 → d < 6
      → ((b : ℕ) → EarliestBegin g ws r (place - 1) i until b → begin ≡ b) → Placed i ks begin (place - 1) (slice_set at d begin)
  placed_next until place d begin at p l e small found =
      subst (λ n. Placed i ks begin n (slice_set at d begin)) e
      (placed_more g (proper_as book g same) ws r i ks all until place d begin at p (omega (arith, l, e)) (omega (arith, l, e)) small (λ b first. found b (subst (λ n. EarliestBegin g ws r n i until b) e first)))
