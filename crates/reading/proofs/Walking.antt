-- The walk from one child to the one before it.
use Rattle.std.proofs.Common.{◌≡◌, ℕ, zero, suc, ◌+◌, ◌-◌, ◌<◌, ◌≤◌, List, [], ◌∷◌, ◌++◌, length, slice_index, sym, refl, ap, ◌∙◌, subst, inr, arith, length-append}
use Rattle.std.proofs.lemmas.List.{append_assoc, append-nil}
use Rattle.language.specs.Book.{Grammar, size, symbol}
use Rattle.language.specs.Words.{Word}
use Rattle.language.specs.Readings.{Children, none, key, part, yield, count}
use Rattle.language.specs.Moves.{behind, inner}
use Rattle.language.proofs.Fits.{fits_numbered, fits_count, no_children}
use Rattle.language.proofs.Chart.Local.{yield_some}
use Rattle.soundbook.specs.Sounds.{sound_meaning}
use Rattle.soundbook.specs.declared.sounds.SoundBook.{SoundBook}
use Rattle.reading.specs.Choices.{Begin, ChoosesFirst, FirstChildren}
use Rattle.reading.specs.Walks.{OpenIs, OpensFirst, Pending, Owed, shortened}
use Rattle.reading.specs.declared.choices.Choice.{Choice}
use Rattle.reading.specs.declared.walks.Open.{Open}
use Rattle.reading.proofs.Choosing.{plain_as, proper_as}
use Rattle.reading.proofs.Fronts.{front_all, firsts}
use Rattle.reading.proofs.Chosen.{first_known, part_first}

module _ (book : SoundBook) (g : Grammar) (same : (sound_meaning book).grammar ≡ g) (ws : List Word) where
  -- the chosen rule is open
  pub opens : (X i k : ℕ) (c : Choice) → ChoosesFirst g ws X i k c → (n : ℕ) → n ≡ size (sound_meaning book).grammar c.rule → OpensFirst g ws X i k (record { choice = c; done = n; end = k })
  opens X i k c chooses n answer w short t least =
      let known = first_known book g same ws X i k w short t least in
      let is = chooses w short t least in
      let ks = t.reading.children in
      let many : n ≡ count ks = answer ∙ (ap (λ h. size h c.rule) same ∙ (ap (size g) is.rule ∙ sym t.reading.whole)) in
      let some = (plain_as book g same).some_symbols t.reading.by (fits_numbered g t.reading.by ks t.reading.fits) in (
        is.rule,
        record {
          first = subst (λ r. FirstChildren g ws r i ks) (sym is.rule) known.0;
          begins = is.begins;
          done = many;
          some = omega (arith, t.reading.whole, some);
          end = sym known.1;
        },
      )

  -- each open rule has a word of its own
  pending_few : (os : List Open) (k : ℕ) (ns : List ℕ) → Pending g ws os k ns → length os ≤ k
  pending_few [] k ns p = omega arith
  pending_few (o ∷ os) k ns (i, ks, before, p, is, e, told) =
      omega (arith, pending_few os i before p, e, yield_some g (proper_as book g same) o.choice.rule ks is.first.fits is.some)

  -- the rule on top of the stack
  record Top (span : Open) (os : List Open) (ns : List ℕ) : Type 0 where
    i : ℕ
    ks : Children
    before : List ℕ
    pending : Pending g ws os i before
    is : OpenIs g ws span i ks
    inside : i + length (yield ks) ≤ length ws
    told : ns ≡ before ++ inner span.choice.rule ks

  top_of : (span : Open) (os : List Open) (ns : List ℕ) → Owed g ws (span ∷ os) ns → Top span os ns
  top_of span os ns o =
      let (i, ks, before, p, is, e, told) = o.pending in
      record { i = i; ks = ks; before = before; pending = p; is = is; inside = omega (arith, o.inside, e); told = told }

  -- it has a symbol at the place of its last child
  pub record Safe (span : Open) : Type 0 where
    pub some : 1 ≤ span.done
    pub few : span.done ≤ 6
    pub small : span.choice.rule < 256

  pub safe : (xs : List Open) (span : Open) (os : List Open) → xs ≡ span ∷ os → (ns : List ℕ) × Owed g ws xs ns → Safe span
  safe xs span os is (ns, o) =
      let t = top_of span os ns (subst (λ ys. Owed g ws ys ns) is o) in
      let p = plain_as book g same in
      let n = fits_numbered g span.choice.rule t.ks t.is.first.fits in
      record {
        some = omega (arith, t.is.done, t.is.some);
        few = omega (arith, t.is.done, fits_count g span.choice.rule t.ks t.is.first.fits, p.few_symbols span.choice.rule n);
        small = omega (arith, n.high, p.few_rules);
      }

  -- without its last child
  shorter : (span : Open) (os : List Open) (i : ℕ) (ls : Children) (before : List ℕ) (place begin : ℕ) → Pending g ws os i before → FirstChildren g ws span.choice.rule i ls → Begin i span.choice.begins ls
      → place ≡ count ls → begin ≡ i + length (yield ls) → Pending g ws (shortened span place begin os) (i + length (yield ls)) (before ++ inner span.choice.rule ls)
  shorter span os i ls before zero begin p first begins e at =
      let nothing = no_children ls (sym e) in
      let here : i ≡ i + length (yield ls) = omega (arith, ap (λ xs. length (yield xs)) nothing) in
      let told : before ≡ before ++ inner span.choice.rule ls = sym (append-nil before) ∙ ap (λ xs. before ++ inner span.choice.rule xs) (sym nothing) in
      subst (λ k. Pending g ws os k (before ++ inner span.choice.rule ls)) here (subst (Pending g ws os i) told p)
  shorter span os i ls before (suc d) begin p first begins e at =
      (i, ls, before, p, record { first = first; begins = begins; done = e; some = omega (arith, e); end = at }, refl, refl)

  module _ (few : length ws ≤ 100) (span : Open) (old os new : List Open) (popped : old ≡ span ∷ os) (place begin : ℕ) (last : place ≡ span.done - 1) (at : begin ≡ slice_index span.choice.begins place)
      (short : length os < 100 → new ≡ shortened span place begin os) (answer : ℕ) (symbol_is : answer ≡ symbol (sound_meaning book).grammar span.choice.rule place)
      (mark : ℕ) (mark_is : mark ≡ behind span.choice.rule place) where
    abbrev r : ℕ
    r = span.choice.rule

    -- what is left when the last child is told
    record Left (i : ℕ) (ls : Children) (before : List ℕ) : Type 0 where
      first : FirstChildren g ws r i ls
      here : begin ≡ i + length (yield ls)
      one : place ≡ count ls
      pending : Pending g ws new (i + length (yield ls)) (before ++ inner r ls)

    left_of : (i : ℕ) (ls : Children) (before : List ℕ) → Pending g ws os i before → FirstChildren g ws r i ls → Begin i span.choice.begins ls → place ≡ count ls → begin ≡ i + length (yield ls)
        → i < 100 → Left i ls before
    left_of i ls before p first begins e at h = record {
      first = first;
      here = at;
      one = e;
      pending = subst (λ xs. Pending g ws xs (i + length (yield ls)) (before ++ inner r ls)) (sym (short (omega (arith, pending_few os i before p, h)))) (shorter span os i ls before place begin p first begins e at);
    }

    answer_is : (ls : Children) → place ≡ count ls → answer ≡ symbol g r (count ls)
    answer_is ls e = symbol_is ∙ (ap (λ h. symbol h r place) same ∙ ap (symbol g r) e)

    mark_of : (ls : Children) → place ≡ count ls → mark ≡ behind r (count ls)
    mark_of ls e = mark_is ∙ ap (behind r) e

    -- the last child is a key
    pub told_key : 32 < answer → (ns : List ℕ) → Owed g ws old ns → (before : List ℕ) × Owed g ws new before × (ns ≡ before ++ (mark ∷ []))
    told_key high ns o = by t.ks t.is t.inside t.told
      where
        t : Top span os ns
        t = top_of span os ns (subst (λ ys. Owed g ws ys ns) popped o)

        by : (ks : Children) → OpenIs g ws span t.i ks → t.i + length (yield ks) ≤ length ws → ns ≡ t.before ++ inner r ks → (before : List ℕ) × Owed g ws new before × (ns ≡ before ++ (mark ∷ []))
        by none is inside told = absurd (omega (arith, is.some))
        by (key ls c) is inside told =
            let f = firsts g (proper_as book g same) ws r t.i ls (key ls c) (inr (front_all ls)) is.first in
            let e : place ≡ count ls = omega (arith, last, is.done) in
            let begins : Begin t.i span.choice.begins ls = λ fs x l. is.begins fs (inr x) (omega arith) in
            let here = at ∙ (ap (slice_index span.choice.begins) e ∙ is.begins ls (inr (front_all ls)) (omega arith)) in
            let l = left_of t.i ls t.before t.pending f begins e here (omega (arith, inside, few, length-append (yield ls) (c ∷ []))) in (
              t.before ++ inner r ls,
              record { end = t.i + length (yield ls); pending = l.pending; inside = f.inside },
              told ∙ (sym (append_assoc t.before (inner r ls) (behind r (count ls) ∷ [])) ∙ ap (λ x. (t.before ++ inner r ls) ++ (x ∷ [])) (sym (mark_of ls e))),
            )
        by (part ls s cs) is inside told =
            let e : place ≡ count ls = omega (arith, last, is.done) in
            let f = is.first.fits in
            let low = (plain_as book g same).left_high s (fits_numbered g s cs f.3) in
            absurd (omega (arith, high, answer_is ls e, f.2, low))

    -- or a part, whose rule is opened
    pub told_part : (top : Open) (newest : List Open) → answer ≤ 32 → OpensFirst g ws answer begin span.end top → (length new < 100 → newest ≡ top ∷ new)
        → (ns : List ℕ) → Owed g ws old ns → (before : List ℕ) × Owed g ws newest before × (ns ≡ before ++ (0 ∷ mark ∷ []))
    told_part top newest low opens kept ns o = by t.ks t.is t.inside t.told
      where
        t : Top span os ns
        t = top_of span os ns (subst (λ ys. Owed g ws ys ns) popped o)

        by : (ks : Children) → OpenIs g ws span t.i ks → t.i + length (yield ks) ≤ length ws → ns ≡ t.before ++ inner r ks → (before : List ℕ) × Owed g ws newest before × (ns ≡ before ++ (0 ∷ mark ∷ []))
        by none is inside told = absurd (omega (arith, is.some))
        by (key ls c) is inside told =
            let e : place ≡ count ls = omega (arith, last, is.done) in
            absurd (omega (arith, low, answer_is ls e, is.first.fits.2, is.first.fits.3.low))
        by (part ls s cs) is inside told =
            let f = firsts g (proper_as book g same) ws r t.i ls (part ls s cs) (inr (front_all ls)) is.first in
            let e : place ≡ count ls = omega (arith, last, is.done) in
            let begins : Begin t.i span.choice.begins ls = λ fs x l. is.begins fs (inr x) (omega arith) in
            let here = at ∙ (ap (slice_index span.choice.begins) e ∙ is.begins ls (inr (front_all ls)) (omega arith)) in
            let fits = is.first.fits in
            let numbered = fits_numbered g s cs fits.3 in
            let long = yield_some g (proper_as book g same) s cs fits.3 (omega (arith, fits.4, (plain_as book g same).some_symbols s numbered)) in
            let before_end : t.i + length (yield ls) < 100 = omega (arith, inside, few, long, length-append (yield ls) (yield cs)) in
            let l = left_of t.i ls t.before t.pending f begins e here (omega arith) in
            let child = part_first book g same ws r t.i ls s cs is.first in
            let opens_there =
            subst (λ X. OpensFirst g ws X (t.i + length (yield ls)) (t.i + length (yield (part ls s cs))) top) (answer_is ls e)
            (subst (λ b. OpensFirst g ws answer b (t.i + length (yield (part ls s cs))) top) here
            (subst (λ k. OpensFirst g ws answer begin k top) is.end opens)) in
            let opened = opens_there child.wanted inside child.reads child.least in
            let stands : OpenIs g ws top (t.i + length (yield ls)) cs = subst (OpenIs g ws top (t.i + length (yield ls))) child.children opened.1 in
            let rule_is : top.choice.rule ≡ s = opened.0 ∙ child.by in
            let before = t.before ++ inner r ls in
            let pending : Pending g ws (top ∷ new) (t.i + length (yield (part ls s cs))) (before ++ inner top.choice.rule cs) =
            (t.i + length (yield ls), cs, before, l.pending, stands, omega (arith, length-append (yield ls) (yield cs)), refl) in (
              before ++ inner top.choice.rule cs,
              record {
                end = t.i + length (yield (part ls s cs));
                pending = subst (λ xs. Pending g ws xs (t.i + length (yield (part ls s cs))) (before ++ inner top.choice.rule cs)) (sym (kept (omega (arith, pending_few new (t.i + length (yield ls)) before l.pending, before_end)))) pending;
                inside = inside;
              },
              told ∙ (sym (append_assoc t.before (inner r ls) (inner s cs ++ (0 ∷ behind r (count ls) ∷ [])))
                  ∙ (ap (λ x. before ++ (inner s cs ++ (0 ∷ x ∷ []))) (sym (mark_of ls e))
                  ∙ (ap (λ q. before ++ (inner q cs ++ (0 ∷ mark ∷ []))) (sym rule_is) ∙ sym (append_assoc before (inner top.choice.rule cs) (0 ∷ mark ∷ []))))),
            )
