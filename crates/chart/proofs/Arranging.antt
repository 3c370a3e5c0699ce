-- What may start after the new word, and its items with the unfinished ones in front.
use Rattle.std.proofs.Common.{◌≡◌, ℕ, suc, ◌<◌, ◌≤◌, IsTrue, ◌↔◌, sym, refl, ap, ◌∙◌, subst, ⊎_elim, arith}
use Rattle.std.proofs.lemmas.Bool.{cases_eq, cases_lt, both_ways}
use Rattle.language.specs.Book.{Grammar, Numbered, size, symbol}
use Rattle.language.specs.Chart.{Corner, Held, Wanted, self, down, first, next}
use Rattle.rulebook.specs.Sets.{has}
use Rattle.rulebook.specs.declared.sets.SymbolSet.{SymbolSet}
use Rattle.rulebook.proofs.Holding.{holds_none}
use Rattle.wording.specs.declared.pressed.Matched.{Matched}
use Rattle.chart.specs.Boards.{Swapped, at_place}
use Rattle.chart.specs.Filling.{NextCorner, HeldHere, AllStand, Complete}
use Rattle.chart.specs.Indexes.{corners_at}
use Rattle.chart.specs.Ready.{Ready}
use Rattle.chart.specs.Records.{grammar_of, words_with, used_of}
use Rattle.chart.specs.Sifting.{Reordered, SplitAt}
use Rattle.chart.specs.declared.boards.Board.{Board}
use Rattle.chart.specs.declared.items.Item.{Item}
use Rattle.chart.specs.declared.records.Settled.{Settled}
use Rattle.soundbook.proofs.Plain.{Plain, first_low, first_high}
use Rattle.chart.proofs.Entering.{plain_of}

-- the left corners of a symbol of the book are symbols that a set can hold
pub record Known (X : ℕ) : Type 0 where
  pub low : 1 ≤ X
  pub high : X ≤ 64

pub corner_known : (g : Grammar) → Plain g → (X Y : ℕ) → Known X → Corner g X Y → Known Y
corner_known g p X _ k self = k
corner_known g p X _ k (down r n c) = record { low = first_low g p r n; high = first_high g p r n }

-- some item from one place to before another has the left corner Y next
pub record SomeNext (g : Grammar) (b : Board) (from past Y : ℕ) : Type 0 where
  pub place : ℕ
  pub low : from ≤ place
  pub high : place < past
  pub corner : NextCorner g (at_place b place) Y

-- the set holds the left corners that are next of the items from one place to before another
abbrev pub Gathered : Grammar → Board → ℕ → ℕ → SymbolSet → Type 0
Gathered g b from past t = (Y : ℕ) → IsTrue (has t Y) ↔ SomeNext g b from past Y

pub gathered_none : (g : Grammar) (b : Board) (from at : ℕ) → at ≤ from → Gathered g b from at (record { mask = 0 })
gathered_none g b from at e Y = (λ h. absurd (both_ways _ (holds_none Y) h), λ x. absurd (omega (arith, x.low, x.high)))

module _ (s : Settled) (w : Matched) (ready : Ready s w) where
  -- the set of an unfinished item's next left corners
  pub corners_next : (t : Item) (X : ℕ) (u : SymbolSet) → Numbered (grammar_of s) t.rule → t.done < size (grammar_of s) t.rule → X ≡ symbol (grammar_of s) t.rule t.done → u ≡ corners_at s.index X
      → (Y : ℕ) → IsTrue (has u Y) ↔ NextCorner (grammar_of s) t Y
  corners_next t X u n l is e Y =
      let p = plain_of s in
      let known : Known (symbol (grammar_of s) t.rule t.done) = record { low = p.symbol_low t.rule t.done n l; high = p.symbol_high t.rule t.done n l } in
      let kept = subst (λ x. IsTrue (has x Y) ↔ ((1 ≤ Y) × (Y ≤ 64) × Corner (grammar_of s) (symbol (grammar_of s) t.rule t.done) Y)) (sym (e ∙ ap (corners_at s.index) is)) (ready.index.corners (symbol (grammar_of s) t.rule t.done) known.low known.high Y) in (
        λ h. record { unfinished = l; corner = (kept.0 h).2 },
        λ x. let k = corner_known (grammar_of s) p _ Y known x.corner in kept.1 (k.low, k.high, x.corner),
      )

  pub corners_none : (t : Item) → size (grammar_of s) t.rule ≤ t.done → (Y : ℕ) → IsTrue (has (record { mask = 0 }) Y) ↔ NextCorner (grammar_of s) t Y
  corners_none t l Y = (λ h. absurd (both_ways _ (holds_none Y) h), λ x. absurd (omega (arith, x.unfinished)))

  -- what all items of the column have next is what may start after the new word
  pub gathered_all : (b : Board) (t : SymbolSet) → Complete s w b → Gathered (grammar_of s) b (used_of s) b.top t → (Y : ℕ) → IsTrue (has t Y) ↔ Wanted (grammar_of s) (words_with s w) (suc s.held) Y
  gathered_all b t all got Y = (λ h. starts ((got Y).0 h), λ h. (got Y).1 (stands (suc s.held) Y h refl))
    where
      starts : SomeNext (grammar_of s) b (used_of s) b.top Y → Wanted (grammar_of s) (words_with s w) (suc s.held) Y
      starts x =
          let t = at_place b x.place in
          next t.rule t.done t.start (suc s.held) Y (subst (Held (grammar_of s) (words_with s w) t.rule t.done t.start) (all.column x.place x.low x.high) (all.items x.place x.high)) x.corner.unfinished x.corner.corner

      stands : (k Y : ℕ) → Wanted (grammar_of s) (words_with s w) k Y → k ≡ suc s.held → SomeNext (grammar_of s) b (used_of s) b.top Y
      stands _ _ (first Y c) e = absurd (omega arith)
      stands _ _ (next r d i k Y h l c) e =
          let x = all.all r d i (subst (Held (grammar_of s) (words_with s w) r d i) e h) in
          record { place = x.place; low = x.low; high = x.high; corner = subst (λ u. NextCorner (grammar_of s) u Y) (sym x.is) (record { unfinished = l; corner = c }) }

  -- two items of the column are changed over
  module _ (old new : Board) (a b : ℕ) (was : Complete s w old) (low : used_of s ≤ a) (order : a ≤ b) (high : b < old.top) (swap : Swapped old new a b) where
    -- what stands at a place stood there, or at the other of the two
    record Came (q : ℕ) : Type 0 where
      from : ℕ
      inside : from < old.top
      back : used_of s ≤ q → used_of s ≤ from
      is : at_place new q ≡ at_place old from
      there : at_place new from ≡ at_place old q

    came : (q : ℕ) → q < old.top → Came q
    came q l = ⊎_elim
        (λ e. record { from = b; inside = high; back = λ h. omega arith; is = ap (at_place new) e ∙ swap.first; there = swap.second ∙ ap (at_place old) (sym e) })
        (λ ne. ⊎_elim
        (λ e. record { from = a; inside = omega arith; back = λ h. low; is = ap (at_place new) e ∙ swap.second; there = swap.first ∙ ap (at_place old) (sym e) })
        (λ no. record { from = q; inside = l; back = λ h. h; is = swap.others q ne no; there = swap.others q ne no })
        (cases_eq q b))
        (cases_eq q a)

    differ : (p q : ℕ) → p < old.top → q < old.top → (p ≡ q → ⊥) → at_place old p ≡ at_place old q → ⊥
    differ p q l k ne e = ⊎_elim (λ h. was.apart p q h k e) (λ h. was.apart q p (omega arith) l (sym e)) (cases_lt p q)

    swapped_apart : (p q : ℕ) → p < q → q < new.top → at_place new p ≡ at_place new q → ⊥
    swapped_apart p q l k e =
        let x = came p (omega (arith, swap.top)) in
        let y = came q (omega (arith, swap.top)) in
        ⊎_elim
        (λ same. differ p q (omega (arith, swap.top)) (omega (arith, swap.top)) (λ h. omega arith) (sym x.there ∙ (ap (at_place new) same ∙ y.there)))
        (λ ne. differ x.from y.from x.inside y.inside ne (sym x.is ∙ (e ∙ y.is)))
        (cases_eq x.from y.from)

    swapped_all : AllStand s w new
    swapped_all r d i h =
        let x = was.all r d i h in
        let y = came x.place x.high in
        record { place = y.from; low = y.back x.low; high = omega (arith, y.inside, swap.top); is = y.there ∙ x.is }

    pub swapped_complete : Complete s w new
    swapped_complete = record {
      begins = omega (arith, was.begins, swap.top);
      items = λ q l. let x = came q (omega (arith, swap.top)) in subst (HeldHere s w) (sym x.is) (was.items x.from x.inside);
      apart = swapped_apart;
      column = λ q k l. let x = came q (omega (arith, swap.top)) in ap (λ (t : Item). t.end) x.is ∙ was.column x.from (x.back k) x.inside;
      all = swapped_all;
    }

    pub swapped_reordered : Reordered (used_of s) old new
    swapped_reordered = record {
      limit = swap.limit;
      top = swap.top;
      long = swap.long;
      before = λ q l. swap.others q (λ e. omega arith) (λ e. omega arith);
      after = λ q l. swap.others q (λ e. omega arith) (λ e. omega arith);
    }

    -- an unfinished item comes in front of the finished ones
    pub swapped_split : (m : ℕ) → m ≡ suc a → SplitAt (grammar_of s) old (used_of s) a b → (at_place old b).done < size (grammar_of s) (at_place old b).rule → SplitAt (grammar_of s) new (used_of s) m (suc b)
    swapped_split m e split here = record { low = omega arith; high = omega arith; unfinished = unfinished; finished = finished }
      where
        unfinished : (q : ℕ) → used_of s ≤ q → q < m → (at_place new q).done < size (grammar_of s) (at_place new q).rule
        unfinished q k l = ⊎_elim
            (λ same. subst (λ (t : Item). t.done < size (grammar_of s) t.rule) (sym (ap (at_place new) same ∙ swap.first)) here)
            (λ ne. subst (λ (t : Item). t.done < size (grammar_of s) t.rule) (sym (swap.others q ne (λ x. omega arith))) (split.unfinished q k (omega arith)))
            (cases_eq q a)

        finished : (q : ℕ) → m ≤ q → q < suc b → (at_place new q).done ≡ size (grammar_of s) (at_place new q).rule
        finished q k l = ⊎_elim
            (λ same. subst (λ (t : Item). t.done ≡ size (grammar_of s) t.rule) (sym (ap (at_place new) same ∙ swap.second)) (split.finished a (omega arith) (omega arith)))
            (λ ne. subst (λ (t : Item). t.done ≡ size (grammar_of s) t.rule) (sym (swap.others q (λ x. omega arith) ne)) (split.finished q (omega arith) (omega arith)))
            (cases_eq q b)
