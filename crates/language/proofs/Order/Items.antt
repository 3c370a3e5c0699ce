-- The choice told by the items of the chart is the choice told by readings, so a reading is the first exactly when it is so
-- chosen.
use Rattle.std.proofs.Common.{◌≡◌, ℕ, ◌+◌, ◌-◌, ◌<◌, ◌≤◌, List, [], ◌∷◌, length, sym, refl, ap, ◌∙◌, subst, ⊎_elim, arith, length-append}
use Rattle.std.proofs.lemmas.Bool.{cases_lt}
use Rattle.language.specs.Book.{Grammar, left, size, symbol}
use Rattle.language.specs.Words.{Word, Is, between}
use Rattle.language.specs.Readings.{Children, none, key, part, yield, count, Fits, Done}
use Rattle.language.specs.Chart.{Wanted, next, self}
use Rattle.language.specs.Choice.{Covers, Lowest, Earliest, Chosen, LowestHeld, EarliestHeld, ChosenHeld, ItemsTheorem}
use Rattle.language.proofs.Words.{is_front, is_back}
use Rattle.language.proofs.Fits.{fits_numbered}
use Rattle.language.proofs.Columns.Bounds.{held_bounds, spans_within}
use Rattle.language.proofs.Chart.Between.{length_between, between_front, between_back}
use Rattle.language.proofs.Chart.Proper.{Proper, sound_proper}
use Rattle.language.proofs.Chart.Done.{held_done, spans_covers}
use Rattle.language.proofs.Chart.Local.{done_held, covers_spans, done_forward}
use Rattle.language.proofs.Chart.Used.{behind_wanted}
use Rattle.language.proofs.Order.Chosen.{choice_theorem}

module _ (g : Grammar) (proper : Proper g) (ws : List Word) where
  lowest_from : (r i k : ℕ) → Wanted g ws i (left g r) → k ≤ length ws → LowestHeld g ws r i k → Lowest g r (between i k ws)
  lowest_from r i k w short lowest q e done =
      let some = proper.filled q (fits_numbered g q done.children done.fits) in
      lowest q e (done_held g proper ws q (size g q) i k (subst (Wanted g ws i) (sym e) w) done some short)

  -- a beginning that is too early would be an item
  earliest_some : (r d b i k : ℕ) → Wanted g ws i (left g r) → 1 ≤ d → d < size g r → i + b ≤ k → k ≤ length ws → EarliestHeld g ws r d i (i + b) k
      → Earliest g r d b (between i k ws)
  earliest_some r d b i k w some l near short earliest j done covers = ⊎_elim early (λ h. h) (cases_lt j b)
    where
      early : j < b → b ≤ j
      early h =
          let front : Done g r d (between i (i + j) ws) = subst (Done g r d) (between_front ws i k j (omega arith)) done in
          let back : Covers g (symbol g r d) (between (i + j) k ws) = subst (Covers g (symbol g r d)) (between_back ws i k j (omega arith)) covers in
          let held = done_held g proper ws r d i (i + j) w front some (omega arith) in
          omega (arith, earliest (i + j) held (covers_spans g proper ws (symbol g r d) (i + j) k (next r d i (i + j) (symbol g r d) held l self) back short))

  earliest_from : (r i k : ℕ) (ks : Children) → Wanted g ws i (left g r) → count ks < size g r → i + length (yield ks) ≤ k → k ≤ length ws
      → EarliestHeld g ws r (count ks) i (i + length (yield ks)) k → Earliest g r (count ks) (length (yield ks)) (between i k ws)
  earliest_from r i k none w l near short e = λ j done covers. omega arith
  earliest_from r i k (key ks c) w l near short e = earliest_some r (count (key ks c)) (length (yield (key ks c))) i k w (omega arith) l near short e
  earliest_from r i k (part ks s cs) w l near short e = earliest_some r (count (part ks s cs)) (length (yield (part ks s cs))) i k w (omega arith) l near short e

  chosen_from : (r i k : ℕ) (ks : Children) → Wanted g ws i (left g r) → Fits g r ks → Is (yield ks) (between i k ws) → i + length (yield ks) ≡ k → k ≤ length ws
      → ChosenHeld g ws r i ks → Chosen g r ks (between i k ws)
  chosen_from r i k none w f is e short chosen = tt
  chosen_from r i k (key ks c) w f is e short chosen =
      let b = length (yield ks) in
      let near : i + b ≤ k = omega (arith, length-append (yield ks) (c ∷ [])) in
      let front = between_front ws i k b near in
      let before = chosen_from r i (i + b) ks w f.0 (subst (Is (yield ks)) front (is_front (yield ks) (c ∷ []) (between i k ws) is)) refl (omega arith) chosen.1 in
      (earliest_from r i k ks w f.1 near short (subst (EarliestHeld g ws r (count ks) i (i + b)) e chosen.0), subst (Chosen g r ks) (sym front) before)
  chosen_from r i k (part ks s cs) w f is e short chosen =
      let b = length (yield ks) in
      let near : i + b ≤ k = omega (arith, length-append (yield ks) (yield cs)) in
      let last : i + b + length (yield cs) ≡ k = omega (arith, length-append (yield ks) (yield cs)) in
      let front = between_front ws i k b near in
      let back = between_back ws i k b near in
      let before = chosen_from r i (i + b) ks w f.0 (subst (Is (yield ks)) front (is_front (yield ks) (yield cs) (between i k ws) is)) refl (omega arith) chosen.1 in
      let wanted = behind_wanted g proper ws k short r i (left g s) ks (yield cs) w f.0 is.begins near f.1 f.2 in
      let below = chosen_from s (i + b) k cs wanted f.3 (subst (Is (yield cs)) back (is_back (yield ks) (yield cs) (between i k ws) is)) last short chosen.3 in
      let lowest = lowest_from s (i + b) k wanted short (subst (LowestHeld g ws s (i + b)) e chosen.2) in (
        earliest_from r i k ks w f.1 near short (subst (EarliestHeld g ws r (count ks) i (i + b)) e chosen.0),
        subst (Chosen g r ks) (sym front) before,
        subst (Lowest g s) (sym back) lowest,
        subst (Chosen g s cs) (sym back) below,
      )

  -- the other way: what is held reads its words, so a choice among readings is one among items
  held_lowest : (r i k : ℕ) → Lowest g r (between i k ws) → LowestHeld g ws r i k
  held_lowest r i k lowest q e held = lowest q e (held_done g proper ws q (size g q) i k held)

  held_earliest : (r d b i k : ℕ) → Earliest g r d b (between i k ws) → EarliestHeld g ws r d i (i + b) k
  held_earliest r d b i k earliest j held spans =
      let X = symbol g r d in
      let start = held_bounds g ws proper.filled r d i j held in
      let rest = spans_within g ws proper.filled X j k spans in
      let back : i + (j - i) ≡ j = omega (arith, start.forward) in
      let near : i + (j - i) ≤ k = omega (arith, start.forward, rest.forward) in
      let front = between_front ws i k (j - i) near ∙ ap (λ n. between i n ws) back in
      let behind = between_back ws i k (j - i) near ∙ ap (λ n. between n k ws) back in
      let done = subst (Done g r d) (sym front) (held_done g proper ws r d i j held) in
      let covers = subst (Covers g X) (sym behind) (spans_covers g proper ws X j k spans) in
      omega (arith, start.forward, earliest (j - i) done covers)

  held_chosen : (r i k : ℕ) (ks : Children) → i + length (yield ks) ≡ k → Chosen g r ks (between i k ws) → ChosenHeld g ws r i ks
  held_chosen r i k none e chosen = tt
  held_chosen r i k (key ks c) e chosen =
      let b = length (yield ks) in
      let near : i + b ≤ k = omega (arith, e, length-append (yield ks) (c ∷ [])) in
      let before = subst (Chosen g r ks) (between_front ws i k b near) chosen.1 in
      (subst (EarliestHeld g ws r (count ks) i (i + b)) (sym e) (held_earliest r (count ks) b i k chosen.0), held_chosen r i (i + b) ks refl before)
  held_chosen r i k (part ks s cs) e chosen =
      let b = length (yield ks) in
      let near : i + b ≤ k = omega (arith, e, length-append (yield ks) (yield cs)) in
      let last : i + b + length (yield cs) ≡ k = omega (arith, e, length-append (yield ks) (yield cs)) in
      let back = between_back ws i k b near in
      let before = subst (Chosen g r ks) (between_front ws i k b near) chosen.1 in
      let lowest = held_lowest s (i + b) k (subst (Lowest g s) back chosen.2) in (
        subst (EarliestHeld g ws r (count ks) i (i + b)) (sym e) (held_earliest r (count ks) b i k chosen.0),
        held_chosen r i (i + b) ks refl before,
        subst (LowestHeld g ws s (i + b)) (sym e) lowest,
        held_chosen s (i + b) k cs last (subst (Chosen g s cs) back chosen.3),
      )

-- a reading is the first exactly when it is chosen by the items
pub items_theorem : ItemsTheorem
items_theorem m sound ws X i k w short t =
    let g = m.grammar in
    let proper = sound_proper m sound in
    let r = t.reading.by in
    let ks = t.reading.children in
    let fits = t.reading.fits in
    let wanted = subst (Wanted g ws i) (sym t.reading.heads) w in
    let some = proper.filled r (fits_numbered g r ks fits) in
    let forward : i < k = done_forward g proper ws r (size g r) i k (record { children = ks; fits = fits; many = t.reading.whole; is = t.is }) some in
    let long : i + length (yield ks) ≡ k = omega (arith, t.is.long, length_between ws i k (omega arith) short) in
    let choice = choice_theorem m sound X (between i k ws) t in (
      (λ least. let c = choice.0 least in (held_lowest g proper ws r i k c.0, held_chosen g proper ws r i k ks long c.1)),
      (λ held. choice.1 (lowest_from g proper ws r i k wanted short held.0, chosen_from g proper ws r i k ks wanted fits t.is long short held.1)),
    )
