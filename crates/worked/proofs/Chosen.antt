-- Tests that compute whether a tree is a reading of the words, and whether it is chosen by the items over them.
use Rattle.std.proofs.Common.{◌≡◌, ℕ, zero, suc, ◌+◌, ◌-◌, ◌<◌, Bool, true, false, not, ◌&&◌, eqb, ltb, List, [], ◌∷◌, length, refl, ⊎_elim, arith}
use Rattle.std.proofs.lemmas.Bool.{and_parts, and_from, eqb-true, eq-eqb, ltb-true, cases_lt, not-true, both_ways}
use Rattle.std.proofs.lemmas.Float.{T_from_true}
use Rattle.language.specs.Book.{Grammar, Numbered, left, size, symbol}
use Rattle.language.specs.Words.{Word, Begins}
use Rattle.language.specs.Readings.{Children, none, key, part, yield, count, Fits, Item, item, Reads}
use Rattle.language.specs.Machine.{is_key, is_rule}
use Rattle.language.specs.Chart.{Held, Spans}
use Rattle.language.specs.Columns.{InBounds, Among}
use Rattle.language.specs.Choice.{LowestHeld, EarliestHeld, ChosenHeld}
use Rattle.worked.proofs.Check.{any, member_any}
use Rattle.language.proofs.Tests.{key_test, rule_test}
use Rattle.worked.proofs.Items.{spanned}
use Rattle.worked.proofs.Closed.{all_below, below_at, same_item, same_self}

-- the children stand in order under rule r
unfoldable pub fitting : Grammar → ℕ → Children → Bool
fitting g r none = is_rule g r
fitting g r (key ks c) = fitting g r ks && (ltb (count ks) (size g r) && (eqb (symbol g r (count ks)) c && is_key g c))
fitting g r (part ks s cs) = fitting g r ks && (ltb (count ks) (size g r) && (eqb (symbol g r (count ks)) (left g s) && (fitting g s cs && eqb (count cs) (size g s))))

pub fitting_fits : (g : Grammar) (r : ℕ) (ks : Children) → fitting g r ks ≡ true → Fits g r ks
unfolding fitting
fitting_fits g r none h = rule_test g r h
fitting_fits g r (key ks c) h =
    let p = and_parts (fitting g r ks) _ h in
    let q = and_parts (ltb (count ks) (size g r)) _ p.1 in
    let s = and_parts (eqb (symbol g r (count ks)) c) (is_key g c) q.1 in
    (fitting_fits g r ks p.0, ltb-true _ _ q.0, eqb-true _ _ s.0, key_test g c s.1)
fitting_fits g r (part ks t cs) h =
    let p = and_parts (fitting g r ks) _ h in
    let q = and_parts (ltb (count ks) (size g r)) _ p.1 in
    let s = and_parts (eqb (symbol g r (count ks)) (left g t)) _ q.1 in
    let u = and_parts (fitting g t cs) (eqb (count cs) (size g t)) s.1 in
    (fitting_fits g r ks p.0, ltb-true _ _ q.0, eqb-true _ _ s.0, fitting_fits g t cs u.0, eqb-true _ _ u.1)

-- the words match the keys one by one, and are as many
unfoldable pub matched : List ℕ → List Word → Bool
matched [] [] = true
matched [] (w ∷ ws) = false
matched (c ∷ p) [] = false
matched (c ∷ p) (w ∷ ws) = w c && matched p ws

pub matched_begins : (p : List ℕ) (ws : List Word) → matched p ws ≡ true → Begins p ws × (length p ≡ length ws)
unfolding matched
matched_begins [] [] h = (tt, refl)
matched_begins [] (w ∷ ws) h = absurd (both_ways false refl h)
matched_begins (c ∷ p) [] h = absurd (both_ways false refl h)
matched_begins (c ∷ p) (w ∷ ws) h =
    let q = and_parts (w c) (matched p ws) h in
    let rest = matched_begins p ws q.1 in
    ((T_from_true (w c) q.0, rest.0), omega (arith, rest.1))

-- the rule with the children is a reading of the words by the part X
unfoldable pub reading : Grammar → ℕ → List Word → ℕ → Children → Bool
reading g X ws r ks = (eqb (left g r) X && fitting g r ks) && (eqb (count ks) (size g r) && matched (yield ks) ws)

unfoldable pub reading_reads : (g : Grammar) (X : ℕ) (ws : List Word) (r : ℕ) (ks : Children) → reading g X ws r ks ≡ true → Reads g X ws
unfolding reading
reading_reads g X ws r ks h =
    let p = and_parts (eqb (left g r) X && fitting g r ks) _ h in
    let q = and_parts (eqb (left g r) X) (fitting g r ks) p.0 in
    let s = and_parts (eqb (count ks) (size g r)) (matched (yield ks) ws) p.1 in
    let b = matched_begins (yield ks) ws s.1 in
    record {
      reading = record { by = r; children = ks; heads = eqb-true _ _ q.0; fits = fitting_fits g r ks q.1; whole = eqb-true _ _ s.0 };
      is = record { begins = b.0; long = b.1 };
    }

module _ (g : Grammar) (ws : List Word) (ts : List Item) where
  unfoldable pub listed_item : Item → Bool
  listed_item t = any (same_item t) ts

  -- no lower rule of the same part has a finished item in the list
  unfoldable pub lowest : ℕ → ℕ → ℕ → Bool
  lowest r i k = all_below (λ q. not (eqb (left g (suc q)) (left g r) && listed_item (item (suc q) (size g (suc q)) i k))) (r - 1)

  -- no item of the list with d symbols done ends before b, if the next symbol spans from its end to k
  unfoldable pub earliest : ℕ → ℕ → ℕ → ℕ → ℕ → Bool
  earliest r d i b k = all_below (λ j. not (listed_item (item r d i j) && spanned g ws ts (symbol g r d) j k)) b

  unfoldable pub chosen : ℕ → ℕ → Children → Bool
  chosen r i none = true
  chosen r i (key ks c) = earliest r (count ks) i (i + length (yield ks)) (i + length (yield (key ks c))) && chosen r i ks
  chosen r i (part ks s cs) =
      earliest r (count ks) i (i + length (yield ks)) (i + length (yield (part ks s cs)))
      && (chosen r i ks && (lowest s (i + length (yield ks)) (i + length (yield (part ks s cs))) && chosen s (i + length (yield ks)) cs))

  module _
      (bounds : (r d i k : ℕ) → Held g ws r d i k → InBounds g ws r d i k)
      (among : (r d i k : ℕ) → Held g ws r d i k → Among (item r d i k) ts)
      (spans : (X j k : ℕ) → Spans g ws X j k → spanned g ws ts X j k ≡ true) where
    held_listed : (r d i k : ℕ) → Held g ws r d i k → listed_item (item r d i k) ≡ true
    unfolding listed_item
    held_listed r d i k h = member_any (same_item (item r d i k)) ts (item r d i k) (among r d i k h) (same_self (item r d i k))

    lower : (r i k q : ℕ) → lowest r i k ≡ true → Numbered g q → left g q ≡ left g r → Held g ws q (size g q) i k → q < r → ⊥
    unfolding lowest
    lower r i k zero t n e h l = absurd (omega (arith, n.low))
    lower r i k (suc q) t n e h l =
        both_ways _ (not-true _ (below_at (λ p. not (eqb (left g (suc p)) (left g r) && listed_item (item (suc p) (size g (suc p)) i k))) (r - 1) q t (omega arith)))
        (and_from (eqb (left g (suc q)) (left g r)) _ (eq-eqb _ _ e) (held_listed (suc q) (size g (suc q)) i k h))

    pub lowest_held : (r i k : ℕ) → lowest r i k ≡ true → LowestHeld g ws r i k
    lowest_held r i k t q e h = ⊎_elim (λ l. absurd (lower r i k q t (bounds q (size g q) i k h).rule e h l)) (λ l. l) (cases_lt q r)

    earliest_held : (r d i b k : ℕ) → earliest r d i b k ≡ true → EarliestHeld g ws r d i b k
    unfolding earliest
    earliest_held r d i b k t j h s = ⊎_elim
        (λ l. absurd (both_ways _ (not-true _ (below_at (λ n. not (listed_item (item r d i n) && spanned g ws ts (symbol g r d) n k)) b j t l)) (and_from _ _ (held_listed r d i j h) (spans (symbol g r d) j k s))))
        (λ l. l)
        (cases_lt j b)

    pub chosen_held : (r i : ℕ) (ks : Children) → chosen r i ks ≡ true → ChosenHeld g ws r i ks
    unfolding chosen
    chosen_held r i none h = tt
    chosen_held r i (key ks c) h =
        let p = and_parts (earliest r (count ks) i (i + length (yield ks)) (i + length (yield (key ks c)))) (chosen r i ks) h in
        (earliest_held r (count ks) i (i + length (yield ks)) (i + length (yield (key ks c))) p.0, chosen_held r i ks p.1)
    chosen_held r i (part ks s cs) h =
        let k = i + length (yield (part ks s cs)) in
        let j = i + length (yield ks) in
        let p = and_parts (earliest r (count ks) i j k) _ h in
        let q = and_parts (chosen r i ks) _ p.1 in
        let u = and_parts (lowest s j k) (chosen s j cs) q.1 in
        (earliest_held r (count ks) i j k p.0, chosen_held r i ks q.0, lowest_held s j k u.0, chosen_held s j cs u.1)
