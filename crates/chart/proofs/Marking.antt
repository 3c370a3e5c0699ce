-- Marks set, read and taken off.
use Rattle.std.proofs.Common.{◌≡◌, ℕ, ◌+◌, ◌-◌, ◌*◌, ◌%◌, ◌^◌, ◌<◌, ◌≤◌, Bool, true, false, ◌||◌, eqb, if◌then◌else◌, length, set, replicate, sym, refl, ap, ◌∙◌, ⊎_elim, arith}
use lib.Bits.{bit_or}
use Rattle.std.proofs.lemmas.Nat.{one_shl}
use Rattle.std.proofs.lemmas.List.{get_or-set_same, get_or-set_other, get_or-replicate, get_or_past, length-replicate}
use Rattle.std.proofs.lemmas.Bool.{eq-eqb, eqb-true, ne_eqb, cases_eq, cases_lt, cond-false, cond-true, and_left, and_right, or_left}
use Rattle.language.specs.Masks.{bit}
use Rattle.language.proofs.Masks.{bit_set, bit_none}
use Rattle.rulebook.proofs.Joining.{bit_either}
use Rattle.chart.specs.Marks.{Small, marked, is_item, starts_in}
use Rattle.chart.specs.Rows.{row_at}
use Rattle.chart.specs.Starts.{has_start, no_start}
use Rattle.chart.specs.declared.items.Item.{Item}
use Rattle.chart.specs.declared.marks.Marks.{Marks}
use Rattle.chart.specs.declared.marks.Row.{Row}
use Rattle.chart.specs.declared.starts.StartSet.{StartSet}

-- a mask with start q
pub start_added : (m q : ℕ) → q < 100 → (i : ℕ) → bit (bit_or m ((1 * 2 ^ q) % 2 ^ 128)) i ≡ (eqb q i || bit m i)
start_added m q h i =
    let low : q < 128 = omega arith in
    ap (λ p. bit (bit_or m p) i) (one_shl q 128 low) ∙ bit_set m q i

-- a mask that adds nothing to another is within it
pub all_within : (a b : ℕ) → eqb (bit_or a b) b ≡ true → (i : ℕ) → bit a i ≡ true → bit b i ≡ true
all_within a b e i h = sym (ap (λ m. bit m i) (eqb-true (bit_or a b) b e)) ∙ (bit_either a b i ∙ or_left (bit a i) (bit b i) h)

-- the starts of a row that are those of the press
abbrev pick : Row → ℕ → StartSet
pick row press = (if eqb row.press press then row.starts else no_start)

-- an item marked in its row
module _ (m new : Marks) (t : Item) (s : StartSet) (row : ℕ) (small : Small t.rule t.done t.start) (is : row ≡ 6 * (t.rule - 1) + (t.done - 1)) (wide : length m.rows ≡ 768)
    (rows : new.rows ≡ set m.rows row (record { press = m.press; starts = s })) (press : new.press ≡ m.press) (with : (i : ℕ) → has_start s i ≡ (eqb t.start i || has_start (starts_in m row) i)) where
  other_item : (r d i : ℕ) → Small r d i → (6 * (r - 1) + (d - 1) ≡ row → ⊥) → is_item t r d i ≡ false
  other_item r d i k ne = ⊎_elim
      (λ e. ⊎_elim (λ f. absurd (ne (omega (arith, e, f)))) (λ f. and_right (eqb t.rule r) _ (and_left (eqb t.done d) (eqb t.start i) (ne_eqb t.done d f))) (cases_eq t.done d))
      (λ e. and_left (eqb t.rule r) _ (ne_eqb t.rule r e))
      (cases_eq t.rule r)

  same_row : (r d i : ℕ) → Small r d i → 6 * (r - 1) + (d - 1) ≡ row → eqb t.start i ≡ is_item t r d i
  same_row r d i k e =
      let a = small.rule in
      let b = k.rule in
      let rule : t.rule ≡ r = omega (arith, a.low, b.low, small.some_done, small.few_done, k.some_done, k.few_done) in
      let done : t.done ≡ d = omega (arith, a.low, b.low, small.some_done, small.few_done, k.some_done, k.few_done) in
      rw (eq-eqb t.rule r rule, eq-eqb t.done d done) refl

  at_row : row_at new.rows row ≡ record { press = m.press; starts = s }
  at_row =
      let here : row < length m.rows = omega (arith, wide, small.rule.low, small.rule.high, small.few_done, small.some_done) in
      ap (λ xs. row_at xs row) rows ∙ get_or-set_same m.rows row _ _ here

  at_other : (k : ℕ) → (k ≡ row → ⊥) → row_at new.rows k ≡ row_at m.rows k
  at_other k ne = ap (λ xs. row_at xs k) rows ∙ get_or-set_other m.rows row k _ _ ne

  pub item_added : (r d i : ℕ) → Small r d i → marked new r d i ≡ (is_item t r d i || marked m r d i)
  unfolding marked
  item_added r d i k = ⊎_elim same other (cases_eq (6 * (r - 1) + (d - 1)) row)
    where
      place : ℕ
      place = 6 * (r - 1) + (d - 1)

      other : (place ≡ row → ⊥) → has_start (pick (row_at new.rows place) new.press) i ≡ (is_item t r d i || has_start (starts_in m place) i)
      other ne = rw (other_item r d i k ne, at_other place ne, press) refl

      same : place ≡ row → has_start (pick (row_at new.rows place) new.press) i ≡ (is_item t r d i || has_start (starts_in m place) i)
      same e =
          ap (λ j. has_start (pick (row_at new.rows j) new.press) i) e
          ∙ (ap (λ (x : Row). has_start (pick x new.press) i) at_row
          ∙ (ap (λ (x : StartSet). has_start x i) (cond-true (eqb m.press new.press) s no_start (eq-eqb m.press new.press (sym press)))
          ∙ (with i
          ∙ (ap (λ j. eqb t.start i || has_start (starts_in m j) i) (sym e)
          ∙ ap (λ b. b || has_start (starts_in m place) i) (same_row r d i k e)))))

-- no row is of a press to come
pub none_marked : (m : Marks) → ((k : ℕ) → (row_at m.rows k).press < m.press) → (r d i : ℕ) → marked m r d i ≡ false
unfolding marked
none_marked m late r d i =
    let k : ℕ = 6 * (r - 1) + (d - 1) in
    ap (λ (x : StartSet). has_start x i) (cond-false (eqb (row_at m.rows k).press m.press) (row_at m.rows k).starts no_start (ne_eqb _ _ (λ e. omega (arith, late k, e))))
    ∙ bit_none i

-- rows that are all blank
abbrev blank_row : Row
blank_row = record { press = 0; starts = no_start }

all_blank : (k : ℕ) → row_at (replicate 768 blank_row) k ≡ blank_row
all_blank k = ⊎_elim (λ h. get_or-replicate 768 k blank_row blank_row h) (λ h. get_or_past (replicate 768 blank_row) k blank_row (omega (arith, length-replicate 768 blank_row))) (cases_lt k 768)

-- which are of no press to come
pub none_past : (k : ℕ) → (row_at (replicate 768 blank_row) k).press ≤ 0
none_past k = omega (arith, ap (λ (x : Row). x.press) (all_blank k))

pub blank_rows : (m : Marks) → m.rows ≡ replicate 768 blank_row → (r d i : ℕ) → marked m r d i ≡ false
unfolding marked
blank_rows m e r d i = ap (λ (x : Row). has_start (pick x m.press) i) (ap (λ xs. row_at xs (6 * (r - 1) + (d - 1))) e ∙ all_blank (6 * (r - 1) + (d - 1))) ∙ none (eqb 0 m.press)
  where
    none : (b : Bool) → has_start (if b then no_start else no_start) i ≡ false
    none true = bit_none i
    none false = bit_none i
