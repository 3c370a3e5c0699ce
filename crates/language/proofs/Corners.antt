-- The left corners of a symbol are found as a mask: sweeps over the rules until nothing is added.
use Rattle.std.proofs.Common.{◌≡◌, ℕ, zero, suc, ◌+◌, ◌-◌, ◌^◌, ◌<◌, ◌≤◌, true, cond, eqb, ◌⊎◌, length, sym, refl, ap, ◌∙◌, subst, inl, inr, ⊎_elim, le_refl, arith, lit<}
use lib.Bits.{bit_or, or_lt}
use lib.Pow.{pow-lt}
use Rattle.std.proofs.lemmas.Bool.{cases_Bool, cases_eq, cases_order, cond-true, cond-false, or_cases, or_left, or_right, eq-eqb, eqb-true, both_ways}
use Rattle.language.specs.Book.{Grammar, Numbered, left, symbol}
use Rattle.language.specs.Masks.{bit}
use Rattle.language.specs.Chart.{Corner, self, down}
use Rattle.language.specs.Corners.{InMask, Settled, CornersTheorem}
use Rattle.language.proofs.Masks.{bit_set, bit_none, or_grows}

-- X is one of the symbols 1 to 64
record Small (X : ℕ) : Type 0 where
  low : 1 ≤ X
  high : X ≤ 64

-- the mask with X added
added : ℕ → ℕ → ℕ
added mask X = bit_or mask (2 ^ (X - 1))

added_holds : (mask X : ℕ) → Small X → InMask (added mask X) X
unfolding added
added_holds mask X s = record { low = s.low; high = s.high; set = bit_set mask (X - 1) (X - 1) ∙ or_left (eqb (X - 1) (X - 1)) (bit mask (X - 1)) (eq-eqb (X - 1) (X - 1) refl) }

added_keeps : (mask X Y : ℕ) → InMask mask Y → InMask (added mask X) Y
unfolding added
added_keeps mask X Y h = record { low = h.low; high = h.high; set = bit_set mask (X - 1) (Y - 1) ∙ or_right (eqb (X - 1) (Y - 1)) (bit mask (Y - 1)) h.set }

added_only : (mask X Y : ℕ) → Small X → InMask (added mask X) Y → (X ≡ Y) ⊎ InMask mask Y
unfolding added
added_only mask X Y s h = ⊎_elim same other (or_cases (eqb (X - 1) (Y - 1)) (bit mask (Y - 1)) (sym (bit_set mask (X - 1) (Y - 1)) ∙ h.set))
  where
    same : eqb (X - 1) (Y - 1) ≡ true → (X ≡ Y) ⊎ InMask mask Y
    same e = inl (omega (arith, eqb-true (X - 1) (Y - 1) e, s.low, h.low))

    other : bit mask (Y - 1) ≡ true → (X ≡ Y) ⊎ InMask mask Y
    other e = inr (record { low = h.low; high = h.high; set = e })

added_fits : (mask X : ℕ) → Small X → mask < 2 ^ 64 → added mask X < 2 ^ 64
unfolding added
added_fits mask X s h = let l : X - 1 < 64 = omega (arith, s.low, s.high) in or_lt 64 mask (2 ^ (X - 1)) h (pow-lt l)

added_grows : (mask X : ℕ) → mask ≤ added mask X
unfolding added
added_grows mask X = or_grows mask (2 ^ (X - 1))

module _ (g : Grammar) (lefts : (r : ℕ) → Numbered g r → Small (left g r)) (firsts : (r : ℕ) → Numbered g r → Small (symbol g r 0)) (X : ℕ) (small : Small X) where
  -- the mask after rule r: with its first symbol if its left side is in
  grown : ℕ → ℕ → ℕ
  grown r mask = cond (bit mask (left g r - 1)) (added mask (symbol g r 0)) mask

  -- the mask after the rules 1 to n
  swept : ℕ → ℕ → ℕ
  swept zero mask = mask
  swept (suc n) mask = grown (suc n) (swept n mask)

  -- what every mask on the way is
  record Partly (mask : ℕ) : Type 0 where
    self : InMask mask X
    corners : (Y : ℕ) → InMask mask Y → Corner g X Y
    fits : mask < 2 ^ 64

  grown_grows : (r mask : ℕ) → mask ≤ grown r mask
  unfolding grown
  grown_grows r mask = ⊎_elim
      (λ e. subst (λ x. mask ≤ x) (sym (cond-true (bit mask (left g r - 1)) _ mask e)) (added_grows mask (symbol g r 0)))
      (λ e. subst (λ x. mask ≤ x) (sym (cond-false (bit mask (left g r - 1)) _ mask e)) (le_refl mask))
      (cases_Bool (bit mask (left g r - 1)))

  grown_partly : (r mask : ℕ) → Numbered g r → Partly mask → Partly (grown r mask)
  unfolding grown
  grown_partly r mask n p = ⊎_elim
      (λ e. subst Partly (sym (cond-true (bit mask (left g r - 1)) _ mask e)) (more e))
      (λ e. subst Partly (sym (cond-false (bit mask (left g r - 1)) _ mask e)) p)
      (cases_Bool (bit mask (left g r - 1)))
    where
      under : bit mask (left g r - 1) ≡ true → Corner g X (left g r)
      under e = p.corners (left g r) (record { low = (lefts r n).low; high = (lefts r n).high; set = e })

      more : bit mask (left g r - 1) ≡ true → Partly (added mask (symbol g r 0))
      more e = record {
        self = added_keeps mask (symbol g r 0) X p.self;
        corners = λ Y h. ⊎_elim (λ same. subst (Corner g X) same (down r n (under e))) (p.corners Y) (added_only mask (symbol g r 0) Y (firsts r n) h);
        fits = added_fits mask (symbol g r 0) (firsts r n) p.fits;
      }

  -- where rule r adds nothing, its first symbol is in if its left side is
  grown_closed : (r mask : ℕ) → Numbered g r → grown r mask ≡ mask → InMask mask (left g r) → InMask mask (symbol g r 0)
  unfolding grown
  grown_closed r mask n e h =
      subst (λ x. InMask x (symbol g r 0)) (sym (cond-true (bit mask (left g r - 1)) (added mask (symbol g r 0)) mask h.set) ∙ e) (added_holds mask (symbol g r 0) (firsts r n))

  swept_grows : (n mask : ℕ) → mask ≤ swept n mask
  unfolding swept
  swept_grows zero mask = le_refl mask
  swept_grows (suc n) mask = omega (arith, swept_grows n mask, grown_grows (suc n) (swept n mask))

  swept_partly : (n mask : ℕ) → n ≤ length g.rules → Partly mask → Partly (swept n mask)
  unfolding swept
  swept_partly zero mask h p = p
  swept_partly (suc n) mask h p = grown_partly (suc n) (swept n mask) (record { low = omega arith; high = h }) (swept_partly n mask (omega arith) p)

  swept_closed : (n mask : ℕ) → n ≤ length g.rules → swept n mask ≡ mask → (r : ℕ) → Numbered g r → r ≤ n → InMask mask (left g r) → InMask mask (symbol g r 0)
  unfolding swept
  swept_closed zero mask h e r q l = absurd (omega (arith, q.low))
  swept_closed (suc n) mask h e r q l =
      let same : swept n mask ≡ mask = omega (arith, swept_grows n mask, grown_grows (suc n) (swept n mask)) in
      let last : grown (suc n) mask ≡ mask = ap (grown (suc n)) (sym same) ∙ e in
      ⊎_elim
      (λ p. grown_closed r mask q (subst (λ x. grown x mask ≡ mask) (sym p) last))
      (⊎_elim (λ b. swept_closed n mask (omega arith) same r q (omega arith)) (λ b. absurd (omega arith)))
      (cases_order r (suc n))

  -- sweeps until nothing is added; each that adds something makes the mask a larger number
  settle : (fuel mask : ℕ) → Partly mask → 2 ^ 64 ≤ fuel + mask → (end : ℕ) × Settled g X end
  settle zero mask p h = absurd (omega (arith, p.fits))
  settle (suc fuel) mask p h = ⊎_elim
      (λ e. (mask, record { self = p.self; down = λ r n. swept_closed (length g.rules) mask (le_refl _) e r n n.high; corners = p.corners; fits = p.fits }))
      (λ ne. settle fuel (swept (length g.rules) mask) (swept_partly (length g.rules) mask (le_refl _) p) (omega (arith, swept_grows (length g.rules) mask)))
      (cases_eq (swept (length g.rules) mask) mask)

  start_mask : Partly (added 0 X)
  start_mask = record {
    self = added_holds 0 X small;
    corners = λ Y h. ⊎_elim (λ e. subst (Corner g X) e self) (λ h. absurd (both_ways (bit 0 (Y - 1)) (bit_none (Y - 1)) h.set)) (added_only 0 X Y small h);
    fits = added_fits 0 X small (lit< tt);
  }

  settled : (mask : ℕ) × Settled g X mask
  settled = settle (2 ^ 64) (added 0 X) start_mask (omega arith)

-- a settled mask holds every left corner
settled_exact : (g : Grammar) (X mask : ℕ) → Settled g X mask → (Y : ℕ) → Corner g X Y → InMask mask Y
settled_exact g X mask s _ self = s.self
settled_exact g X mask s _ (down r n c) = s.down r n (settled_exact g X mask s (left g r) c)

pub corners_theorem : CornersTheorem
corners_theorem m s X = record {
  exact = λ mask t Y. (t.corners Y, settled_exact m.grammar X mask t Y);
  exists = λ l h. settled m.grammar lefts firsts X (record { low = l; high = h });
}
  where
    lefts : (r : ℕ) → Numbered m.grammar r → Small (left m.grammar r)
    lefts r n = let p = (s.formed.rules r n).turns in record { low = p.low; high = omega (arith, p.high, s.formed.counts.few_parts) }

    firsts : (r : ℕ) → Numbered m.grammar r → Small (symbol m.grammar r 0)
    firsts r n = ⊎_elim
        (λ p. record { low = p.low; high = omega (arith, p.high, s.formed.counts.few_parts) })
        (λ k. record { low = omega (arith, k.low); high = omega (arith, k.high, s.formed.counts.few_keys) })
        ((s.formed.rules r n).symbols 0 (s.formed.rules r n).some_symbols)
