-- The sets that are computed by rounds over the rules are the least sets.
use Rattle.std.proofs.Common.{◌≡◌, ℕ, ◌+◌, ◌<◌, ◌≤◌, true, false, ◌||◌, ◌-◌, ◌++◌, [], ◌∷◌, List, length, get_or, refl, sym, IsTrue, ◌↔◌, ap, ◌∙◌, subst, inl, inr, ⊎_elim, arith}
use mathlib.Core.Bool.{Bool-set}
use mathlib.Core.Logic.{∥∥₁_elim}
use native.Mathlib.Bridge.{le_prop}
use Rattle.std.proofs.lemmas.List.FromFn.{length-range_with_len, get_or-range_with_len}
use Rattle.std.proofs.lemmas.List.{length_push, get_or_append_left, get_or_push}
use Rattle.std.specs.List.{range_with_len}
use Rattle.std.proofs.lemmas.Bool.{and_from, and_parts, both_ways, cases_lt, le-leb, leb-true}
use Rattle.language.specs.Book.{Meaning, Key, Numbered, left, size, symbol}
use Rattle.language.specs.Chart.{Corner, self, down}
use Rattle.language.specs.Closure.{Productive, UnitPath}
use Rattle.language.specs.Sound.{Sound, WellFormed}
use Rattle.soundbook.specs.Closures.{Grown, Closed, AllHeld, UnitFrom, LeftHeld}
use Rattle.soundbook.specs.Corners.{CornersOf}
use Rattle.soundbook.proofs.Growing.{with_keeps, with_adds, with_only}
use Rattle.rulebook.proofs.Holding.{holds_none}
use Rattle.rulebook.specs.Sets.{holds, has, symbolic, is_symbol}
use Rattle.rulebook.specs.declared.sets.SymbolSet.{SymbolSet}

-- a number from 1 to 64 is a symbol that a set can hold
pub symbol_fits : (c : ℕ) → 1 ≤ c → c ≤ 64 → symbolic c ≡ true
symbol_fits c low high = and_from _ _ (le-leb 1 c low) (le-leb c 64 high)

-- and what a set holds is such a number
held_fits : (s : SymbolSet) (c : ℕ) → has s c ≡ true → (1 ≤ c) × (c ≤ 64)
unfolding holds
held_fits s c h = let k = and_parts _ _ (and_parts (symbolic c) _ h).0 in (leb-true 1 c k.0, leb-true c 64 k.1)

-- the left side of a rule of a well-formed book is a symbol that a set can hold
left_known : (m : Meaning) (r : ℕ) → WellFormed m → Numbered m.grammar r → symbolic (left m.grammar r) ≡ true
left_known m r h n = let p = (h.rules r n).turns in symbol_fits _ p.low (omega (arith, p.high, h.counts.few_parts))

-- a set that has exactly the symbols of which D is true
pub record Exactly (D : ℕ → Type 0) (s : SymbolSet) : Type 0 where
  pub sound : (X : ℕ) → has s X ≡ true → D X
  pub whole : (X : ℕ) → D X → has s X ≡ true

-- a closed set that grew from the keys is the set of what can be turned into keys alone
module _ (m : Meaning) (s : SymbolSet) (closed : (i : ℕ) → Numbered m.grammar i → Closed (AllHeld m.grammar i) (left m.grammar i) s s) where
  productive_in : WellFormed m → ((c : ℕ) → Key m.grammar c → has s c ≡ true) → (X : ℕ) → Productive m.grammar X → has s X ≡ true
  productive_in formed keys X (Productive.key c k) = keys c k
  productive_in formed keys X (Productive.part r n each) = closed r n (omega arith) (λ d l. productive_in formed keys (symbol m.grammar r d) (each d l)) (left_known m r formed n)

  pub productive_set : ∥ WellFormed m ∥₁ → (first : SymbolSet) → ((c : ℕ) → IsTrue (has first c) ↔ ((33 ≤ c) × (c ≤ 32 + m.grammar.keys))) → Grown (Productive m.grammar) first s → Exactly (Productive m.grammar) s
  productive_set formed first keys grown =
      record {
        sound = grown.sound (λ c h. let k = (keys c).0 h in Productive.key c (record { low = k.0; high = k.1 }));
        whole = λ X h. ∥∥₁_elim formed (Bool-set _ _) (λ w. productive_in w (λ c k. grown.keeps c ((keys c).1 (k.low, k.high))) X h);
      }

-- a well-formed book has at most 32 keys
pub few_keys : (m : Meaning) → ∥ WellFormed m ∥₁ → m.grammar.keys ≤ 32
few_keys m h = ∥∥₁_elim h le_prop (λ w. w.counts.few_keys)

-- the empty set holds nothing
none_held : (s : SymbolSet) → s.mask ≡ 0 → (c : ℕ) → has s c ≡ false
none_held s none c = ap (λ m. holds m c) none ∙ holds_none c

-- the set holds the symbols of a list, and nothing else
abbrev pub Listed : List ℕ → SymbolSet → Type 0
Listed ys s = (c : ℕ) → IsTrue (has s c) ↔ ((symbolic c ≡ true) × ((k : ℕ) × (k < length ys) × (get_or ys k 0 ≡ c)))

pub listed_none : (s : SymbolSet) → s.mask ≡ 0 → Listed [] s
listed_none s none c = (λ h. absurd (both_ways (has s c) (none_held s none c) h), λ h. absurd (omega (arith, h.1.1)))

pub listed_more : (ys : List ℕ) (s t : SymbolSet) (x : ℕ) → Listed ys s → ((c : ℕ) → has t c ≡ (is_symbol x c || has s c)) → Listed (ys ++ (x ∷ [])) t
listed_more ys s t x h with c = (
  λ held. let fits = held_fits t c held in (
    symbol_fits c fits.0 fits.1,
    ⊎_elim (λ e. (length ys, omega (arith, length_push ys x), get_or_push ys x 0 (length ys) refl ∙ e))
        (λ e. let k = ((h c).0 e).1 in (k.0, omega (arith, length_push ys x, k.1), get_or_append_left ys (x ∷ []) 0 k.0 k.1 ∙ k.2)) (with_only s t x with c held),
  ),
  λ k. ⊎_elim
      (λ l. with_keeps s t x with c ((h c).1 (k.0, (k.1.0, l, sym (get_or_append_left ys (x ∷ []) 0 k.1.0 l) ∙ k.1.2))))
      (λ l. let last : x ≡ c = sym (get_or_push ys x 0 k.1.0 (omega (arith, length_push ys x, k.1.1))) ∙ k.1.2 in subst (λ y. has t y ≡ true) last (with_adds s t x with (subst (λ y. symbolic y ≡ true) (sym last) k.0)))
      (cases_lt k.1.0 (length ys)),
)

-- the numbers of n keys
pub listed_keys : (s : SymbolSet) (n : ℕ) → n ≤ 32 → Listed (range_with_len 33 n) s → (c : ℕ) → IsTrue (has s c) ↔ ((33 ≤ c) × (c ≤ 32 + n))
listed_keys s n few h c = (
  λ held. let k = ((h c).0 held).1 in let read = get_or-range_with_len 33 n k.0 0 (omega (arith, length-range_with_len 33 n, k.1)) in (omega (arith, read, k.2), omega (arith, read, k.2, k.1, length-range_with_len 33 n)),
  λ k. (h c).1 (symbol_fits c (omega (arith, k.0)) (omega (arith, k.1)), (c - 33, omega (arith, length-range_with_len 33 n, k.0, k.1), omega (arith, get_or-range_with_len 33 n (c - 33) 0 (omega (arith, k.0, k.1)), k.0))),
)

-- a symbol of a well-formed book is one that a set can hold
pub symbol_known : (m : Meaning) (r d : ℕ) → WellFormed m → Numbered m.grammar r → d < size m.grammar r → symbolic (symbol m.grammar r d) ≡ true
symbol_known m r d h n l =
    ⊎_elim
    (λ p. symbol_fits (symbol m.grammar r d) p.low (omega (arith, p.high, h.counts.few_parts)))
    (λ k. symbol_fits (symbol m.grammar r d) (omega (arith, k.low)) (omega (arith, k.high, h.counts.few_keys)))
    ((h.rules r n).symbols d l)

-- a closed set that grew from nothing is the set of what X is turned into alone
module _ (m : Meaning) (X : ℕ) (s : SymbolSet) (closed : (i : ℕ) → Numbered m.grammar i → Closed (UnitFrom m.grammar X i) (symbol m.grammar i 0) s s) where
  unit_in : WellFormed m → (Y : ℕ) → UnitPath m.grammar X Y → has s Y ≡ true
  unit_in formed Y (UnitPath.one r n one e) = closed r n (omega arith) (one, inl e) (symbol_known m r 0 formed n (omega arith))
  unit_in formed Y (UnitPath.more r n one path) = closed r n (omega arith) (one, inr (unit_in formed (left m.grammar r) path)) (symbol_known m r 0 formed n (omega arith))

  pub unit_set : ∥ WellFormed m ∥₁ → (first : SymbolSet) → first.mask ≡ 0 → Grown (UnitPath m.grammar X) first s → Exactly (UnitPath m.grammar X) s
  unit_set formed first none grown =
      record {
        sound = grown.sound (λ c h. absurd (both_ways (has first c) (none_held first none c) h));
        whole = λ Y h. ∥∥₁_elim formed (Bool-set _ _) (λ w. unit_in w Y h);
      }

-- a closed set that grew from X alone is the set of the left corners of X
module _ (m : Meaning) (X : ℕ) (s : SymbolSet) (closed : (i : ℕ) → Numbered m.grammar i → Closed (LeftHeld m.grammar i) (symbol m.grammar i 0) s s) where
  corner_in : WellFormed m → (symbolic X ≡ true → has s X ≡ true) → (Y : ℕ) → Corner m.grammar X Y → symbolic Y ≡ true → has s Y ≡ true
  corner_in formed held Y self known = held known
  corner_in formed held Y (down r n c) known = closed r n (omega arith) (corner_in formed held (left m.grammar r) c (left_known m r formed n)) known

  pub corner_set : ∥ Sound m ∥₁ → (none first : SymbolSet) → none.mask ≡ 0 → ((c : ℕ) → has first c ≡ (is_symbol X c || has none c)) → Grown (Corner m.grammar X) first s → CornersOf m.grammar X s
  corner_set sound none first empty with grown Y = (
    λ h. let k = held_fits s Y h in (k.0, k.1, grown.sound alone Y h),
    λ h. ∥∥₁_elim sound (Bool-set _ _) (λ w. corner_in w.formed (λ known. grown.keeps X (with_adds none first X with known)) Y h.2 (symbol_fits Y h.0 h.1)),
  )
    where
      alone : (c : ℕ) → has first c ≡ true → Corner m.grammar X c
      alone c h = ⊎_elim (λ e. subst (Corner m.grammar X) e self) (λ e. absurd (both_ways (has none c) (none_held none empty c) e)) (with_only none first X with c h)
