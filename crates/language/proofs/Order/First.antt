-- In a sound book the words that a part reads have a first reading, and only one.
use Rattle.std.proofs.Common.{◌≡◌, ℕ, suc, ◌*◌, ◌<◌, ◌≤◌, ◌⊎◌, List, length, sym, refl, ap, ◌∙◌, subst, ap₂, subst₂, inl, inr, ⊎_elim, arith}
use native.Mathlib.Decide.{ℕ_discrete}
use Rattle.language.specs.Book.{Grammar, left, size}
use Rattle.language.specs.Words.{Word}
use Rattle.language.specs.Readings.{Children, Reads}
use Rattle.language.specs.Moves.{below}
use Rattle.language.specs.Order.{Before, Same, First, FirstTheorem}
use Rattle.language.proofs.Moves.Rules.{few_rules_below}
use Rattle.language.proofs.Order.Listed.{Listed, Below, Made, listed_one, listed_same, listed_when, listed_below, listed_made, least_listed}
use Rattle.language.proofs.Order.Shallow.{Shallow, depth, depth_below, listed_shallow}
use Rattle.language.proofs.Order.Strict.{before_trans, before_irreflexive}
use Rattle.language.proofs.Order.Total.{KeysApart, sound_apart, before_total}
use Rattle.language.proofs.Fits.{fits_numbered}

-- a rule and children for it
record Tree : Type 0 where
  by : ℕ
  children : Children

abbrev tree : ℕ → Children → Tree
tree r ks = record { by = r; children = ks }

abbrev tree_of : {g : Grammar} {X : ℕ} {ws : List Word} → Reads g X ws → Tree
tree_of t = tree t.reading.by t.reading.children

abbrev Comes : Tree → Tree → Type 0
Comes a b = Before a.by a.children b.by b.children

comes_trans : (a b c : Tree) → Comes a b → Comes b c → Comes a c
comes_trans a b c = before_trans a.by b.by c.by a.children b.children c.children

-- the tree is of a reading of the words by the part X
abbrev Read : Grammar → ℕ → List Word → Tree → Type 0
Read g X ws t = (a : Reads g X ws) × (tree_of a ≡ t)

module _ (g : Grammar) (X : ℕ) (ws : List Word) where
  -- two readings that come before one another
  both_first : (a b : Reads g X ws) → Same a b ⊎ Comes (tree_of a) (tree_of b) → Same b a ⊎ Comes (tree_of b) (tree_of a) → Same a b
  both_first a b (inl same) o = same
  both_first a b (inr h) (inl same) = (sym same.0, sym same.1)
  both_first a b (inr h) (inr k) = absurd (before_irreflexive a.reading.by a.reading.children (comes_trans (tree_of a) (tree_of b) (tree_of a) h k))

  comes_total : KeysApart g → (a b : Tree) → Read g X ws a → Read g X ws b → (a ≡ b) ⊎ (Comes a b ⊎ Comes b a)
  comes_total apart a b (t, e) (u, k) =
      let r = t.reading in
      let q = u.reading in
      let either = before_total g apart r.by q.by r.children q.children r.fits q.fits r.whole q.whole in
      subst₂ (λ x y. (x ≡ y) ⊎ (Comes x y ⊎ Comes y x)) e k (⊎_elim (λ same. inl (ap₂ tree same.0 same.1)) inr either)

-- every reading of the words has less than n rules below
module _ (g : Grammar) (X : ℕ) (ws : List Word) (n : ℕ) (bounded : (t : Reads g X ws) → suc (below t.reading.children) ≤ n) where
  -- a tree of a reading by rule r
  abbrev ByRule : ℕ → Tree → Type 0
  ByRule r t = (left g r ≡ X) × Made tree (λ x. x ≡ r) (Shallow g n r (size g r) ws) t

  by_rule : (t : Tree) → Below ByRule (suc (length g.rules)) t → Read g X ws t
  by_rule t (r, l, (e, (x, ks, same, h, made))) =
      (record { reading = record { by = r; children = ks; heads = e; fits = h.fits; whole = h.many }; is = h.is }, ap (λ y. tree y ks) (sym same) ∙ sym made)

  rule_by : (t : Tree) → Read g X ws t → Below ByRule (suc (length g.rules)) t
  rule_by t (a, e) =
      let r = a.reading in
      let few : depth r.children < n = omega (arith, bounded a, depth_below r.children) in
      let shallow : Shallow g n r.by (size g r.by) ws r.children = record { fits = r.fits; many = r.whole; is = a.is; deep = few } in
      (r.by, omega (arith, (fits_numbered g r.by r.children r.fits).high), (r.heads, (r.by, r.children, refl, shallow, sym e)))

  listed_by : (r : ℕ) → Listed (ByRule r)
  listed_by r =
      let P = Shallow g n r (size g r) ws in
      listed_when (Made tree (λ x. x ≡ r) P) (ℕ_discrete (left g r) X) (listed_made tree (λ x. x ≡ r) P (listed_one r) (listed_shallow g n r (size g r) ws))

  -- the readings of the words can be listed
  listed_readings : Listed (Read g X ws)
  listed_readings = listed_same (Below ByRule (suc (length g.rules))) (Read g X ws) by_rule rule_by (listed_below ByRule listed_by (suc (length g.rules)))

  first_exists : KeysApart g → Reads g X ws → First g X ws
  first_exists apart t =
      let found = least_listed Comes comes_trans (Read g X ws) (comes_total g X ws apart) listed_readings (tree_of t) (t, refl) in
      let (a, e) = found.holds in
      record {
        reads = a;
        least = λ b. ⊎_elim
            (λ same. inl (ap (λ x. x.by) (e ∙ same), ap (λ x. x.children) (e ∙ same)))
            (λ h. inr (subst (λ x. Comes x (tree_of b)) (sym e) h))
            (found.least (tree_of b) (b, refl));
      }

-- a first reading exists, and is one
pub first_theorem : FirstTheorem
first_theorem m sound X ws = record {
  exists = first_exists m.grammar X ws (64 * length ws) few (sound_apart m sound);
  unique = λ a b. both_first m.grammar X ws a.reads b.reads (a.least b.reads) (b.least a.reads);
}
  where
    few : (t : Reads m.grammar X ws) → suc (below t.reading.children) ≤ 64 * length ws
    few t = omega (arith, few_rules_below m sound t.reading.by t.reading.children t.reading.fits t.reading.whole, t.is.long)
