-- What an index of a book holds.
use Rattle.std.specs.Prelude.{◌≡◌, ℕ, suc, ◌<◌, ◌≤◌, List, length, replicate, slice_index, slice_index_or}
use Rattle.language.specs.Book.{Grammar, symbol}
use Rattle.soundbook.specs.Corners.{CornersOf}
use Rattle.rulebook.specs.declared.sets.SymbolSet.{SymbolSet}
use Rattle.chart.specs.declared.indexes.Chains.{Chains}
use Rattle.chart.specs.declared.indexes.Index.{Index}

-- each symbol has its left corners at the place of its number
abbrev pub CornersKept : Grammar → List SymbolSet → Type 0
CornersKept g sets = (X : ℕ) → 1 ≤ X → X ≤ 64 → CornersOf g X (slice_index_or sets X (record { mask = 0 }))

-- r is the last rule below q that has X at place d, or 0 where there is none; a rule with no such place has 0 there
pub record LastBelow (g : Grammar) (d X q r : ℕ) : Type 0 where
  pub below : r < q
  pub here : 1 ≤ r → symbol g r d ≡ X
  pub none : (p : ℕ) → r < p → p < q → symbol g p d ≡ X → ⊥

-- for each symbol the last rule that has it at place d, and for each of the rules below n the one before it that has the same
-- symbol there
pub record ChainOf (g : Grammar) (d n : ℕ) (c : Chains) : Type 0 where
  pub last : (X : ℕ) → X ≤ 64 → LastBelow g d X n (slice_index c.lasts X)
  pub before : (r : ℕ) → 1 ≤ r → r < n → LastBelow g d (symbol g r d) r (slice_index c.befores r)

-- the same for all rules
abbrev pub ChainsKept : Grammar → ℕ → Chains → Type 0
ChainsKept g d c = ChainOf g d (suc (length g.rules)) c

-- the chains of place d
abbrev pub chains_in : List Chains → ℕ → Chains
chains_in cs d = slice_index_or cs d (record { lasts = replicate 65 0; befores = replicate 129 0 })

-- the left corners, and the chains of each of the six places
pub record IndexOf (g : Grammar) (x : Index) : Type 0 where
  pub corners : CornersKept g x.corners
  pub chains : (d : ℕ) → d < 6 → ChainsKept g d (chains_in x.chains d)

-- the left corners of a symbol
abbrev pub corners_at : Index → ℕ → SymbolSet
corners_at x X = slice_index_or x.corners X (record { mask = 0 })
