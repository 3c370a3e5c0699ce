-- What the code that fills the chart word by word rests on.
use Rattle.std.specs.Prelude.{◌≡◌, ℕ, suc, ◌+◌, ◌*◌, ◌/◌, ◌<◌, ◌≤◌, Bool, T, ◌⊎◌, List, [], ◌∷◌, length, take, slice_index_or}
use Rattle.std.specs.List.{AllByRecursion}
use Rattle.language.specs.Book.{Rule, Grammar, Key, Numbered, Meaning, left, size, symbol}
use Rattle.language.specs.Sound.{Sound}
use Rattle.language.specs.Words.{Word, blank}
use Rattle.language.specs.Readings.{Item}
use Rattle.language.specs.Chart.{Corner, Wanted, Held, HeldItem}

-- an item lies within the words, and some of its rule's symbols are done
pub record InBounds (g : Grammar) (ws : List Word) (r d i k : ℕ) : Type 0 where
  pub rule : Numbered g r
  pub some_done : 1 ≤ d
  pub not_past : d ≤ size g r
  pub forward : i < k
  pub ends : k ≤ length ws

-- L, the sum of the lengths of all right sides
abbrev pub lengths : List Rule → ℕ
lengths [] = 0
lengths (w ∷ rs) = length w.body + lengths rs

-- t stands in the list
abbrev pub Among : {A : Type 0} → A → List A → Type 0
Among t [] = ⊥
Among t (u ∷ ts) = (t ≡ u) ⊎ Among t ts

-- nothing stands in the list twice
abbrev pub Apart : {A : Type 0} → List A → Type 0
Apart [] = Unit {0}
Apart (t ∷ ts) = (Among t ts → ⊥) × Apart ts

-- The symbol spans from after word j to word k, where the finished items that end at k are those that S tells by rule and
-- start.
pub data SpansTo (g : Grammar) (ws : List Word) (k : ℕ) (S : ℕ → ℕ → ℕ → Type 0) : ℕ → ℕ → Type 0 where
  word : (c j : ℕ) → suc j ≡ k → Key g c → T (slice_index_or ws j blank c) → SpansTo g ws k S c j
  finished : (r j : ℕ) → S r (size g r) j → SpansTo g ws k S (left g r) j

-- A set S of items that end at word k, told by rule, symbols done and start, is closed over the settled columns: what is
-- wanted after an earlier word, and the items that end at an earlier word.
pub record Closed (g : Grammar) (ws : List Word) (k : ℕ) (S : ℕ → ℕ → ℕ → Type 0) : Type 0 where
  pub begin : (r i : ℕ) → i < k → Numbered g r → Wanted g ws i (left g r) → SpansTo g ws k S (symbol g r 0) i → S r 1 i
  pub advance : (r d i j : ℕ) → j < k → Held g ws r d i j → d < size g r → SpansTo g ws k S (symbol g r d) j → S r (suc d) i

-- A set N of symbols holds the left corners of the next symbol of every unfinished item that ends at word k, and, where
-- k is 0, those of the start part.
pub record Joined (g : Grammar) (ws : List Word) (k : ℕ) (N : ℕ → Type 0) : Type 0 where
  pub first : k ≡ 0 → (Y : ℕ) → Corner g g.start Y → N Y
  pub next : (r d i Y : ℕ) → Held g ws r d i k → d < size g r → Corner g (symbol g r d) Y → N Y

-- what is known of the columns, a column being the items that end at one word
pub record ColumnsAre (g : Grammar) (ws : List Word) : Type 0 where
  -- items lie within the words and within their rule
  pub bounds : (r d i k : ℕ) → Held g ws r d i k → InBounds g ws r d i k
  -- items that end at word k, and what is wanted after it, depend on the first k words alone
  pub local : (vs : List Word) (r d i k : ℕ) → take k ws ≡ take k vs → Held g ws r d i k → Held g vs r d i k
  pub local_wanted : (vs : List Word) (k Y : ℕ) → take k ws ≡ take k vs → Wanted g ws k Y → Wanted g vs k Y
  -- at most L n (n + 1) / 2 items over n words
  pub few : (ts : List Item) → AllByRecursion (HeldItem g ws) ts → Apart ts → length ts ≤ lengths g.rules * (length ws * (length ws + 1) / 2)
  -- a set that is closed over the settled columns holds every item of the new column
  pub least : (k : ℕ) (S : ℕ → ℕ → ℕ → Bool) → Closed g ws k (λ r d i. T (S r d i)) → (r d i : ℕ) → Held g ws r d i k → T (S r d i)
  -- the same for what is wanted after a word
  pub least_wanted : (k : ℕ) (N : ℕ → Bool) → Joined g ws k (λ Y. T (N Y)) → (Y : ℕ) → Wanted g ws k Y → T (N Y)

abbrev pub ColumnsTheorem : Type 0
ColumnsTheorem = (m : Meaning) → Sound m → (ws : List Word) → ColumnsAre m.grammar ws
