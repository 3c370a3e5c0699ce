-- Left corners, and the items of the chart over a list of words.
use Rattle.std.specs.Prelude.{◌≡◌, ℕ, suc, ◌<◌, T, List, length, slice_index_or}
use Rattle.language.specs.Book.{Grammar, Key, Numbered, left, size, symbol}
use Rattle.language.specs.Words.{Word, blank}
use Rattle.language.specs.Readings.{Item}

-- the left corners of X: the least set that holds X and, for each rule whose left side it holds, that rule's first symbol
pub data Corner (g : Grammar) (X : ℕ) : ℕ → Type 0 where
  self : Corner g X X
  down : (r : ℕ) → Numbered g r → Corner g X (left g r) → Corner g X (symbol g r 0)

mutual
  -- the symbols that may start after word k
  pub data Wanted (g : Grammar) (ws : List Word) : ℕ → ℕ → Type 0 where
    -- after no word: the left corners of the start part
    first : (Y : ℕ) → Corner g g.start Y → Wanted g ws 0 Y
    -- the left corners of the next symbol of an unfinished item that ends at word k
    next : (r d i k Y : ℕ) → Held g ws r d i k → d < size g r → Corner g (symbol g r d) Y → Wanted g ws k Y

  -- the items: rule, symbols done, start and end
  pub data Held (g : Grammar) (ws : List Word) : ℕ → ℕ → ℕ → ℕ → Type 0 where
    -- a rule whose left side may start after word i is begun where its first symbol spans
    begin : (r i k : ℕ) → Numbered g r → Wanted g ws i (left g r) → Spans g ws (symbol g r 0) i k → Held g ws r 1 i k
    -- an unfinished item is advanced where its next symbol spans
    advance : (r d i j k : ℕ) → Held g ws r d i j → d < size g r → Spans g ws (symbol g r d) j k → Held g ws r (suc d) i k

  -- the symbol spans from after word j to word k
  pub data Spans (g : Grammar) (ws : List Word) : ℕ → ℕ → ℕ → Type 0 where
    -- a key that the next word matches
    word : (c j : ℕ) → Key g c → T (slice_index_or ws j blank c) → Spans g ws c j (suc j)
    -- the left side of a finished item
    finished : (r j k : ℕ) → Held g ws r (size g r) j k → Spans g ws (left g r) j k

-- the item is held
abbrev pub HeldItem : Grammar → List Word → Item → Type 0
HeldItem g ws t = Held g ws t.rule t.done t.start t.end

-- a finished item of a rule of the start part spans all words
pub record Whole (g : Grammar) (ws : List Word) : Type 0 where
  pub by : ℕ
  pub heads : left g by ≡ g.start
  pub held : Held g ws by (size g by) 0 (length ws)
