-- Readings of a part as parse trees, the keys that they yield, the items that they use, and programmes.
--
-- The children of a rule are a list that grows to the right, so that the children of the first d symbols of a rule are
-- children too.
use Rattle.std.specs.Prelude.{◌≡◌, ℕ, suc, ◌+◌, ◌<◌, ◌⊎◌, List, [], ◌∷◌, ◌++◌, length}
use Rattle.language.specs.Book.{Grammar, Key, Numbered, left, size, symbol}
use Rattle.language.specs.Words.{Word, Begins, Is}

-- the children of the first symbols of a rule
pub data Children : Type 0 where
  -- no symbol done
  none : Children
  -- one more symbol done, a key
  key : Children → ℕ → Children
  -- one more symbol done, a part: by the rule of that number, with those children
  part : Children → ℕ → Children → Children

-- the keys at the leaves, from left to right
abbrev pub yield : Children → List ℕ
yield none = []
yield (key ks c) = yield ks ++ (c ∷ [])
yield (part ks s cs) = yield ks ++ yield cs

-- how many symbols are done
abbrev pub count : Children → ℕ
count none = 0
count (key ks c) = suc (count ks)
count (part ks s cs) = suc (count ks)

-- the children stand under the first symbols of rule r, each under its own symbol, and everything below them is in order
abbrev pub Fits : Grammar → ℕ → Children → Type 0
Fits g r none = Numbered g r
Fits g r (key ks c) = Fits g r ks × (count ks < size g r) × (symbol g r (count ks) ≡ c) × Key g c
Fits g r (part ks s cs) = Fits g r ks × (count ks < size g r) × (symbol g r (count ks) ≡ left g s) × Fits g s cs × (count cs ≡ size g s)

-- a reading of the part X: a rule with that left side, and children for all of its symbols
pub record Reading (g : Grammar) (X : ℕ) : Type 0 where
  pub by : ℕ
  pub children : Children
  pub heads : left g by ≡ X
  pub fits : Fits g by children
  pub whole : count children ≡ size g by

-- an item: of this rule, which starts after so many words, the first symbols are done and end at that word
pub record Item : Type 0 where
  pub rule : ℕ
  pub done : ℕ
  pub start : ℕ
  pub end : ℕ

-- an item by its four numbers
abbrev pub item : ℕ → ℕ → ℕ → ℕ → Item
item r d i k = record { rule = r; done = d; start = i; end = k }

-- the item of all these children, under rule r that starts after i words
abbrev pub reached : ℕ → ℕ → Children → Item
reached r i ks = item r (count ks) i (i + length (yield ks))

-- the items that children use under rule r that starts after i words: one for each number of symbols done from 1, and
-- those of the readings below
abbrev pub Uses : ℕ → ℕ → Children → Item → Type 0
Uses r i none t = ⊥
Uses r i (key ks c) t = Uses r i ks t ⊎ (t ≡ reached r i (key ks c))
Uses r i (part ks s cs) t = Uses r i ks t ⊎ (Uses s (i + length (yield ks)) cs t ⊎ (t ≡ reached r i (part ks s cs)))

-- some programme begins with the words: a programme is what a reading of the start part yields
pub record Begun (g : Grammar) (ws : List Word) : Type 0 where
  pub reading : Reading g g.start
  pub begins : Begins (yield reading.children) ws

-- some programme that begins with the words has a reading that uses the item
pub record Used (g : Grammar) (ws : List Word) (t : Item) : Type 0 where
  pub reading : Reading g g.start
  pub begins : Begins (yield reading.children) ws
  pub uses : Uses reading.by 0 reading.children t

-- the part X reads the words
pub record Reads (g : Grammar) (X : ℕ) (ws : List Word) : Type 0 where
  pub reading : Reading g X
  pub is : Is (yield reading.children) ws

-- the first d symbols of rule r read the words
pub record Done (g : Grammar) (r d : ℕ) (ws : List Word) : Type 0 where
  pub children : Children
  pub fits : Fits g r children
  pub many : count children ≡ d
  pub is : Is (yield children) ws

-- the words are a programme
abbrev pub Programme : Grammar → List Word → Type 0
Programme g ws = Reads g g.start ws
