-- The choice that gives the first reading: part by part the lowest rule, and for its children, from the last leftwards, the
-- earliest beginning.
use Rattle.std.specs.Prelude.{◌≡◌, ℕ, ◌+◌, ◌≤◌, ◌↔◌, T, List, [], ◌∷◌, length, take, drop}
use Rattle.language.specs.Book.{Grammar, Key, Meaning, left, size, symbol}
use Rattle.language.specs.Sound.{Sound}
use Rattle.language.specs.Words.{Word, between}
use Rattle.language.specs.Readings.{Children, none, key, part, yield, count, Done, Reads}
use Rattle.language.specs.Chart.{Wanted, Held, Spans}
use Rattle.language.specs.Order.{Least}

-- a symbol reads the words: a key that the only word matches, or a part with a reading
pub data Covers (g : Grammar) (X : ℕ) : List Word → Type 0 where
  word : (w : Word) → Key g X → T (w X) → Covers g X (w ∷ [])
  reading : (ws : List Word) → Reads g X ws → Covers g X ws

-- no lower rule of the same part reads the words
abbrev pub Lowest : Grammar → ℕ → List Word → Type 0
Lowest g r ws = (q : ℕ) → left g q ≡ left g r → Done g q (size g q) ws → r ≤ q

-- the symbol at place d of rule r can begin no earlier than after b of the words
abbrev pub Earliest : Grammar → ℕ → ℕ → ℕ → List Word → Type 0
Earliest g r d b ws = (j : ℕ) → Done g r d (take j ws) → Covers g (symbol g r d) (drop j ws) → b ≤ j

-- the children are chosen so, and everything below them
abbrev pub Chosen : Grammar → ℕ → Children → List Word → Type 0
Chosen g r none ws = Unit {0}
Chosen g r (key ks c) ws = Earliest g r (count ks) (length (yield ks)) ws × Chosen g r ks (take (length (yield ks)) ws)
Chosen g r (part ks s cs) ws =
    Earliest g r (count ks) (length (yield ks)) ws
    × Chosen g r ks (take (length (yield ks)) ws)
    × Lowest g s (drop (length (yield ks)) ws)
    × Chosen g s cs (drop (length (yield ks)) ws)

-- in a book that the check accepts, a reading is the first exactly when it is so chosen
abbrev pub ChoiceTheorem : Type 0
ChoiceTheorem =
    (m : Meaning) → Sound m → (X : ℕ) (ws : List Word) (t : Reads m.grammar X ws)
    → Least t ↔ (Lowest m.grammar t.reading.by ws × Chosen m.grammar t.reading.by t.reading.children ws)

-- The same choice told by the items over the words, for a part that starts after word i.

-- no lower rule of the same part has a finished item from there to word k
abbrev pub LowestHeld : Grammar → List Word → ℕ → ℕ → ℕ → Type 0
LowestHeld g ws r i k = (q : ℕ) → left g q ≡ left g r → Held g ws q (size g q) i k → r ≤ q

-- no item with d symbols of rule r done ends before word b, if the next symbol spans from its end to word k
abbrev pub EarliestHeld : Grammar → List Word → ℕ → ℕ → ℕ → ℕ → ℕ → Type 0
EarliestHeld g ws r d i b k = (j : ℕ) → Held g ws r d i j → Spans g ws (symbol g r d) j k → b ≤ j

-- the children are chosen so, and everything below them
abbrev pub ChosenHeld : Grammar → List Word → ℕ → ℕ → Children → Type 0
ChosenHeld g ws r i none = Unit {0}
ChosenHeld g ws r i (key ks c) = EarliestHeld g ws r (count ks) i (i + length (yield ks)) (i + length (yield (key ks c))) × ChosenHeld g ws r i ks
ChosenHeld g ws r i (part ks s cs) =
    EarliestHeld g ws r (count ks) i (i + length (yield ks)) (i + length (yield (part ks s cs)))
    × ChosenHeld g ws r i ks
    × LowestHeld g ws s (i + length (yield ks)) (i + length (yield (part ks s cs)))
    × ChosenHeld g ws s (i + length (yield ks)) cs

-- in a book that the check accepts, where the part may start after word i: a reading is the first exactly when it is so
-- chosen
abbrev pub ItemsTheorem : Type 0
ItemsTheorem =
    (m : Meaning) → Sound m → (ws : List Word) (X i k : ℕ) → Wanted m.grammar ws i X → k ≤ length ws → (t : Reads m.grammar X (between i k ws))
    → Least t ↔ (LowestHeld m.grammar ws t.reading.by i k × ChosenHeld m.grammar ws t.reading.by i t.reading.children)
