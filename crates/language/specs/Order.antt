-- Which of two readings of one part over the same words comes first.
--
-- The reading with the lower top rule comes first. Under one rule, the one whose last child begins earlier, then the child
-- before it, and so leftwards. With equal beginnings, the children's readings are compared from the last leftwards.
use Rattle.std.specs.Prelude.{◌≡◌, ℕ, ◌<◌, ◌⊎◌, List, [], ◌∷◌, length}
use Rattle.language.specs.Book.{Grammar, Meaning}
use Rattle.language.specs.Sound.{Sound}
use Rattle.language.specs.Words.{Word}
use Rattle.language.specs.Readings.{Children, none, key, part, yield, Reads}

-- where the children begin, the last child first
abbrev pub beginnings : Children → List ℕ
beginnings none = []
beginnings (key ks c) = length (yield ks) ∷ beginnings ks
beginnings (part ks s cs) = length (yield ks) ∷ beginnings ks

-- at the first place where they differ, the first list has the lower number
abbrev pub Earlier : List ℕ → List ℕ → Type 0
Earlier [] ys = ⊥
Earlier (x ∷ xs) [] = ⊥
Earlier (x ∷ xs) (y ∷ ys) = (x < y) ⊎ ((x ≡ y) × Earlier xs ys)

-- lower rule r, or the same and earlier beginnings bs, or the same and what the children say
abbrev pub Top : ℕ → List ℕ → ℕ → List ℕ → Type 0 → Type 0
Top r bs q cs I = (r < q) ⊎ ((r ≡ q) × (Earlier bs cs ⊎ ((bs ≡ cs) × I)))

-- of children of one rule with the same beginnings: at the last child whose readings differ, the first reading comes first
abbrev pub Inner : Children → Children → Type 0
Inner none ls = ⊥
Inner (key ks c) none = ⊥
Inner (key ks c) (key ls d) = Inner ks ls
Inner (key ks c) (part ls t ds) = ⊥
Inner (part ks s cs) none = ⊥
Inner (part ks s cs) (key ls d) = ⊥
Inner (part ks s cs) (part ls t ds) = Top s (beginnings cs) t (beginnings ds) (Inner cs ds) ⊎ ((s ≡ t) × (cs ≡ ds) × Inner ks ls)

-- the reading by rule r with children ks comes before the one by rule q with children ls
abbrev pub Before : ℕ → Children → ℕ → Children → Type 0
Before r ks q ls = Top r (beginnings ks) q (beginnings ls) (Inner ks ls)

-- two readings of the words are the same tree
abbrev pub Same : {g : Grammar} {X : ℕ} {ws : List Word} → Reads g X ws → Reads g X ws → Type 0
Same a b = (a.reading.by ≡ b.reading.by) × (a.reading.children ≡ b.reading.children)

-- every other reading of the words comes after this one
abbrev pub Least : {g : Grammar} {X : ℕ} {ws : List Word} → Reads g X ws → Type 0
Least {g} {X} {ws} a = (b : Reads g X ws) → Same a b ⊎ Before a.reading.by a.reading.children b.reading.by b.reading.children

-- the first reading of the words by the part X
pub record First (g : Grammar) (X : ℕ) (ws : List Word) : Type 0 where
  pub reads : Reads g X ws
  pub least : Least reads

-- in a book that the check accepts: if a part reads the words, there is a first reading of them, and only one
pub record FirstIs (g : Grammar) (X : ℕ) (ws : List Word) : Type 0 where
  pub exists : Reads g X ws → First g X ws
  pub unique : (a b : First g X ws) → Same a.reads b.reads

abbrev pub FirstTheorem : Type 0
FirstTheorem = (m : Meaning) → Sound m → (X : ℕ) (ws : List Word) → FirstIs m.grammar X ws
