-- The moves of a reading, and how many there are.
use Rattle.std.specs.Prelude.{◌≡◌, ℕ, zero, suc, ◌+◌, ◌-◌, ◌*◌, ◌≤◌, List, [], ◌∷◌, ◌++◌, length}
use Rattle.language.specs.Book.{Grammar, Meaning}
use Rattle.language.specs.Sound.{Sound}
use Rattle.language.specs.Words.{Word}
use Rattle.language.specs.Readings.{Children, none, key, part, count, Reading, Reads, Programme}
use Rattle.language.specs.Machine.{Complete}

-- what stands behind a child's own moves: the rule's number behind the first child, 129 behind each later one
abbrev pub behind : ℕ → ℕ → ℕ
behind r zero = r
behind r (suc d) = 129

-- the moves of children under rule r; a key has none of its own, a part those of its children and 0
abbrev pub inner : ℕ → Children → List ℕ
inner r none = []
inner r (key ks c) = inner r ks ++ (behind r (count ks) ∷ [])
inner r (part ks s cs) = inner r ks ++ (inner s cs ++ (0 ∷ behind r (count ks) ∷ []))

-- the moves of a whole reading: its tree's, 0 and a last 129
abbrev pub moves : ℕ → Children → List ℕ
moves r ks = inner r ks ++ (0 ∷ 129 ∷ [])

-- how many rules stand below
abbrev pub below : Children → ℕ
below none = 0
below (key ks c) = below ks
below (part ks s cs) = below ks + suc (below cs)

-- how many rules a reading has, its top rule counted
abbrev pub rules : {g : Grammar} {X : ℕ} → Reading g X → ℕ
rules t = suc (below t.children)

-- what is known of the moves of a reading t of the words: they are a complete run, 2m + n of them where m rules read n
-- words; there are at most 32 (2n - 1) rules, so up to 100 words at most 12,836 moves
pub record MovesAre (g : Grammar) (ws : List Word) (t : Reads g g.start ws) : Type 0 where
  pub run : Complete g ws (moves t.reading.by t.reading.children)
  pub many : length (moves t.reading.by t.reading.children) ≡ 2 * rules t.reading + length ws
  pub few_rules : rules t.reading ≤ 32 * (2 * length ws - 1)
  pub few_moves : length ws ≤ 100 → length (moves t.reading.by t.reading.children) ≤ 12836

abbrev pub MovesTheorem : Type 0
MovesTheorem = (m : Meaning) → Sound m → (ws : List Word) (t : Reads m.grammar m.grammar.start ws) → MovesAre m.grammar ws t

-- and the machine completes no other run: a complete run on the words is the moves of a reading of them
abbrev pub RunTheorem : Type 0
RunTheorem =
    (m : Meaning) → Sound m → (ws : List Word) (ns : List ℕ) → Complete m.grammar ws ns
    → (t : Programme m.grammar ws) × (moves t.reading.by t.reading.children ≡ ns)
