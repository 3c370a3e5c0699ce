-- What the chart needs of a grammar, and that a sound one has it.
use Rattle.std.proofs.Common.{ℕ, ◌<◌, ◌≤◌, inl, inr, ⊎_elim, arith}
use Rattle.language.specs.Book.{Grammar, Meaning, Part, Key, Numbered, left, size, symbol}
use Rattle.language.specs.Sound.{Sound}
use Rattle.language.specs.Readings.{Reading}
use Rattle.language.proofs.Chart.Turned.{Tree, turned}

-- a grammar whose rules are not empty, whose symbols are keys or have a reading, and whose start part is no key
pub record Proper (g : Grammar) : Type 0 where
  pub filled : (r : ℕ) → Numbered g r → 1 ≤ size g r
  pub trees : (r : ℕ) → Numbered g r → (d : ℕ) → d < size g r → Tree g (symbol g r d)
  pub start_apart : Key g g.start → ⊥

module _ (m : Meaning) (sound : Sound m) where
  -- no symbol is a part and a key
  pub part_apart : (X : ℕ) → Part m.grammar X → Key m.grammar X → ⊥
  part_apart X p k = omega (arith, sound.formed.counts.few_parts)

  -- the left side of a rule is a part, so no key
  pub left_part : (r : ℕ) → Numbered m.grammar r → Part m.grammar (left m.grammar r)
  left_part r n = (sound.formed.rules r n).turns

  pub left_apart : (r : ℕ) → Numbered m.grammar r → Key m.grammar (left m.grammar r) → ⊥
  left_apart r n = part_apart (left m.grammar r) (left_part r n)

  -- every part has a reading
  pub part_reading : (X : ℕ) → Part m.grammar X → Reading m.grammar X
  part_reading X p = ⊎_elim (λ k. absurd (part_apart X p k)) (λ t. t) (turned m.grammar X (sound.productive X p))

  -- every symbol of a rule is a key or has a reading
  pub symbol_tree : (r : ℕ) → Numbered m.grammar r → (d : ℕ) → d < size m.grammar r → Tree m.grammar (symbol m.grammar r d)
  symbol_tree r n d l = ⊎_elim (λ p. inr (part_reading (symbol m.grammar r d) p)) inl ((sound.formed.rules r n).symbols d l)

  pub sound_proper : Proper m.grammar
  sound_proper = record {
    filled = λ r n. (sound.formed.rules r n).some_symbols;
    trees = symbol_tree;
    start_apart = part_apart m.grammar.start sound.formed.counts.start_part;
  }
