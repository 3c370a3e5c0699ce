-- The set of keys that a word matches, collected key by key.
use Rattle.std.proofs.Common.{◌≡◌, ℕ, Bool, false, ◌&&◌, ltb, leb, sym, ap, ◌∙◌, ⊎_elim}
use Rattle.std.proofs.lemmas.Bool.{and_left, and_right, cases_lt, le-ltb, lt-leb}
use Rattle.rulebook.specs.Sets.{holds, has, key_number}
use Rattle.rulebook.specs.declared.sets.SymbolSet.{SymbolSet}
use Rattle.rulebook.proofs.Holding.{holds_none}
use Rattle.wording.specs.Sets.{word_of}

-- no key is below 33
none_below : (f : ℕ → Bool) (c : ℕ) → (ltb c 33 && word_of f c) ≡ false
none_below f c = ⊎_elim
    (λ l. and_right (ltb c 33) (word_of f c) (and_left (key_number c) (f c) (and_left (leb 33 c) (leb c 64) (lt-leb 33 c l))))
    (λ l. and_left (ltb c 33) (word_of f c) (le-ltb c 33 l)) (cases_lt c 33)

pub none_collected : (f : ℕ → Bool) (s : SymbolSet) → s.mask ≡ 0 → (c : ℕ) → has s c ≡ (ltb c 33 && word_of f c)
none_collected f s none c = ap (λ m. holds m c) none ∙ (holds_none c ∙ sym (none_below f c))
