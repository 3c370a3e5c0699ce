-- Which symbols a mask holds.
use Rattle.std.specs.Prelude.{ℕ, ◌-◌, Bool, ◌&&◌, ◌==◌, nat_le, count_by}
use Rattle.std.specs.List.{range_with_len}
use Rattle.language.specs.Masks.{bit}
use Rattle.rulebook.specs.declared.sets.SymbolSet.{SymbolSet}

-- c is one of the symbols 1 to 64 that a mask can hold
abbrev pub symbolic : ℕ → Bool
symbolic c = nat_le 1 c && nat_le c 64

-- a mask holds symbol c
unfoldable pub holds : ℕ → ℕ → Bool
holds m c = symbolic c && bit m (c - 1)

-- a set holds symbol c
abbrev pub has : SymbolSet → ℕ → Bool
has s c = holds s.mask c

-- c is the symbol x
abbrev pub is_symbol : ℕ → ℕ → Bool
is_symbol x c = symbolic c && x == c

-- c is a number that a key can have, 33 to 64
abbrev pub key_number : ℕ → Bool
key_number c = nat_le 33 c && nat_le c 64

-- how many of the symbols 1 to 64 a set holds
abbrev pub many : SymbolSet → ℕ
many s = count_by (has s) (range_with_len 1 64)
