-- Which keys a piece of programme text matches.
use Rattle.std.specs.Prelude.{◌≡◌, ℕ, ◌≤◌, Bool, true, false, ◌&&◌, ◌||◌, List, [], ◌∷◌, ◌++◌, length, ◌==◌, nat_le}
use Rattle.language.specs.Book.{Meaning, KeyForm, Key, form, kind}
use Rattle.language.specs.Machine.{is_key}
use Rattle.wording.specs.declared.pieces.Piece.{Piece}
use Rattle.wording.specs.declared.pieces.Piece.TheVariants.{Name, Figure, End}

-- a name matches a key of kind 0 that is spelled like it, and one of kind 2 whose spelling begins with it if it has at least 3 bytes
pub data NameMatches (s : List ℕ) (w : KeyForm) : Type 0 where
  whole : w.kind ≡ 0 → w.spelling ≡ s → NameMatches s w
  shortened : w.kind ≡ 2 → 3 ≤ length s → (rest : List ℕ) → w.spelling ≡ s ++ rest → NameMatches s w

-- a piece matches key c of a book; a figure matches every key of kind 1, the end none
abbrev pub PieceMatches : Meaning → Piece → ℕ → Type 0
PieceMatches m (Name b) c = Key m.grammar c × NameMatches b.now (form m.forms c)
PieceMatches m (Figure b v) c = Key m.grammar c × (kind m.forms c ≡ 1)
PieceMatches m End c = ⊥

-- The same as tests, since a word is a set that can be asked:

-- ys begins with xs
abbrev pub begins : List ℕ → List ℕ → Bool
begins [] ys = true
begins (x ∷ xs) [] = false
begins (x ∷ xs) (y ∷ ys) = y == x && begins xs ys

abbrev pub name_matches : List ℕ → KeyForm → Bool
name_matches s w =
    (w.kind == 0 && (length w.spelling == length s && begins s w.spelling)) || (w.kind == 2 && (nat_le 3 (length s) && begins s w.spelling))

unfoldable pub piece_matches : Meaning → Piece → ℕ → Bool
piece_matches m (Name b) c = is_key m.grammar c && name_matches b.now (form m.forms c)
piece_matches m (Figure b v) c = is_key m.grammar c && kind m.forms c == 1
piece_matches m End c = false
