-- Pieces of text compared with the spellings of keys: what the tests say is what is meant.
use Rattle.std.proofs.Common.{◌≡◌, ℕ, ◌+◌, ◌<◌, ◌≤◌, Bool, true, false, ◌&&◌, eqb, leb, ◌⊎◌, List, [], ◌∷◌, ◌++◌, length, is_some, Some, None, Decides, Option, sym, refl, ◌∙◌, subst, inl, inr, arith, Bor, MatchOption}
use Rattle.std.proofs.lemmas.List.Prefix.{front_fits}
use Rattle.std.proofs.lemmas.List.{append-nil, length-append, nil_from_length}
use Rattle.std.proofs.lemmas.Bool.{false≢true, and_parts, leb-true, le-leb}
use Rattle.std.proofs.lemmas.Bool.Decides.{Decides-eqb, Decides-and, Decides-or, Decides-like}
use Rattle.language.specs.Book.{KeyForm, Grammar, Meaning, Key, form, kind}
use Rattle.language.specs.Machine.{is_key}
use Rattle.language.proofs.Tests.{key_test, test_key}
use Rattle.wording.specs.Matching.{NameMatches, PieceMatches, begins, name_matches, piece_matches}
use Rattle.rulebook.specs.Sets.{key_number}
use Rattle.wording.specs.Sets.{word_of}
use Rattle.wording.specs.declared.pieces.Piece.{Piece}
use Rattle.wording.specs.declared.pieces.Piece.TheVariants.{Name, Figure, End}

-- the list t begins with the list s
abbrev Front : List ℕ → List ℕ → Type 0
Front s t = (rest : List ℕ) × (t ≡ s ++ rest)

-- and is no longer
front_whole : (s t : List ℕ) → length s ≡ length t → Front s t → t ≡ s
front_whole s t e (rest, f) =
    let none = nil_from_length rest (omega (arith, length-append s rest, subst (λ x. length t ≡ length x) f refl)) in
    f ∙ (subst (λ r. s ++ rest ≡ s ++ r) none refl ∙ append-nil s)

module _ (s : List ℕ) (w : KeyForm) where
  pub whole_matches : w.kind ≡ 0 → length s ≡ length w.spelling → Front s w.spelling → NameMatches s w
  whole_matches k l f = NameMatches.whole k (front_whole s w.spelling l f)

  pub short_front : w.kind ≡ 2 → NameMatches s w → Front s w.spelling
  short_front k (NameMatches.whole z e) = absurd (omega arith)
  short_front k (NameMatches.shortened two l rest e) = (rest, e)

-- a number that has a place among the keys is that of a key
pub key_placed : (g : Grammar) (o : Option ℕ) (P : Type 0) (n c : ℕ) → n ≡ g.keys → MatchOption o P (λ i. (i < n) × (33 + i ≡ c)) → is_some o ≡ true → Key g c
key_placed g None P n c e h some = absurd (false≢true some)
key_placed g (Some i) P n c e h some = record { low = omega (arith, h.1); high = omega (arith, h.0, h.1) }

-- a name matches what it matches by kind and spelling
pub name_piece : (m : Meaning) (p : Piece) (name : Bor (List ℕ)) (c : ℕ) (r : Bool) → p ≡ Name name → Key m.grammar c → Decides r (NameMatches name.now (form m.forms c)) → Decides r (PieceMatches m p c)
name_piece m p name c r e key h = subst (λ q. Decides r (PieceMatches m q c)) (sym e) (Decides-like r (λ n. (key, n)) (λ n. n.1) h)

-- the tests
decides_leb : (a b : ℕ) → Decides (leb a b) (a ≤ b)
decides_leb a b = (leb-true a b, le-leb a b)

begins_decides : (s t : List ℕ) → Decides (begins s t) (Front s t)
begins_decides [] t = ((λ h. (t, refl)), (λ f. refl))
begins_decides (x ∷ s) [] = ((λ h. absurd (false≢true h)), (λ f. absurd (omega (arith, front_fits [] (x ∷ s) f.0 f.1))))
begins_decides (x ∷ s) (y ∷ t) = Decides-like _ longer shorter (Decides-and (eqb y x) (begins s t) (Decides-eqb y x) (begins_decides s t))
  where
    longer : (y ≡ x) × Front s t → Front (x ∷ s) (y ∷ t)
    longer (e, (rest, f)) = (rest, cc)

    shorter : Front (x ∷ s) (y ∷ t) → (y ≡ x) × Front s t
    shorter (rest, f) = (cc, (rest, cc))

name_decides : (s : List ℕ) (w : KeyForm) → Decides (name_matches s w) (NameMatches s w)
name_decides s w = Decides-like _ to from
    (Decides-or _ _
    (Decides-and _ _ (Decides-eqb w.kind 0) (Decides-and _ _ (Decides-eqb (length w.spelling) (length s)) (begins_decides s w.spelling)))
    (Decides-and _ _ (Decides-eqb w.kind 2) (Decides-and _ _ (decides_leb 3 (length s)) (begins_decides s w.spelling))))
  where
    to : ((w.kind ≡ 0) × ((length w.spelling ≡ length s) × Front s w.spelling)) ⊎ ((w.kind ≡ 2) × ((3 ≤ length s) × Front s w.spelling)) → NameMatches s w
    to (inl (k, (l, f))) = whole_matches s w k (sym l) f
    to (inr (k, (l, f))) = NameMatches.shortened k l f.0 f.1

    from : NameMatches s w → ((w.kind ≡ 0) × ((length w.spelling ≡ length s) × Front s w.spelling)) ⊎ ((w.kind ≡ 2) × ((3 ≤ length s) × Front s w.spelling))
    from (NameMatches.whole k e) = inl (k, (subst (λ t. length w.spelling ≡ length t) e refl, ([], e ∙ sym (append-nil s))))
    from (NameMatches.shortened k l rest e) = inr (k, (l, (rest, e)))

-- a key of a book with at most 32 keys has a number that a key can have
module _ (m : Meaning) (few : m.grammar.keys ≤ 32) (c : ℕ) where
  key_decides : (P : Type 0) (b : Bool) → Decides b P → Decides (key_number c && (is_key m.grammar c && b)) (Key m.grammar c × P)
  key_decides P b h =
      Decides-like _ (λ k. k.1) (λ k. ((k.0.low, omega (arith, k.0.high)), k))
      (Decides-and _ _ (Decides-and _ _ (decides_leb 33 c) (decides_leb c 64)) (Decides-and _ _ (key_test m.grammar c, test_key m.grammar c) h))

  pub piece_decides : (p : Piece) → Decides (word_of (piece_matches m p) c) (PieceMatches m p c)
  unfolding piece_matches
  piece_decides (Name b) = key_decides _ _ (name_decides b.now (form m.forms c))
  piece_decides (Figure b v) = key_decides _ _ (Decides-eqb (kind m.forms c) 1)
  piece_decides End = ((λ h. absurd (false≢true (and_parts (key_number c) false h).1)), (λ h. absurd h))
