-- The two passes of the walk: the moves are counted, and written from the last to the first.
use Rattle.std.proofs.Common.{◌≡◌, ℕ, ◌+◌, ◌<◌, ◌≤◌, List, [], ◌∷◌, ◌++◌, length, take, drop, Option, Some, MatchOption, sym, ap, ◌∙◌, subst, arith, length-append}
use Rattle.std.proofs.lemmas.List.{append_assoc, length-take-le, length-drop}
use Rattle.std.proofs.Math.Seq.{drop-append_seam}
use Rattle.language.specs.Book.{Grammar}
use Rattle.language.specs.Words.{Word}
use Rattle.reading.specs.Walks.{Owed, behind_moves}
use Rattle.reading.specs.declared.walks.Behind.{Behind}
use Rattle.reading.specs.declared.walks.Behind.TheVariants.{Key, Part}
use Rattle.reading.specs.declared.walks.Open.{Open}

-- a stack that was empty and had room holds the one that was kept
pub kept_one : (top : Open) (old new : List Open) (room : ℕ) → old ≡ [] → room ≡ 100 → (length old < room → new ≡ top ∷ old) → new ≡ top ∷ []
kept_one top old new room none places kept = kept (omega (arith, ap length none, places)) ∙ ap (λ xs. top ∷ xs) none

behind_some : (b : Behind) → 1 ≤ length (behind_moves b)
behind_some (Key mark) = omega arith
behind_some (Part mark) = omega arith

-- one step of the walk, told by its answer
abbrev pub Told : Grammar → List Word → List Open → List Open → Option Behind → Type 0
Told g ws old new answer =
    (ns : List ℕ) → Owed g ws old ns → MatchOption answer (ns ≡ []) (λ b. (before : List ℕ) × Owed g ws new before × (ns ≡ before ++ behind_moves b))

module _ (g : Grammar) (ws : List Word) (top : Open) where
  -- so many moves are counted, and the rest is owed
  abbrev pub Counted : List Open → ℕ → Type 0
  Counted os moves = (all : List ℕ) → Owed g ws (top ∷ []) all → (ns : List ℕ) × Owed g ws os ns × (length ns + moves ≡ length all + 2)

  pub counted_first : (os : List Open) (moves : ℕ) → os ≡ top ∷ [] → moves ≡ 2 → Counted os moves
  counted_first os moves is two all o = (all, subst (λ xs. Owed g ws xs all) (sym is) o, omega (arith, two))

  pub counted_more : (old new : List Open) (b : Behind) (moves n : ℕ) → n ≡ length (behind_moves b) → Counted old moves → Told g ws old new (Some b) → Counted new (moves + n)
  counted_more old new b moves n long counted told all o =
      let (ns, owed, many) = counted all o in
      let (before, rest, is) = told ns owed in
      (before, rest, omega (arith, many, long, ap length is, length-append before (behind_moves b)))

  -- no more are counted than there are
  pub counted_few : (old new : List Open) (b : Behind) (moves n : ℕ) → n ≡ length (behind_moves b) → Counted old moves → Told g ws old new (Some b) → (all : List ℕ) → Owed g ws (top ∷ []) all
      → (1 ≤ n) × (moves + n ≤ length all + 2)
  counted_few old new b moves n long counted told all o =
      let (ns, owed, many) = counted_more old new b moves n long counted told all o in
      (omega (arith, long, behind_some b), omega (arith, many))

  pub counted_all : (os : List Open) (moves : ℕ) → Counted os moves → ((ns : List ℕ) → Owed g ws os ns → ns ≡ []) → (all : List ℕ) → Owed g ws (top ∷ []) all → moves ≡ length all + 2
  counted_all os moves counted told all o =
      let (ns, owed, many) = counted all o in
      omega (arith, many, ap length (told ns owed))

  -- from a place on the strip holds what it will, and the moves before that are owed
  module _ (moves : ℕ) (lent : List ℕ) where
    pub record Partly (os : List Open) (at : ℕ) (strip all : List ℕ) : Type 0 where
      pub moves_left : List ℕ
      pub owed : Owed g ws os moves_left
      pub at_is : at ≡ length moves_left
      pub told : moves_left ++ drop at strip ≡ all ++ (0 ∷ 129 ∷ drop moves lent)

    abbrev pub PartWritten : List Open → ℕ → List ℕ → Type 0
    PartWritten os at strip = (all : List ℕ) → Owed g ws (top ∷ []) all → moves ≡ length all + 2 → Partly os at strip all

    -- what a put leaves behind the place where it begins
    put_behind : (b : Behind) (at from : ℕ) (old new : List ℕ) → from + length (behind_moves b) ≡ at → at ≤ length old → new ≡ take from old ++ (behind_moves b ++ drop at old) → drop from new ≡ behind_moves b ++ drop at old
    put_behind b at from old new e inside is =
        let front : length (take from old) ≡ from = length-take-le from old (omega arith) in
        ap (drop from) is ∙ (ap (λ n. drop n (take from old ++ (behind_moves b ++ drop at old))) (sym front) ∙ drop-append_seam (take from old) (behind_moves b ++ drop at old))

    pub part_first : (os : List Open) (b : Behind) (from : ℕ) (strip : List ℕ) → os ≡ top ∷ [] → behind_moves b ≡ 0 ∷ 129 ∷ [] → from + length (behind_moves b) ≡ moves → moves ≤ length lent
        → strip ≡ take from lent ++ (behind_moves b ++ drop moves lent) → PartWritten os from strip
    part_first os b from strip is marks e inside written all o many = record {
      moves_left = all;
      owed = subst (λ xs. Owed g ws xs all) (sym is) o;
      at_is = omega (arith, e, many, ap length marks);
      told = ap (λ xs. all ++ xs) (put_behind b moves from lent strip e inside written ∙ ap (λ xs. xs ++ drop moves lent) marks);
    }

    -- there is room for what stands behind the next child
    pub part_room : (old new : List Open) (b : Behind) (at : ℕ) (strip : List ℕ) → PartWritten old at strip → Told g ws old new (Some b) → length strip ≡ length lent → moves ≤ length lent
        → (all : List ℕ) → Owed g ws (top ∷ []) all → moves ≡ length all + 2 → (length (behind_moves b) ≤ at) × (at ≤ length strip)
    part_room old new b at strip part told long room all o many =
        let p = part all o many in
        let (before, rest, is) = told p.moves_left p.owed in (
          omega (arith, p.at_is, ap length is, length-append before (behind_moves b)),
          omega (arith, p.at_is, long, room, many, ap length p.told, length-append p.moves_left (drop at strip), length-drop at strip, length-append all (0 ∷ 129 ∷ drop moves lent), length-drop moves lent),
        )

    pub part_more : (old new : List Open) (b : Behind) (at from : ℕ) (strip strip' : List ℕ) → PartWritten old at strip → Told g ws old new (Some b) → from + length (behind_moves b) ≡ at → at ≤ length strip
        → strip' ≡ take from strip ++ (behind_moves b ++ drop at strip) → PartWritten new from strip'
    part_more old new b at from strip strip' part told e inside written all o many =
        let p = part all o many in
        let (before, rest, is) = told p.moves_left p.owed in
        record {
          moves_left = before;
          owed = rest;
          at_is = omega (arith, e, p.at_is, ap length is, length-append before (behind_moves b));
          told = ap (λ xs. before ++ xs) (put_behind b at from strip strip' e inside written) ∙ (sym (append_assoc before (behind_moves b) (drop at strip)) ∙ (ap (λ xs. xs ++ drop at strip) (sym is) ∙ p.told));
        }

    pub part_all : (os : List Open) (at : ℕ) (strip : List ℕ) → PartWritten os at strip → ((ns : List ℕ) → Owed g ws os ns → ns ≡ []) → (all : List ℕ) → Owed g ws (top ∷ []) all → moves ≡ length all + 2
        → strip ≡ all ++ (0 ∷ 129 ∷ drop moves lent)
    part_all os at strip part told all o many =
        let p = part all o many in
        let nothing = told p.moves_left p.owed in
        let zero : at ≡ 0 = omega (arith, p.at_is, ap length nothing) in
        sym (ap (λ xs. xs ++ drop at strip) nothing ∙ ap (λ n. drop n strip) zero) ∙ p.told
