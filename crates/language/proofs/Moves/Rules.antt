-- How many rules a reading has: at most 32 (2n - 1) over n words.
--
-- A rule of two or more symbols shares the words out among its children, at least one to each. Rules of one symbol below
-- each other are of different parts, since no part is turned into itself alone, so at most 32 of them form a chain.
use Rattle.std.proofs.Common.{◌≡◌, ℕ, suc, ◌+◌, ◌*◌, ◌<◌, ◌≤◌, List, [], ◌∷◌, ◌++◌, length, sym, ap, subst, inl, inr, ⊎_elim, arith, length-append}
use Rattle.std.proofs.lemmas.Bool.{cases_lt}
use Rattle.language.specs.Book.{Grammar, Meaning, Part, Numbered, left, size, symbol}
use Rattle.language.specs.Closure.{UnitPath, one, more}
use Rattle.language.specs.Sound.{Sound}
use Rattle.language.specs.Readings.{Children, none, key, part, yield, count, Fits}
use Rattle.language.specs.Columns.{Among, Apart}
use Rattle.language.specs.Moves.{below}
use Rattle.language.proofs.Fits.{fits_numbered, no_children}
use Rattle.language.proofs.Pigeonhole.{no_more}
use Rattle.language.proofs.Members.{upto, upto_length, upto_among}

-- a part that is turned into X alone
record Above (g : Grammar) (X Y : ℕ) : Type 0 where
  is_part : Part g Y
  path : UnitPath g Y X

-- a chain of rules of length 1 that leads to X: different parts, each turned into X alone
record Chain (g : Grammar) (X : ℕ) (vs : List ℕ) : Type 0 where
  distinct : Apart vs
  above : (Y : ℕ) → Among Y vs → Above g X Y

module _ (m : Meaning) (sound : Sound m) where
  abbrev g : Grammar
  g = m.grammar

  turns : (r : ℕ) → Numbered g r → Part g (left g r)
  turns r n = (sound.formed.rules r n).turns

  no_chain : (X : ℕ) → Chain g X []
  no_chain X = record { distinct = tt; above = λ Y m. absurd m }

  -- the chain to X goes on by X itself: it is none of the parts before
  chain_distinct : (X : ℕ) (vs : List ℕ) → Part g X → Chain g X vs → Apart (X ∷ vs)
  chain_distinct X vs p c = ((λ m. sound.acyclic X p (c.above X m).path), c.distinct)

  -- so it has fewer than 32 parts
  chain_short : (X : ℕ) (vs : List ℕ) → Part g X → Chain g X vs → length vs < 32
  chain_short X vs p c = omega (arith, no_more (X ∷ vs) (upto (λ x. x) 32) (chain_distinct X vs p c) listed, upto_length (λ x. x) 32)
    where
      part_listed : (Y : ℕ) → Part g Y → Among Y (upto (λ x. x) 32)
      part_listed Y q = upto_among (λ x. x) 32 Y q.low (omega (arith, q.high, sound.formed.counts.few_parts))

      listed : (Y : ℕ) → Among Y (X ∷ vs) → Among Y (upto (λ x. x) 32)
      listed Y (inl e) = part_listed Y (subst (Part g) (sym e) p)
      listed Y (inr a) = part_listed Y (c.above Y a).is_part

  -- a rule of length 1 makes the chain longer
  chain_more : (r Z : ℕ) (vs : List ℕ) → Numbered g r → size g r ≡ 1 → symbol g r 0 ≡ Z → Chain g (left g r) vs → Chain g Z (left g r ∷ vs)
  chain_more r Z vs n e z c = record { distinct = chain_distinct (left g r) vs (turns r n) c; above = above }
    where
      above : (Y : ℕ) → Among Y (left g r ∷ vs) → Above g Z Y
      above Y (inl y) = record { is_part = subst (Part g) (sym y) (turns r n); path = subst (UnitPath g Y) z (one r n e (sym y)) }
      above Y (inr a) = record { is_part = (c.above Y a).is_part; path = subst (UnitPath g Y) z (more r n e (c.above Y a).path) }

  -- few rules stand below children under rule r; if they are all its children, the rule and a chain to its part may be
  -- added
  record Few (r : ℕ) (ks : Children) : Type 0 where
    shares : below ks + 32 * count ks ≤ 64 * length (yield ks)
    whole : (vs : List ℕ) → Chain g (left g r) vs → count ks ≡ size g r → suc (below ks) + length vs + 32 ≤ 64 * length (yield ks)

  -- it is enough to look at rules of length 1: two or more children share the words out
  few_from : (r : ℕ) (ks : Children) → Numbered g r → below ks + 32 * count ks ≤ 64 * length (yield ks)
      → ((vs : List ℕ) → Chain g (left g r) vs → length vs < 32 → count ks ≡ size g r → count ks ≤ 1 → suc (below ks) + length vs + 32 ≤ 64 * length (yield ks))
      → Few r ks
  few_from r ks n shares narrow = record { shares = shares; whole = whole }
    where
      whole : (vs : List ℕ) → Chain g (left g r) vs → count ks ≡ size g r → suc (below ks) + length vs + 32 ≤ 64 * length (yield ks)
      whole vs c e = let short = chain_short (left g r) vs (turns r n) c in ⊎_elim (λ h. omega arith) (narrow vs c short e) (cases_lt 1 (count ks))

  few_none : (r : ℕ) → Numbered g r → Few r none
  few_none r n = few_from r none n (omega arith) (λ vs c short e h. absurd (omega (arith, (sound.formed.rules r n).some_symbols)))

  few_key : (r : ℕ) (ks : Children) (c : ℕ) → Numbered g r → Few r ks → Few r (key ks c)
  few_key r ks c n f = few_from r (key ks c) n (simp length-append (omega (arith, f.shares))) (λ vs t short e h. simp length-append (omega (arith, alone h)))
    where
      alone : suc (count ks) ≤ 1 → below ks ≡ 0
      alone h = ap below (no_children ks (omega arith))

  few_part : (r : ℕ) (ks : Children) (s : ℕ) (cs : Children) → Fits g r (part ks s cs) → Few r ks → Few s cs → Few r (part ks s cs)
  few_part r ks s cs f before inside =
      few_from r (part ks s cs) n (simp length-append (omega (arith, before.shares, inside.whole [] (no_chain (left g s)) f.4))) narrow
    where
      n : Numbered g r
      n = fits_numbered g r ks f.0

      -- the one child of a rule of length 1 is a part: the chain goes on
      narrow : (vs : List ℕ) → Chain g (left g r) vs → length vs < 32 → suc (count ks) ≡ size g r → suc (count ks) ≤ 1
          → suc (below ks + suc (below cs)) + length vs + 32 ≤ 64 * length (yield ks ++ yield cs)
      narrow vs c short e h =
          let first : count ks ≡ 0 = omega arith in
          let longer = chain_more r (left g s) vs n (omega arith) (subst (λ d. symbol g r d ≡ left g s) first f.2) c in
          simp length-append (omega (arith, ap below (no_children ks first), inside.whole (left g r ∷ vs) longer f.4))

  few : (r : ℕ) (ks : Children) → Fits g r ks → Few r ks
  few r none f = few_none r f
  few r (key ks c) f = few_key r ks c (fits_numbered g r ks f.0) (few r ks f.0)
  few r (part ks s cs) f = few_part r ks s cs f (few r ks f.0) (few s cs f.3)

  -- the rules of a reading over n words are at most 32 (2n - 1)
  pub few_rules_below : (r : ℕ) (ks : Children) → Fits g r ks → count ks ≡ size g r → suc (below ks) + 32 ≤ 64 * length (yield ks)
  few_rules_below r ks f e = omega (arith, (few r ks f).whole [] (no_chain (left g r)) e)
