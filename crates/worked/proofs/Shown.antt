-- What the tests show: the items over the words, the lit keys, whether the words are whole, and which words match a lit key.
use Rattle.std.proofs.Common.{◌≡◌, ℕ, ◌≤◌, Bool, true, false, not, ◌&&◌, eqb, List, [], ◌∷◌, length, get_or, refl, subst}
use denote.Floats.{is_true}
use Rattle.std.specs.List.{AllByRecursion}
use Rattle.std.proofs.lemmas.Bool.{and_parts, and_from, eqb-true, eq-eqb, both_ways, not-true}
use Rattle.std.proofs.lemmas.Float.{T_from_true}
use Rattle.language.specs.Book.{Grammar, Meaning, Numbered, left, size}
use Rattle.language.specs.Words.{Word}
use Rattle.language.specs.Readings.{Item, item}
use Rattle.language.specs.Machine.{is_key}
use Rattle.language.specs.Chart.{Whole, Wanted, Held, HeldItem, Spans}
use Rattle.language.specs.Columns.{Among, Apart}
use Rattle.language.specs.Sound.{Sound}
use Rattle.language.specs.Drafts.{Items, Lit, LitKeys}
use Rattle.language.proofs.Chart.Theorem.{chart_theorem}
use Rattle.draft.specs.Law.{MatchesLit}
use Rattle.worked.proofs.Check.{any, every, any_member, member_any, every_member, has, has_among}
use Rattle.language.proofs.Members.{all_among}
use Rattle.language.proofs.Tests.{key_test, test_key}
use Rattle.worked.proofs.Items.{ended, spanned, wants, wants_wanted, derived, derived_held}
use Rattle.worked.proofs.Closed.{implies, implied, same_item, same_self, listed, closed, corners_listed, closed_next, closed_items, held_among, wanted_listed, spans_spanned}

-- no item stands twice in the list
unfoldable pub apart : List Item → Bool
apart [] = true
apart (t ∷ ts) = not (any (same_item t) ts) && apart ts

apart_shown : (ts : List Item) → apart ts ≡ true → Apart ts
unfolding apart
apart_shown [] h = tt
apart_shown (t ∷ ts) h =
    let p = and_parts (not (any (same_item t) ts)) (apart ts) h in
    (λ m. both_ways (any (same_item t) ts) (not-true _ p.0) (member_any (same_item t) ts t m (same_self t)), apart_shown ts p.1)

module _ (g : Grammar) (ws : List Word) (ts : List Item) (Ns : List (List ℕ)) (cs : List ℕ) where
  -- the listed items are derived, closed and apart, and the keys are those that are wanted after the last word
  unfoldable pub exact : Bool
  exact = derived g ws [] ts && (closed g ws ts Ns && apart ts)

  unfoldable pub lit : Bool
  lit = every (λ c. is_key g c && wants g ws ts (length ws) c) cs && every (λ Y. implies (is_key g Y) (has Y cs)) (get_or Ns (length ws) [])

  -- some finished item of the start part spans all words
  unfoldable pub whole : Bool
  whole = any (ended g ws g.start 0 (length ws)) ts

  module _ (some_symbols : (r : ℕ) → Numbered g r → 1 ≤ size g r) (tested : exact ≡ true) where
    derived_is : derived g ws [] ts ≡ true
    unfolding exact
    derived_is = (and_parts (derived g ws [] ts) _ tested).0

    closed_is : closed g ws ts Ns ≡ true
    unfolding exact
    closed_is = (and_parts (closed g ws ts Ns) (apart ts) (and_parts (derived g ws [] ts) _ tested).1).0

    apart_is : apart ts ≡ true
    unfolding exact
    apart_is = (and_parts (closed g ws ts Ns) (apart ts) (and_parts (derived g ws [] ts) _ tested).1).1

    all_held : AllByRecursion (HeldItem g ws) ts
    all_held = derived_held g ws [] ts tt derived_is

    first_closed : corners_listed g ws ts Ns 0 g.start ≡ true
    unfolding closed
    first_closed = (and_parts (corners_listed g ws ts Ns 0 g.start) _ closed_is).0

    rest_closed : (every (closed_next g ws ts Ns) ts && closed_items g ws ts Ns) ≡ true
    unfolding closed
    rest_closed = (and_parts (corners_listed g ws ts Ns 0 g.start) _ closed_is).1

    pub among : (r d i k : ℕ) → Held g ws r d i k → Among (item r d i k) ts
    among = held_among g ws ts Ns some_symbols first_closed (and_parts (every (closed_next g ws ts Ns) ts) _ rest_closed).0 (and_parts (every (closed_next g ws ts Ns) ts) _ rest_closed).1

    pub spans : (X j k : ℕ) → Spans g ws X j k → spanned g ws ts X j k ≡ true
    spans = spans_spanned g ws ts Ns some_symbols first_closed (and_parts (every (closed_next g ws ts Ns) ts) _ rest_closed).0 (and_parts (every (closed_next g ws ts Ns) ts) _ rest_closed).1

    is_listed : (k Y : ℕ) → Wanted g ws k Y → listed g ws ts Ns k Y ≡ true
    is_listed = wanted_listed g ws ts Ns some_symbols first_closed (and_parts (every (closed_next g ws ts Ns) ts) _ rest_closed).0 (and_parts (every (closed_next g ws ts Ns) ts) _ rest_closed).1

    pub items_shown : Items g ws ts
    items_shown = record { held = all_held; all = among; apart = apart_shown ts apart_is }

    pub lit_shown : lit ≡ true → LitKeys g ws cs
    unfolding lit listed
    lit_shown h c = (forth, back)
      where
        parts : (every (λ c. is_key g c && wants g ws ts (length ws) c) cs ≡ true) × (every (λ Y. implies (is_key g Y) (has Y cs)) (get_or Ns (length ws) []) ≡ true)
        parts = and_parts _ _ h

        forth : Among c cs → Lit g ws c
        forth m =
            let p = and_parts (is_key g c) _ (every_member (λ c. is_key g c && wants g ws ts (length ws) c) cs c parts.0 m) in
            record { key = key_test g c p.0; wanted = wants_wanted g ws ts all_held (length ws) c p.1 }

        back : Lit g ws c → Among c cs
        back l =
            let inside = has_among c (get_or Ns (length ws) []) (is_listed (length ws) c l.wanted) in
            has_among c cs (implied (is_key g c) (has c cs) (every_member (λ Y. implies (is_key g Y) (has Y cs)) (get_or Ns (length ws) []) c parts.1 inside) (test_key g c l.key))

    pub whole_shown : whole ≡ true → Whole g ws
    unfolding whole ended
    whole_shown h =
        let m = any_member (ended g ws g.start 0 (length ws)) ts h in
        let u = m.the in
        let p = and_parts (eqb (left g u.rule) g.start) _ m.has in
        let q = and_parts (eqb u.done (size g u.rule)) _ p.1 in
        let r = and_parts (eqb u.start 0) (eqb u.end (length ws)) q.1 in
        let h0 = all_among (HeldItem g ws) ts u all_held m.among in
        let h1 = subst (λ x. Held g ws u.rule x u.start u.end) (eqb-true _ _ q.0) h0 in
        let h2 = subst (λ x. Held g ws u.rule (size g u.rule) x u.end) (eqb-true _ _ r.0) h1 in
        record { by = u.rule; heads = eqb-true _ _ p.0; held = subst (λ x. Held g ws u.rule (size g u.rule) 0 x) (eqb-true _ _ r.1) h2 }

    pub not_whole : whole ≡ false → Whole g ws → ⊥
    unfolding whole ended
    not_whole h w = both_ways _ h (member_any (ended g ws g.start 0 (length ws)) ts (item w.by (size g w.by) 0 (length ws)) (among w.by (size g w.by) 0 (length ws) w.held)
        (and_from (eqb (left g w.by) g.start) _ (eq-eqb _ _ w.heads)
        (and_from (eqb (size g w.by) (size g w.by)) _ (eq-eqb _ _ refl)
        (and_from (eqb 0 0) (eqb (length ws) (length ws)) refl (eq-eqb (length ws) (length ws) refl)))))

-- a word that matches none of the lit keys
pub matches_none : (m : Meaning) → Sound m → (ws : List Word) (w : Word) (cs : List ℕ) → LitKeys m.grammar ws cs → every (λ c. not (w c)) cs ≡ true → MatchesLit m.grammar ws w → ⊥
matches_none m sound ws w cs l h b = both_ways (w b.key) (not-true _ (every_member (λ c. not (w c)) cs b.key h ((l b.key).1 (((chart_theorem m sound ws).lit b.key).1 b.follows)))) (is_true _ b.matches)

-- a word that matches the lit key c
pub matches : (m : Meaning) → Sound m → (ws : List Word) (w : Word) (cs : List ℕ) (c : ℕ) → LitKeys m.grammar ws cs → has c cs ≡ true → w c ≡ true → MatchesLit m.grammar ws w
matches m sound ws w cs c l h b = record { key = c; follows = ((chart_theorem m sound ws).lit c).0 ((l c).0 (has_among c cs h)); matches = T_from_true _ b }
