-- Items computed: what follows from a list of items in one step.
--
-- A list is shown to be exactly the items over the words by two tests: each item of it follows from those before it, and
-- each item that follows from the whole list is in it.
use Rattle.std.proofs.Common.{◌≡◌, ℕ, suc, Bool, true, ◌&&◌, ◌||◌, eqb, ltb, List, [], ◌∷◌, get_or, sym, subst, ⊎_elim}
use Rattle.std.specs.List.{AllByRecursion}
use Rattle.std.proofs.lemmas.Bool.{and_parts, or_cases, eqb-true, ltb-true}
use Rattle.std.proofs.lemmas.Float.{T_from_true}
use Rattle.language.specs.Book.{Grammar, left, size, symbol}
use Rattle.language.specs.Words.{Word, blank}
use Rattle.language.specs.Readings.{Item}
use Rattle.language.specs.Machine.{is_key, is_rule}
use Rattle.language.specs.Chart.{Wanted, Held, HeldItem, Spans, first, next, begin, advance, word, finished}
use Rattle.language.proofs.Members.{all_among}
use Rattle.language.proofs.Tests.{key_test, rule_test}
use Rattle.worked.proofs.Check.{any, any_member, has}
use Rattle.worked.proofs.Corners.{corners, corners_sound}

module _ (g : Grammar) (ws : List Word) where
  -- u is a finished item of X from after word j to word k
  unfoldable pub ended : ℕ → ℕ → ℕ → Item → Bool
  ended X j k u = eqb (left g u.rule) X && (eqb u.done (size g u.rule) && (eqb u.start j && eqb u.end k))

  -- X spans from after word j to word k, by a word or an item of the list
  unfoldable pub spanned : List Item → ℕ → ℕ → ℕ → Bool
  spanned ts X j k = (is_key g X && (eqb k (suc j) && get_or ws j blank X)) || any (ended X j k) ts

  -- u is unfinished, ends at word k, and Y is a left corner of its next symbol
  unfoldable pub wanting : ℕ → ℕ → Item → Bool
  wanting k Y u = eqb u.end k && (ltb u.done (size g u.rule) && has Y (corners g (symbol g u.rule u.done)))

  -- Y may start after word k, by the items of the list
  unfoldable pub wants : List Item → ℕ → ℕ → Bool
  wants ts k Y = (eqb k 0 && has Y (corners g g.start)) || any (wanting k Y) ts

  -- t is begun, where N tells what may start after a word
  unfoldable pub begun : (ℕ → ℕ → Bool) → List Item → Item → Bool
  begun N ts t = eqb 1 t.done && (is_rule g t.rule && (N t.start (left g t.rule) && spanned ts (symbol g t.rule 0) t.start t.end))

  -- t is u advanced
  unfoldable pub advanced : List Item → Item → Item → Bool
  advanced ts t u = eqb u.rule t.rule && (eqb (suc u.done) t.done && (eqb u.start t.start && (ltb u.done (size g t.rule) && spanned ts (symbol g t.rule u.done) u.end t.end)))

  -- t follows in one step
  unfoldable pub follows : (ℕ → ℕ → Bool) → List Item → Item → Bool
  follows N ts t = begun N ts t || any (advanced ts t) ts

  module _ (ts : List Item) (held : AllByRecursion (HeldItem g ws) ts) where
    ended_spans : (X j k : ℕ) (u : Item) → HeldItem g ws u → ended X j k u ≡ true → Spans g ws X j k
    unfolding ended
    ended_spans X j k u h e =
        let p = and_parts (eqb (left g u.rule) X) _ e in
        let q = and_parts (eqb u.done (size g u.rule)) _ p.1 in
        let r = and_parts (eqb u.start j) (eqb u.end k) q.1 in
        let h1 = subst (λ x. Held g ws u.rule x u.start u.end) (eqb-true _ _ q.0) h in
        let h2 = subst (λ x. Held g ws u.rule (size g u.rule) x u.end) (eqb-true _ _ r.0) h1 in
        let h3 = subst (λ x. Held g ws u.rule (size g u.rule) j x) (eqb-true _ _ r.1) h2 in
        subst (λ x. Spans g ws x j k) (eqb-true _ _ p.0) (finished u.rule j k h3)

    word_spans : (X j k : ℕ) → (is_key g X && (eqb k (suc j) && get_or ws j blank X)) ≡ true → Spans g ws X j k
    word_spans X j k e =
        let p = and_parts (is_key g X) _ e in
        let q = and_parts (eqb k (suc j)) (get_or ws j blank X) p.1 in
        subst (λ x. Spans g ws X j x) (sym (eqb-true k (suc j) q.0)) (word X j (key_test g X p.0) (T_from_true _ q.1))

    pub spanned_spans : (X j k : ℕ) → spanned ts X j k ≡ true → Spans g ws X j k
    unfolding spanned
    spanned_spans X j k e = ⊎_elim
        (word_spans X j k)
        (λ h. let m = any_member (ended X j k) ts h in ended_spans X j k m.the (all_among (HeldItem g ws) ts m.the held m.among) m.has)
        (or_cases (is_key g X && (eqb k (suc j) && get_or ws j blank X)) (any (ended X j k) ts) e)

    wanting_wanted : (k Y : ℕ) (u : Item) → HeldItem g ws u → wanting k Y u ≡ true → Wanted g ws k Y
    unfolding wanting
    wanting_wanted k Y u h e =
        let p = and_parts (eqb u.end k) _ e in
        let q = and_parts (ltb u.done (size g u.rule)) _ p.1 in
        let h1 = subst (λ x. Held g ws u.rule u.done u.start x) (eqb-true _ _ p.0) h in
        next u.rule u.done u.start k Y h1 (ltb-true _ _ q.0) (corners_sound g (symbol g u.rule u.done) Y q.1)

    first_wanted : (k Y : ℕ) → (eqb k 0 && has Y (corners g g.start)) ≡ true → Wanted g ws k Y
    first_wanted k Y e =
        let p = and_parts (eqb k 0) _ e in
        subst (λ x. Wanted g ws x Y) (sym (eqb-true k 0 p.0)) (first Y (corners_sound g g.start Y p.1))

    pub wants_wanted : (k Y : ℕ) → wants ts k Y ≡ true → Wanted g ws k Y
    unfolding wants
    wants_wanted k Y e = ⊎_elim
        (first_wanted k Y)
        (λ h. let m = any_member (wanting k Y) ts h in wanting_wanted k Y m.the (all_among (HeldItem g ws) ts m.the held m.among) m.has)
        (or_cases (eqb k 0 && has Y (corners g g.start)) (any (wanting k Y) ts) e)

    begun_held : (t : Item) → begun (wants ts) ts t ≡ true → HeldItem g ws t
    unfolding begun
    begun_held t e =
        let p = and_parts (eqb 1 t.done) _ e in
        let q = and_parts (is_rule g t.rule) _ p.1 in
        let r = and_parts (wants ts t.start (left g t.rule)) _ q.1 in
        subst (λ x. Held g ws t.rule x t.start t.end) (eqb-true _ _ p.0)
        (begin t.rule t.start t.end (rule_test g t.rule q.0) (wants_wanted t.start (left g t.rule) r.0) (spanned_spans (symbol g t.rule 0) t.start t.end r.1))

    advanced_held : (t u : Item) → HeldItem g ws u → advanced ts t u ≡ true → HeldItem g ws t
    unfolding advanced
    advanced_held t u h e =
        let p = and_parts (eqb u.rule t.rule) _ e in
        let q = and_parts (eqb (suc u.done) t.done) _ p.1 in
        let r = and_parts (eqb u.start t.start) _ q.1 in
        let s = and_parts (ltb u.done (size g t.rule)) _ r.1 in
        let h1 = subst (λ x. Held g ws x u.done u.start u.end) (eqb-true _ _ p.0) h in
        let h2 = subst (λ x. Held g ws t.rule u.done x u.end) (eqb-true _ _ r.0) h1 in
        subst (λ x. Held g ws t.rule x t.start t.end) (eqb-true _ _ q.0)
        (advance t.rule u.done t.start u.end t.end h2 (ltb-true _ _ s.0) (spanned_spans (symbol g t.rule u.done) u.end t.end s.1))

    -- what follows from held items is held
    pub follows_held : (t : Item) → follows (wants ts) ts t ≡ true → HeldItem g ws t
    unfolding follows
    follows_held t e = ⊎_elim
        (begun_held t)
        (λ h. let m = any_member (advanced ts t) ts h in advanced_held t m.the (all_among (HeldItem g ws) ts m.the held m.among) m.has)
        (or_cases (begun (wants ts) ts t) (any (advanced ts t) ts) e)

  -- each item of the list follows from those before it
  unfoldable pub derived : List Item → List Item → Bool
  derived seen [] = true
  derived seen (t ∷ ts) = follows (wants seen) seen t && derived (t ∷ seen) ts

  pub derived_held : (seen ts : List Item) → AllByRecursion (HeldItem g ws) seen → derived seen ts ≡ true → AllByRecursion (HeldItem g ws) ts
  unfolding derived
  derived_held seen [] a h = tt
  derived_held seen (t ∷ ts) a h =
      let p = and_parts (follows (wants seen) seen t) (derived (t ∷ seen) ts) h in
      let now = follows_held seen a t p.0 in
      (now, derived_held (t ∷ seen) ts (now, a) p.1)
