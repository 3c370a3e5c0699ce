-- What is seen of a draft, told by its chart.
use Rattle.std.specs.Prelude.{nat_le}
use Rattle.std.proofs.Common.{◌≡◌, ℕ, ◌-◌, ◌<◌, ◌≤◌, ◌&&◌, IsTrue, ◌↔◌, eqb, min, List, [], ◌∷◌, ◌++◌, map, length, get_or, take, drop, replicate, refl, sym, ap, ◌∙◌, subst, ⊎_elim, le_refl, arith, append_assoc, length-append}
use Rattle.std.proofs.lemmas.List.{length-map, length-take-le, length-replicate, get_or-take, get_or_append_left, take-take, take-append-le}
use Rattle.std.proofs.lemmas.Bool.{cases_eq, cases_lt, and_from, and_parts, cond-true, cond-false, eqb-true, eq-eqb, ne_eqb, le-leb, leb-true}
use Rattle.std.proofs.lemmas.Slice.{drop-append-drop}
use Rattle.language.specs.Book.{Meaning, size}
use Rattle.language.specs.Sound.{Sound}
use Rattle.language.specs.Words.{Word}
use Rattle.language.specs.Readings.{Item, item, Programme}
use Rattle.language.specs.Chart.{Wanted, Held, HeldItem, Whole}
use Rattle.language.specs.Columns.{Among}
use Rattle.language.specs.Drafts.{Items, Lit}
use Rattle.language.proofs.Chart.Theorem.{chart_theorem}
use Rattle.language.proofs.Known.{sound_known}
use Rattle.language.proofs.Members.{all_among, among_get}
use Rattle.rulebook.specs.Sets.{has, key_number}
use Rattle.rulebook.specs.declared.sets.SymbolSet.{SymbolSet}
use Rattle.soundbook.specs.Sounds.{sound_meaning}
use Rattle.soundbook.proofs.Plain.{plain}
use Rattle.soundbook.specs.declared.sounds.SoundBook.{SoundBook}
use Rattle.chart.specs.Items.{blank_told}
use Rattle.chart.specs.States.{State as Inner, WordRecord, record_at, grammar as rules_of, expected, words as held_words, in_use as standing, place as standing_at, blanked, opened, Stands, before}
use Rattle.draft.specs.States.{grammar, words, place, in_use}
use Rattle.draft.specs.Law.{MayFollow, ItemsOver, IsLawful, IsNew, SameChart}
use Rattle.draft.specs.Views.{lit_of, spans_all, state_of}
use Rattle.draft.proofs.Listed.{passed_are, passed_all, passed_apart, any_among, among_any}
use Rattle.draft.proofs.Symbols.{wanted_key}

-- the book of a draft is sound, since only the check makes one
pub sound_of : (i : Inner) → Sound (sound_meaning i.book)
sound_of i = sound_known (sound_meaning i.book) i.book.sound

-- the words that are seen are those held
words_twice : (rs : List WordRecord) → map (λ (s : SymbolSet). has s) (map (λ (r : WordRecord). r.keys) rs) ≡ map (λ (r : WordRecord). has r.keys) rs
words_twice [] = refl
words_twice (r ∷ rs) = ap (λ ws. has r.keys ∷ ws) (words_twice rs)

pub words_seen : (i : Inner) → words (state_of i) ≡ held_words i
words_seen i = words_twice (take i.held i.records)

-- the items of the schema over the words are those that readings use
pub items_over : (m : Meaning) → Sound m → (ws : List Word) (ts : List Item) → Items m.grammar ws ts → ItemsOver m.grammar ws ts
items_over m sound ws ts all = record {
  exact = λ t. (
    λ a. ((chart_theorem m sound ws).items t.rule t.done t.start t.end).0 (all_among (HeldItem m.grammar ws) ts t all.held a),
    λ u. all.all t.rule t.done t.start t.end (((chart_theorem m sound ws).items t.rule t.done t.start t.end).1 u),
  );
  apart = all.apart;
}

module _ (i : Inner) (stands : Stands i) where
  pub places_long : length (state_of i).places ≡ i.budget
  places_long = length-take-le i.budget i.places (omega (arith, stands.budget))

  pub place_seen : (q : ℕ) → q < i.budget → place (state_of i) q ≡ standing_at i q
  place_seen q l = get_or-take i.budget i.places q blank_told l

  pub in_use_seen : in_use (state_of i) ≡ standing i
  in_use_seen = take-take i.used i.budget i.places stands.fits

  -- as many words are held as are counted
  held_long : length (held_words i) ≡ i.held
  held_long = length-map (take i.held i.records) (λ (r : WordRecord). has r.keys) ∙ length-take-le i.held i.records (omega (arith, stands.few, stands.many))

  pub words_long : length (words (state_of i)) ≡ i.held
  words_long = ap length (words_seen i) ∙ held_long

  -- what may start after the last of them
  expected_is : (Y : ℕ) → IsTrue (has (expected i) Y) ↔ Wanted (rules_of i) (held_words i) i.held Y
  expected_is Y = ⊎_elim
      (λ none.
      subst (λ (s : SymbolSet). IsTrue (has s Y) ↔ Wanted (rules_of i) (held_words i) i.held Y) (sym (cond-true (eqb i.held 0) i.first (record_at i i.held).wanted (eq-eqb i.held 0 none)))
      (subst (λ k. IsTrue (has i.first Y) ↔ Wanted (rules_of i) (held_words i) k Y) (sym none) (stands.first Y)))
      (λ some.
      subst (λ (s : SymbolSet). IsTrue (has s Y) ↔ Wanted (rules_of i) (held_words i) i.held Y) (sym (cond-false (eqb i.held 0) i.first (record_at i i.held).wanted (ne_eqb i.held 0 some)))
      ((stands.records i.held (omega (arith, some)) (le_refl i.held)).wanted Y))
      (cases_eq i.held 0)

  -- the symbols of the lit keys are those that may start there, from 33 on
  lit_test : (c : ℕ) → IsTrue (has (expected i) c && key_number c) ↔ Lit (rules_of i) (held_words i) c
  lit_test c = (lights, shines)
    where
      lights : IsTrue (has (expected i) c && key_number c) → Lit (rules_of i) (held_words i) c
      lights h =
          let parts = and_parts (has (expected i) c) (key_number c) h in
          let wanted = (expected_is c).0 parts.0 in
          record {
            key = wanted_key (rules_of i) (plain (sound_meaning i.book) i.book.sound) (held_words i) i.held c wanted (leb-true 33 c (and_parts _ _ parts.1).0);
            wanted = subst (λ k. Wanted (rules_of i) (held_words i) k c) (sym held_long) wanted;
          }

      shines : Lit (rules_of i) (held_words i) c → IsTrue (has (expected i) c && key_number c)
      shines l = and_from _ _ ((expected_is c).1 (subst (λ k. Wanted (rules_of i) (held_words i) k c) held_long l.wanted))
          (and_from _ _ (le-leb 33 c l.key.low) (le-leb c 64 (omega (arith, l.key.high, (plain (sound_meaning i.book) i.book.sound).few_keys))))

  pub test_follows : (c : ℕ) → IsTrue (has (expected i) c && key_number c) ↔ MayFollow (grammar (state_of i)) (words (state_of i)) c
  test_follows c =
      subst (λ ws. IsTrue (has (expected i) c && key_number c) ↔ MayFollow (rules_of i) ws c) (sym (words_seen i))
      (let lights = (chart_theorem (sound_meaning i.book) (sound_of i) (held_words i)).lit c in
      (λ h. lights.0 ((lit_test c).0 h), λ h. (lit_test c).1 (lights.1 h)))

  lit_shown : (c : ℕ) → Among c (lit_of i) ↔ MayFollow (grammar (state_of i)) (words (state_of i)) c
  lit_shown c = (
    λ m. (test_follows c).0 (passed_are (λ n. has (expected i) n && key_number n) 1 64 c m).2,
    λ follows.
        let yes = (test_follows c).1 follows in
        let numbers = and_parts (nat_le 33 c) (nat_le c 64) (and_parts (has (expected i) c) (key_number c) yes).1 in
        passed_all (λ n. has (expected i) n && key_number n) 1 64 c (omega (arith, leb-true 33 c numbers.0)) (omega (arith, leb-true c 64 numbers.1)) yes,
  )

  -- an item spans all words exactly where they are a programme
  whole_shown : IsTrue (state_of i).whole ↔ Programme (grammar (state_of i)) (words (state_of i))
  whole_shown =
      subst (λ ws. IsTrue (state_of i).whole ↔ Programme (grammar (state_of i)) ws) (sym (words_seen i))
      (let all = (chart_theorem (sound_meaning i.book) (sound_of i) (held_words i)).whole in
      (λ h. all.0 (found h), λ h. finds (all.1 h)))
    where
      found : IsTrue (state_of i).whole → Whole (rules_of i) (held_words i)
      found h =
          let x = any_among (spans_all i) (standing i) h in
          let t = x.0 in
          let parts = and_parts _ _ x.2 in
          let finished = and_parts _ _ parts.1 in
          let ends = and_parts _ _ finished.1 in
          let held : HeldItem (rules_of i) (held_words i) t = all_among (HeldItem (rules_of i) (held_words i)) (standing i) t stands.items.held x.1 in
          record {
            by = t.rule;
            heads = eqb-true _ _ parts.0;
            held = subst (λ k. Held (rules_of i) (held_words i) t.rule (size (rules_of i) t.rule) 0 k) (eqb-true _ _ ends.1 ∙ sym held_long)
                (subst (λ j. Held (rules_of i) (held_words i) t.rule (size (rules_of i) t.rule) j t.end) (eqb-true _ _ ends.0)
                (subst (λ d. Held (rules_of i) (held_words i) t.rule d t.start t.end) (eqb-true _ _ finished.0) held));
          }

      finds : Whole (rules_of i) (held_words i) → IsTrue (state_of i).whole
      finds w = among_any (spans_all i) (standing i) (item w.by (size (rules_of i) w.by) 0 (length (held_words i))) (stands.items.all w.by (size (rules_of i) w.by) 0 (length (held_words i)) w.held)
          (and_from _ _ (eq-eqb _ _ w.heads) (and_from _ _ (eq-eqb (size (rules_of i) w.by) (size (rules_of i) w.by) refl) (eq-eqb (length (held_words i)) i.held held_long)))

  pub shows : IsLawful (state_of i)
  shows = record {
    few = omega (arith, words_long, stands.few);
    few_places = omega (arith, places_long, stands.budget);
    fits = omega (arith, places_long, stands.fits);
    items =
        subst (λ ws. ItemsOver (grammar (state_of i)) ws (in_use (state_of i))) (sym (words_seen i))
        (subst (ItemsOver (grammar (state_of i)) (held_words i)) (sym in_use_seen) (items_over (sound_meaning i.book) (sound_of i) (held_words i) (standing i) stands.items));
    rising = λ p q l h.
        let past : q < i.budget = omega (arith, h, stands.fits) in
        omega (arith, ap (λ (t : Item). t.end) (place_seen p (omega (arith, l, past))), ap (λ (t : Item). t.end) (place_seen q past), stands.rising p q l h);
    blank = λ q l h. let inside : q < i.budget = omega (arith, h, places_long) in place_seen q inside ∙ stands.blank q l inside;
    lit = lit_shown;
    lit_apart = passed_apart (λ n. has (expected i) n && key_number n) 1 64;
    whole = whole_shown;
  }

  -- no place in use is blank
  not_blank : (q : ℕ) → q < i.used → standing_at i q ≡ blank_told → ⊥
  not_blank q l blank =
      let inside : q < length (standing i) = omega (arith, l, length-take-le i.used i.places (omega (arith, stands.fits, stands.budget))) in
      let held : HeldItem (sound_meaning i.book).grammar (held_words i) (get_or (standing i) q blank_told) = all_among (HeldItem (sound_meaning i.book).grammar (held_words i)) (standing i) _ stands.items.held (among_get (standing i) q blank_told inside) in
      let none : HeldItem (sound_meaning i.book).grammar (held_words i) blank_told = subst (HeldItem (sound_meaning i.book).grammar (held_words i)) (get_or-take i.used i.places q blank_told l ∙ blank) held in
      omega (arith, (((chart_theorem (sound_meaning i.book) (sound_of i) (held_words i)).spans 0 0 0 0).0 none).some)

-- places that are blanked leave all past them, and all before them
blanked_past : (ts : List Item) (from past n : ℕ) → from ≤ past → past ≤ length ts → past ≤ n → drop n (blanked ts from past) ≡ drop n ts
blanked_past ts from past n order inside l =
    ap (drop n) (sym (append_assoc (take from ts) (replicate (past - from) blank_told) (drop past ts)))
    ∙ drop-append-drop past ts (take from ts ++ replicate (past - from) blank_told) n l
    (length-append (take from ts) (replicate (past - from) blank_told) ∙ omega (arith, length-take-le from ts (omega arith), length-replicate (past - from) blank_told))

blanked_front : (ts : List Item) (from past : ℕ) → from ≤ past → past ≤ length ts → take from (blanked ts from past) ≡ take from ts
blanked_front ts from past order inside =
    take-append-le from (take from ts) (replicate (past - from) blank_told ++ drop past ts) (omega (arith, length-take-le from ts (omega arith)))
    ∙ take-take from from ts (omega arith)

-- a draft, and the same without its last word
module _ (e d : Inner) (now : Stands e) (then : Stands d) (is : before e ≡ d) where
  abbrev from : ℕ
  from = (record_at e e.held).from

  used_is : from ≡ d.used
  used_is = ap (λ (x : Inner). x.used) is

  budget_is : e.budget ≡ d.budget
  budget_is = ap (λ (x : Inner). x.budget) is

  order : from ≤ e.used
  order = ⊎_elim (λ l. absurd (fewer l)) (λ l. l) (cases_lt e.used from)
    where
      fewer : e.used < from → ⊥
      fewer l = not_blank d then e.used (omega (arith, l, used_is))
          (ap (λ (x : Inner). get_or x.places e.used blank_told) (sym is)
          ∙ (get_or_append_left (take from e.places) (replicate (e.used - from) blank_told ++ drop e.used e.places) blank_told e.used (omega (arith, l, used_is, length-take-le from e.places (omega (arith, used_is, then.fits, budget_is, now.budget))))
          ∙ (get_or-take from e.places e.used blank_told l
          ∙ now.blank e.used (omega arith) (omega (arith, l, used_is, then.fits, budget_is)))))

  inside : e.used ≤ length e.places
  inside = omega (arith, now.fits, now.budget)

  places_are : d.places ≡ blanked e.places from e.used
  places_are = ap (λ (x : Inner). x.places) (sym is)

  -- it is over the same book and chart
  pub same_chart : SameChart (state_of e) (state_of d)
  same_chart = record {
    book = ap (λ (x : Inner). x.book) (sym is);
    long = places_long d then ∙ (sym budget_is ∙ sym (places_long e now));
    beyond = ap (λ n. drop n d.places) (sym budget_is) ∙ (ap (drop e.budget) places_are ∙ blanked_past e.places from e.used e.budget order inside now.fits);
  }

  -- and its items are the first of the other's
  pub same_front : take d.used (state_of e).places ≡ in_use (state_of d)
  same_front =
      take-take d.used e.budget e.places (omega (arith, then.fits, budget_is))
      ∙ (ap (λ n. take n e.places) (sym used_is)
      ∙ (sym (blanked_front e.places from e.used order inside)
      ∙ (ap (take from) (sym places_are)
      ∙ (ap (λ n. take n d.places) used_is
      ∙ sym (in_use_seen d then)))))

-- a new draft
pub is_new : (book : SoundBook) (first : SymbolSet) (chart : List Item) → IsNew book chart (state_of (opened book first chart))
is_new book first chart =
    let n = min 60000 (length chart) in
    let blank_long : length (replicate (n - 0) blank_told) ≡ n = length-replicate (n - 0) blank_told ∙ omega arith in
    let long = length-append (replicate (n - 0) blank_told) (drop n chart) in
    record {
      book = refl;
      words = refl;
      places = length-take-le n (replicate (n - 0) blank_told ++ drop n chart) (omega (arith, long, blank_long));
      beyond = drop-append-drop n chart (replicate (n - 0) blank_told) n (omega arith) blank_long;
      used = refl;
    }
