-- What the chart answers, said of programmes and their readings.
use Rattle.std.proofs.Common.{◌≡◌, ℕ, ◌-◌, ◌<◌, ◌≤◌, ◌↔◌, ◌&&◌, Bool, true, false, IsTrue, List, [], ◌∷◌, ◌++◌, map, length, get_or, take, refl, sym, ap, ◌∙◌, subst, arith}
use Rattle.std.specs.Prelude.{Result, Ok, Err, MatchResult, count_by, nat_le}
use mathlib.Core.Path.{fun_ext}
use Rattle.std.specs.List.{range_with_len}
use Rattle.std.proofs.lemmas.List.Sums.{length-filter}
use Rattle.std.proofs.lemmas.List.{length-take-le, take-set, map_more}
use Rattle.std.proofs.lemmas.Bool.{both_ways, and_from, and_parts, leb-true}
use Rattle.std.proofs.lemmas.Float.{T_from_true}
use Rattle.language.specs.Book.{Meaning}
use Rattle.language.specs.Sound.{Sound}
use Rattle.language.specs.Words.{Word}
use Rattle.language.specs.Readings.{Item, Programme}
use Rattle.language.specs.Chart.{HeldItem, Whole}
use Rattle.language.specs.Columns.{Among}
use Rattle.language.specs.Drafts.{Items}
use Rattle.language.proofs.Chart.Theorem.{chart_theorem}
use Rattle.language.proofs.Members.{all_among}
use Rattle.language.proofs.Pigeonhole.{no_more}
use Rattle.rulebook.specs.Sets.{has, key_number, many}
use Rattle.rulebook.specs.declared.faults.Fault.{Fault}
use Rattle.rulebook.specs.declared.faults.Fault.TheVariants.{DarkWord, ChartFull}
use Rattle.rulebook.specs.declared.sets.SymbolSet.{SymbolSet}
use Rattle.soundbook.specs.Sounds.{sound_meaning}
use Rattle.wording.specs.declared.pressed.Matched.{Matched}
use Rattle.chart.specs.Overflow.{Outnumber}
use Rattle.chart.specs.Takings.{Taken, TakeRefuses, NotTaken, full, crowded}
use Rattle.chart.specs.Calls.{RubbedOut as InnerRubbedOut, NotRubbedOut as InnerNotRubbedOut, ColumnIs as InnerColumnIs}
use Rattle.chart.specs.States.{State as Inner, WordRecord, Stands, grammar as rules_of, expected, words as held_words, in_use as standing, no_word, before}
use Rattle.draft.specs.declared.lit_set.LitSet.{LitSet}
use Rattle.chart.proofs.Following.{passed_test}
use Rattle.draft.specs.States.{grammar, words}
use Rattle.draft.specs.Law.{MatchesLit, ItemsFit, PressRefuses, PressTaken, PressRefused, RubOutTaken, RubOutRefused, LitIs}
use Rattle.draft.specs.Questions.{WordsFull, IsLit, IsDark}
use Rattle.draft.specs.Schema.{ColumnIs}
use Rattle.draft.specs.Views.{state_of}
use Rattle.draft.proofs.Listed.{passed_are, passed_all}
use Rattle.draft.proofs.Showing.{sound_of, shows, words_seen, items_over, places_long, words_long, test_follows, same_chart, same_front}
use Rattle.draft.proofs.Symbols.{some_held}

-- items that fit do not outnumber the places
pub not_both : (m : Meaning) → Sound m → (places : ℕ) (ws : List Word) → ItemsFit m.grammar places ws → Outnumber m.grammar places ws → ⊥
not_both m sound places ws fit o =
    omega (arith, fit.few, o.more, no_more o.items fit.items o.apart (λ t a. (fit.over.exact t).1 (((chart_theorem m sound ws).items t.rule t.done t.start t.end).0 (all_among (HeldItem m.grammar ws) o.items t o.held a))))

-- two tests that say yes together are one
same_test : (a b : Bool) → (IsTrue a → IsTrue b) → (IsTrue b → IsTrue a) → a ≡ b
same_test true b there back = sym (there refl)
same_test false true there back = back refl
same_test false false there back = refl

-- of a draft, told by its chart
module _ (i : Inner) (stands : Stands i) where
  -- lit
  pub lit_seen : (l : LitSet) → ((c : ℕ) → has l.keys c ≡ (has (expected i) c && key_number c)) → l.count ≡ many l.keys → LitIs (state_of i) l
  lit_seen l keys count = record {
    keys = λ c. (
      λ h.
          let yes : IsTrue (has (expected i) c && key_number c) = sym (keys c) ∙ h in
          let numbers = and_parts (nat_le 33 c) (nat_le c 64) (and_parts (has (expected i) c) (key_number c) yes).1 in
          passed_all (λ n. has (expected i) n && key_number n) 1 64 c (omega (arith, leb-true 33 c numbers.0)) (omega (arith, leb-true c 64 numbers.1)) yes,
      λ m. keys c ∙ (passed_are (λ n. has (expected i) n && key_number n) 1 64 c m).2,
    );
    count = count ∙ (ap (λ p. count_by p (range_with_len 1 64)) (fun_ext keys) ∙ sym (length-filter (λ n. has (expected i) n && key_number n) (range_with_len 1 64)));
  }

  -- the keys that may follow, those of the word, and those of both
  module _ (w : Word) (lit : SymbolSet) (keys : (c : ℕ) → has lit c ≡ (has (expected i) c && key_number c)) (m : Matched) (tells : (c : ℕ) → has m.keys c ≡ w c) (word : SymbolSet) (of_word : word ≡ m.keys) (both : SymbolSet) (common : (c : ℕ) → has both c ≡ (has word c && has lit c)) where
    holds_word : (c : ℕ) → has word c ≡ w c
    holds_word c = ap (λ (s : SymbolSet). has s c) of_word ∙ tells c

    pub no_match : ((c : ℕ) → has both c ≡ false) → MatchesLit (grammar (state_of i)) (words (state_of i)) w → ⊥
    no_match none x = both_ways _ (none x.key) (common x.key ∙ and_from _ _ (holds_word x.key ∙ passed_test _ x.matches) (keys x.key ∙ (test_follows i stands x.key).1 x.follows))

    pub lit_word : (((c : ℕ) → has both c ≡ false) → ⊥) → IsLit (state_of i) w m
    lit_word some =
        let x = some_held both some in
        let parts = and_parts (has word x.0) (has lit x.0) (sym (common x.0) ∙ x.1) in
        record {
          matches = record { key = x.0; follows = (test_follows i stands x.0).0 (sym (keys x.0) ∙ parts.1); matches = T_from_true _ (sym (holds_word x.0) ∙ parts.0) };
          set = tells;
        }

    pub dark_seen : (h : ℕ) → h ≡ i.held → ((c : ℕ) → has both c ≡ false) → IsDark (state_of i) w (DarkWord h)
    dark_seen h e none = record { none = no_match none; fault = ap DarkWord (e ∙ sym (words_long i stands)) }

  -- a press that is refused before the chart is asked
  pub full_press : (w : Word) (f : Fault) → WordsFull (state_of i) f → PressRefused (state_of i) (state_of i) w f
  full_press w f q = record { refused = subst (PressRefuses (rules_of i) (length (state_of i).places) (words (state_of i)) w) (sym q.fault) (PressRefuses.full q.many); same = refl }

  pub dark_press : (w : Word) (f : Fault) → length (words (state_of i)) < 100 → IsDark (state_of i) w f → PressRefused (state_of i) (state_of i) w f
  dark_press w f few q = record { refused = subst (PressRefuses (rules_of i) (length (state_of i).places) (words (state_of i)) w) (sym q.fault) (PressRefuses.dark few q.none); same = refl }

  -- either way the chart stands
  pub stands_then : (j : Inner) (w : Word) (r : Result ℕ Fault) → MatchResult r (Taken i j w) (NotTaken i j w) → Stands j
  stands_then j w (Ok n) t = t.stands
  stands_then j w (Err f) t = subst Stands (sym t.same) t.stands

  -- it matches a lit key, and its items fit, or they do not
  module _ (j : Inner) (w : Word) (few : length (words (state_of i)) < 100) (match : MatchesLit (grammar (state_of i)) (words (state_of i)) w) where
    pub taken_seen : (n : ℕ) → Taken i j w n → PressTaken (state_of i) (state_of j) w n
    taken_seen n t =
        let same = same_chart j i t.stands stands t.before in
        record {
          taken = record {
            room = few;
            matches = match;
            fits = record {
              items = standing j;
              over =
                  items_over (sound_meaning i.book) (sound_of i) (words (state_of i) ++ (w ∷ [])) (standing j)
                  (subst (λ ws. Items (rules_of i) ws (standing j)) (t.words ∙ ap (λ ws. ws ++ (w ∷ [])) (sym (words_seen i)))
                  (subst (λ g. Items g (held_words j) (standing j)) (ap rules_of t.before) t.stands.items));
              few = omega (arith, length-take-le j.used j.places (omega (arith, t.stands.fits, t.stands.budget)), t.stands.fits, t.budget, places_long i stands);
            };
          };
          words = words_seen j ∙ (t.words ∙ ap (λ ws. ws ++ (w ∷ [])) (sym (words_seen i)));
          stay = same_front j i t.stands stands t.before;
          same = record { book = sym same.book; long = sym same.long; beyond = sym same.beyond };
          answer = t.answer;
        }

    pub crowded_seen : (f : Fault) → NotTaken i j w f → PressRefused (state_of i) (state_of j) w f
    crowded_seen f t = record { refused = refuses f t.refused; same = ap state_of t.same }
      where
        refuses : (f : Fault) → TakeRefuses i w f → PressRefuses (rules_of i) (length (state_of i).places) (words (state_of i)) w f
        refuses _ (full many) = absurd (omega (arith, few, words_long i stands, many))
        refuses _ (crowded low more) =
            subst (PressRefuses (rules_of i) (length (state_of i).places) (words (state_of i)) w) (ap ChartFull (words_long i stands))
            (PressRefuses.crowded few match (λ fit.
            not_both (sound_meaning i.book) (sound_of i) i.budget (held_words i ++ (w ∷ []))
            (subst (λ n. ItemsFit (rules_of i) n (held_words i ++ (w ∷ []))) (places_long i stands) (subst (λ ws. ItemsFit (rules_of i) (length (state_of i).places) (ws ++ (w ∷ []))) (words_seen i) fit)) more))

    pub press_seen : (r : Result ℕ Fault) → MatchResult r (Taken i j w) (NotTaken i j w) → MatchResult r (PressTaken (state_of i) (state_of j) w) (PressRefused (state_of i) (state_of j) w)
    press_seen (Ok n) t = taken_seen n t
    press_seen (Err f) t = crowded_seen f t

  -- rub out
  last : Word
  last = has (get_or i.records (i.held - 1) no_word).keys

  words_less : 1 ≤ i.held → held_words i ≡ held_words (before i) ++ (last ∷ [])
  unfolding last
  words_less one =
      ap (λ n. map (λ (r : WordRecord). has r.keys) (take n i.records)) (omega (arith, one))
      ∙ (map_more (λ (r : WordRecord). has r.keys) i.records (i.held - 1) no_word (omega (arith, one, stands.few, stands.many))
      ∙ ap (λ rs. map (λ (r : WordRecord). has r.keys) rs ++ (last ∷ [])) (sym (take-set i.records (i.held - 1) no_word)))

  none_held : {A : Type 0} (xs : List A) → length xs ≡ 0 → xs ≡ []
  none_held [] none = refl
  none_held (x ∷ xs) none = absurd (omega (arith, none))

  pub rubbed_seen : (j : Inner) → Stands j → (r : Result ℕ Fault) → MatchResult r (InnerRubbedOut i j) (InnerNotRubbedOut i j) → MatchResult r (RubOutTaken (state_of i) (state_of j)) (RubOutRefused (state_of i) (state_of j))
  rubbed_seen j now (Ok n) p = record {
    last = last;
    words = words_seen i ∙ (words_less p.some ∙ ap (λ ws. ws ++ (last ∷ [])) (ap held_words (sym p.before) ∙ sym (words_seen j)));
    stay = sym (same_front i j stands now (sym p.before));
    same = same_chart i j stands now (sym p.before);
    answer = p.answer;
  }
  rubbed_seen j now (Err f) p = record {
    none = none_held (words (state_of i)) (words_long i stands ∙ p.none);
    fault = p.fault;
    same = ap state_of p.same;
  }

  -- whole
  pub whole_seen : (b : Bool) → IsTrue b ↔ Whole (rules_of i) (held_words i) → b ≡ (state_of i).whole
  whole_seen b whole =
      let all = (chart_theorem (sound_meaning i.book) (sound_of i) (held_words i)).whole in
      let known = subst (λ ws. IsTrue (state_of i).whole ↔ Programme (grammar (state_of i)) ws) (words_seen i) (shows i stands).whole in
      same_test b (state_of i).whole (λ h. known.1 (all.0 (whole.0 h))) (λ h. whole.1 (all.1 (known.0 h)))

  -- the items that end at a word
  pub column_seen : (k : ℕ) (ts : List Item) → InnerColumnIs i k ts → ColumnIs (state_of i) k ts
  column_seen k ts c = record {
    items = λ t. subst (λ ws. Among t ts ↔ (HeldItem (rules_of i) ws t × (t.end ≡ k))) (sym (words_seen i)) (c.items t);
    apart = c.apart;
  }
