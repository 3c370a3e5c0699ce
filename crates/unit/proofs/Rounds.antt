-- Rounds one after another on one draft, and readings on another, by the book of a text.
use Rattle.std.proofs.Common.{◌≡◌, ℕ, ◌<◌, ◌≤◌, List, [], length, take, sym, ap, ◌∙◌, subst, ⊎_elim, arith}
use Rattle.std.proofs.lemmas.Bool.{cases_eq}
use Rattle.std.proofs.lemmas.List.{length-map, take-map}
use Rattle.language.specs.Book.{Grammar, Meaning}
use Rattle.language.specs.Words.{Word, only}
use Rattle.language.specs.Readings.{Programme}
use Rattle.language.specs.Order.{First}
use Rattle.rulebook.specs.declared.faults.Fault.{Fault}
use Rattle.soundbook.specs.Sounds.{sound_meaning}
use Rattle.soundbook.specs.declared.sounds.SoundBook.{SoundBook}
use Rattle.booktext.specs.Text.{text_meaning}
use Rattle.bookreport.specs.Findings.{Accepted}
use Rattle.draft.specs.Law.{SameChart, PressAccepts, PressRefuses, full, dark, crowded}
use Rattle.draft.specs.States.{DraftState, grammar, words}
use Rattle.reading.specs.Written.{moves_of}
use Rattle.unit.specs.declared.presses.PressAnswer.{PressAnswer}
use Rattle.unit.specs.declared.readings.ReadingSize.{ReadingSize}
use Rattle.unit.specs.Presses.{rules, first_words, AcceptsKeys, RefusesKey, HoldsAnswers}
use Rattle.unit.specs.Rounds.{RoundsSucceed, RoundsRefuse, press}
use Rattle.unit.specs.Readings.{ReadingsSucceed, ReadingsRefuse}
use Rattle.unit.specs.Steps.{IsEmptyDraft, IsPressOfAll, PressOfAllRefuses, RepeatSucceeds, HoldsLongest, HasNoProgramme, IsMoveCount}
use Rattle.unit.proofs.FirstKeys.{of_same, same_rules}

-- a press that is accepted is not refused
not_both : (g : Grammar) (n : ℕ) (ws : List Word) (w : Word) (f : Fault) → PressAccepts g n ws w → PressRefuses g n ws w f → ⊥
not_both g n ws w _ accepts (full many) = omega (arith, many, accepts.room)
not_both g n ws w _ accepts (dark few none) = none accepts.matches
not_both g n ws w _ accepts (crowded few match none) = none accepts.fits

-- so many rounds are made, and no word is held
pub record AfterRounds (d now : DraftState) (keys : List ℕ) (count : ℕ) (before after : List PressAnswer) : Type 0 where
  pub same : SameChart d now
  pub repeated : RepeatSucceeds d keys count before after
  pub words : words now ≡ []

module _ (d : DraftState) (keys : List ℕ) (before : List PressAnswer) (now : DraftState) (count : ℕ) (after : List PressAnswer) (done : AfterRounds d now keys count before after) where
  -- only in the first round may a key be refused
  pub rounds_refused : (then : List PressAnswer) (f : Fault) → PressOfAllRefuses now keys after then f → PressOfAllRefuses d keys before then f
  rounds_refused then f key =
      let fails : RefusesKey (grammar d) (length d.places) keys key.place f = of_same d now done.same (λ g n. RefusesKey g n keys key.place f) key.fails in
      ⊎_elim
      (λ none. record {
        place = key.place;
        fails = fails;
        answers = subst (λ xs. HoldsAnswers (grammar d) keys key.place xs then) (done.repeated.none none) (subst (λ g. HoldsAnswers g keys key.place after then) (same_rules d now done.same) key.answers);
      })
      (λ some. absurd (not_both _ _ _ _ f (done.repeated.accepted (omega (arith, some)) key.place fails.inside) fails.refused))
      (cases_eq count 0)

-- the draft is a new one of the book of a text
module _ (text : List ℕ) (b : SoundBook) (accepted : Accepted text) (means : sound_meaning b ≡ text_meaning text) (d : DraftState) (empty : IsEmptyDraft b d) where
  pub of_text : (P : Grammar → ℕ → Type 0) → P (grammar d) (length d.places) → P (rules text) 60000
  of_text P p =
      subst (λ g. P g 60000) (ap (λ (x : SoundBook). (sound_meaning x).grammar) empty.book ∙ ap (λ (m : Meaning). m.grammar) means)
      (subst (P (grammar d)) empty.places p)

  module _ (keys : List ℕ) (count : ℕ) (old new : List PressAnswer) where
    pub rounds_made : RepeatSucceeds d keys count old new → RoundsSucceed text keys count old new
    rounds_made r = record {
      accepted = accepted;
      presses = λ l. of_text (λ g n. AcceptsKeys g n keys (length keys)) (r.accepted l);
      answers = λ l. of_text (λ g n. HoldsAnswers g keys (length keys) old new) (r.answers l);
      none = r.none;
    }

    pub rounds_fail : (f : Fault) → 1 ≤ count → PressOfAllRefuses d keys old new f → RoundsRefuse text keys count old new f
    rounds_fail f some key = press accepted some key.place (of_text (λ g n. RefusesKey g n keys key.place f) key.fails) (of_text (λ g n. HoldsAnswers g keys key.place old new) key.answers)

  -- all keys are pressed, and words are rubbed out again
  module _ (keys : List ℕ) (before after : List PressAnswer) where
    pub readings_press : (f : Fault) → PressOfAllRefuses d keys before after f → ReadingsRefuse text keys f
    readings_press f key = ReadingsRefuse.press f accepted key.place (of_text (λ g n. RefusesKey g n keys key.place f) key.fails)

    module _ (mid : DraftState) (pressed : IsPressOfAll d mid keys before after) where
      all_accepted : AcceptsKeys (rules text) 60000 keys (length keys)
      all_accepted = of_text (λ g n. AcceptsKeys g n keys (length keys)) pressed.accepted

      of_mid : (P : Grammar → Type 0) → P (grammar mid) → P (rules text)
      of_mid P p = of_text (λ g n. P g) (subst P (same_rules d mid pressed.same) p)

      held_many : length (words mid) ≡ length keys
      held_many = ap length pressed.words ∙ length-map keys only

      first_held : (n : ℕ) → take n (words mid) ≡ first_words n keys
      first_held n = ap (take n) pressed.words ∙ take-map only n keys

      pub readings_none : (f : Fault) → HasNoProgramme mid f → ReadingsRefuse text keys f
      readings_none f none =
          subst (ReadingsRefuse text keys) (sym none.fault)
          (ReadingsRefuse.none accepted all_accepted
          (of_mid (λ g. (m : ℕ) → m ≤ length keys → Programme g (first_words m keys) → ⊥)
          (λ m few p. none.none m (omega (arith, few, held_many)) (subst (Programme (grammar mid)) (sym (first_held m)) p))))

      module _ (end : DraftState) (longest : HoldsLongest mid end) (n : ℕ) (many : n ≡ length (words end)) where
        words_held : words end ≡ first_words n keys
        words_held = longest.held.prefix ∙ (ap (λ k. take k (words mid)) (sym many) ∙ first_held n)

        pub readings_made : (count moves : ℕ) (old : ReadingSize) → IsMoveCount end count old.moves moves → ReadingsSucceed text keys count old (record { words = n; moves = moves })
        readings_made count moves old counted = record {
          accepted = accepted;
          presses = all_accepted;
          words = record {
            few = omega (arith, many, longest.held.few, held_many);
            programme = of_mid (λ g. Programme g (first_words n keys)) (subst (Programme (grammar mid)) words_held longest.programme);
            longest = of_mid (λ g. (m : ℕ) → n < m → m ≤ length keys → Programme g (first_words m keys) → ⊥)
                (λ m low high p. longest.held.longest m (omega (arith, low, many)) (omega (arith, high, held_many)) (subst (Programme (grammar mid)) (sym (first_held m)) p));
          };
          moves = λ some.
              of_mid (λ g. (t : First g g.start (first_words n keys)) × (moves ≡ length (moves_of t)))
              (subst (λ g. (t : First g g.start (first_words n keys)) × (moves ≡ length (moves_of t))) (same_rules mid end longest.held.same)
              (subst (λ ws. (t : First (grammar end) (grammar end).start ws) × (moves ≡ length (moves_of t))) words_held (counted.some some)));
          none = counted.none;
        }
