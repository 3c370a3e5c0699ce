-- What the law says of a sound book: a lit key is never dark, there is a programme, and presses of its keys are taken.
use Rattle.std.proofs.Common.{◌≡◌, ℕ, zero, suc, ◌+◌, ◌<◌, ◌≤◌, min, map, List, [], ◌∷◌, ◌++◌, length, get_or, take, refl, sym, ap, ◌∙◌, subst, ⊎_elim, arith}
use Rattle.std.proofs.Math.Dec.{eqb_refl}
use Rattle.std.proofs.Math.Seq.{take-length}
use Rattle.std.proofs.lemmas.List.{length-map, length-take-le, map_more, take-map}
use Rattle.language.specs.Book.{Grammar}
use Rattle.language.specs.Sound.{Sound}
use Rattle.language.specs.Words.{Word, only, Begins}
use Rattle.language.specs.Readings.{Item, Reading, yield, Programme}
use Rattle.language.proofs.Chart.Turned.{turned_theorem}
use Rattle.language.proofs.Known.{sound_known}
use Rattle.language.proofs.Words.{begins_take}
use Rattle.rulebook.specs.Sets.{has}
use Rattle.rulebook.specs.declared.faults.Fault.{Fault}
use Rattle.rulebook.specs.declared.sets.SymbolSet.{SymbolSet}
use Rattle.rulebook.specs.declared.faults.Fault.TheVariants.{DarkWord}
use Rattle.dialogue.specs.declared.calls.Call.{Call}
use Rattle.dialogue.specs.declared.calls.Call.TheVariants.{Press}
use Rattle.dialogue.specs.declared.calls.Answer.{Answer}
use Rattle.dialogue.specs.declared.calls.Answer.TheVariants.{Items, Refused}
use Rattle.soundbook.specs.Sounds.{sound_meaning}
use Rattle.soundbook.specs.declared.sounds.SoundBook.{SoundBook}
use Rattle.draft.specs.Law.{MayFollow, MatchesLit, ItemsFit, PressAccepts, PressRefuses, full, dark, crowded}
use Rattle.draft.specs.States.{grammar, words}
use Rattle.dialogue.specs.Runs.{RunState, CallLaw, RunLaw, call_at, answer_at}
use Rattle.dialogue.specs.Theorem.{presses, just, rules, KeyedWhole, LawShows, LawTheorem}
use Rattle.dialogue.proofs.Running.{items_taken}

-- a word that matches a key that may follow is not refused as dark
reason_lit : (g : Grammar) (n : ℕ) (ws : List Word) (w : Word) (f : Fault) (held : ℕ) → PressRefuses g n ws w f → MatchesLit g ws w → Refused f ≡ Refused (DarkWord held) → ⊥
reason_lit g n ws w _ held (full l) lit is = cc
reason_lit g n ws w _ held (dark l none) lit is = none lit
reason_lit g n ws w _ held (crowded l m none) lit is = cc

press_lit : (old new : RunState) (w : Word) (a : Answer) (held : ℕ) → CallLaw old (Press w) a new → MatchesLit (grammar old.draft) (words old.draft) w → a ≡ Refused (DarkWord held) → ⊥
press_lit old new w a held law lit is = ⊎_elim
    (λ x. items_taken x.0 (DarkWord held) a x.2 is)
    (λ x. reason_lit (grammar old.draft) (length old.draft.places) (words old.draft) w x.0 held x.1.refused lit (sym x.2 ∙ is))
    law.0

-- a word for which there is room, that matches and fits, is taken, since none of the reasons holds
reason_room : (g : Grammar) (n : ℕ) (ws : List Word) (w : Word) (f : Fault) → PressRefuses g n ws w f → PressAccepts g n ws w → ⊥
reason_room g n ws w _ (full l) t = omega (arith, l, t.room)
reason_room g n ws w _ (dark l none) t = none t.matches
reason_room g n ws w _ (crowded l m none) t = none t.fits

press_taken : (old new : RunState) (w : Word) (a : Answer) → CallLaw old (Press w) a new → PressAccepts (grammar old.draft) (length old.draft.places) (words old.draft) w → (a ≡ Items new.draft.used) × (words new.draft ≡ words old.draft ++ (w ∷ []))
press_taken old new w a law t = ⊎_elim
    (λ x. (x.2 ∙ ap Items x.1.answer, x.1.words))
    (λ x. absurd (reason_room (grammar old.draft) (length old.draft.places) (words old.draft) w x.0 x.1.refused t))
    law.0

-- the call of a number, where it is known which
call_is : (old new : RunState) (c d : Call Word) (a : Answer) → CallLaw old c a new → c ≡ d → CallLaw old d a new
call_is old new c d a law is = subst (λ c. CallLaw old c a new) is law

pressed_at : (keys : List ℕ) (k : ℕ) → k < length keys → call_at (presses keys) k ≡ Press (only (get_or keys k 0))
pressed_at [] k l = absurd (omega arith)
pressed_at (c ∷ keys) zero l = refl
pressed_at (c ∷ keys) (suc k) l = pressed_at keys k (omega (arith, l))

-- keys begin with the words that match just their first keys
begins_just : (keys : List ℕ) → Begins keys (just keys)
begins_just [] = tt
begins_just (c ∷ keys) = (eqb_refl c, begins_just keys)

begins_first : (keys : List ℕ) (n : ℕ) → Begins keys (just (take n keys))
begins_first keys n = subst (Begins keys) (take-map only n keys) (begins_take keys (just keys) n (begins_just keys))

module _ (b : SoundBook) where
  abbrev g : Grammar
  g = rules b

  sound : Sound (sound_meaning b)
  sound = sound_known (sound_meaning b) b.sound

  some_programme : Reading g g.start
  some_programme = ⊎_elim
      (λ key. absurd (omega (arith, key.low, sound.formed.counts.start_part.high, sound.formed.counts.few_parts)))
      (λ t. t)
      ((turned_theorem g g.start).0 (sound.productive g.start sound.formed.counts.start_part))

  -- each state of a run is one of this book, with as many places
  module _ (lent : List Item) (strip : List ℕ) (calls : List (Call Word)) (answers : List Answer) (end : List Item) (left : List ℕ) (law : RunLaw b lent strip calls answers end left) (k : ℕ) (l : k ≤ length calls) where
    book_at : (law.state k).draft.book ≡ b
    book_at = (law.same k l).book ∙ law.first.book

    places_at : length (law.state k).draft.places ≡ min 60000 (length lent)
    places_at = (law.same k l).long ∙ law.first.places

    of_book : (P : Grammar → ℕ → Type 0) → P (rules b) (min 60000 (length lent)) → P (grammar (law.state k).draft) (length (law.state k).draft.places)
    of_book P p = subst (λ n. P (grammar (law.state k).draft) n) (sym places_at) (subst (λ x. P (rules x) (min 60000 (length lent))) (sym book_at) p)

  -- the presses of a programme's keys
  module _ (lent : List Item) (strip : List ℕ) (answers : List Answer) (end : List Item) (left : List ℕ) (t : Reading g g.start) (few : length (yield t.children) ≤ 100)
      (room : (k : ℕ) → k ≤ length (yield t.children) → ItemsFit g (min 60000 (length lent)) (just (take k (yield t.children))))
      (law : RunLaw b lent strip (presses (yield t.children)) answers end left) where
    abbrev keys : List ℕ
    keys = yield t.children

    abbrev at_key : ℕ → ℕ
    at_key k = get_or keys k 0

    further : (k : ℕ) → k < length keys → just (take (k + 1) keys) ≡ just (take k keys) ++ (only (at_key k) ∷ [])
    further k l = map_more only keys k 0 l

    -- with its first keys pressed, the next is lit, and it is taken
    module _ (k : ℕ) (l : k < length keys) (held : words (law.state k).draft ≡ just (take k keys)) where
      behind : just (take (k + 1) keys) ≡ words (law.state k).draft ++ (only (at_key k) ∷ [])
      behind = further k l ∙ ap (λ ws. ws ++ (only (at_key k) ∷ [])) (sym held)

      lit_next : MayFollow g (words (law.state k).draft) (at_key k)
      lit_next = record { reading = t; begins = subst (Begins keys) behind (begins_first keys (k + 1)) }

      inside : k < length (presses keys)
      inside = omega (arith, l, length-map keys (λ c. Press (only c)))

      pressed_next : CallLaw (law.state k) (Press (only (at_key k))) (answer_at answers k) (law.state (suc k))
      pressed_next = call_is (law.state k) (law.state (suc k)) (call_at (presses keys) k) (Press (only (at_key k))) (answer_at answers k) (law.call k inside) (pressed_at keys k l)

      taken_next : (answer_at answers k ≡ Items (law.state (suc k)).draft.used) × (words (law.state (suc k)).draft ≡ words (law.state k).draft ++ (only (at_key k) ∷ []))
      taken_next = press_taken (law.state k) (law.state (suc k)) (only (at_key k)) (answer_at answers k) pressed_next
          (of_book lent strip (presses keys) answers end left law k (omega (arith, inside)) (λ h n. PressAccepts h n (words (law.state k).draft) (only (at_key k)))
          (record {
            room = omega (arith, l, few, ap length held, length-map (take k keys) only, length-take-le k keys (omega (arith, l)));
            matches = record { key = at_key k; follows = lit_next; matches = eqb_refl (at_key k) };
            fits = subst (ItemsFit g (min 60000 (length lent))) behind (room (k + 1) (omega (arith, l)));
          }))

    held_after : (k : ℕ) → k ≤ length keys → words (law.state k).draft ≡ just (take k keys)
    held_after zero l = ap (λ (ss : List SymbolSet). map (λ (s : SymbolSet). has s) ss) law.first.words
    held_after (suc k) l =
        let h : k < length keys = omega (arith, l) in
        let before = held_after k (omega (arith, l)) in
        let next : k + 1 ≡ suc k = omega arith in
        (taken_next k h before).1 ∙ (sym (behind k h before) ∙ ap (λ n. just (take n keys)) next)

    pub keyed_whole : KeyedWhole g keys answers law.state
    keyed_whole = record {
      lit = λ k l. lit_next k l (held_after k (omega (arith, l)));
      taken = λ k l. (taken_next k l (held_after k (omega (arith, l)))).0;
      whole = subst (Programme g) (sym (held_after (length keys) (omega arith) ∙ ap just (take-length keys))) (record { reading = t; is = record { begins = begins_just keys; long = sym (length-map keys only) } });
    }

  law_shows : LawShows b
  law_shows = record {
    never_dark = λ lent strip calls answers places left law k w c held l is follows matches dark.
        press_lit (law.state k) (law.state (suc k)) w (answer_at answers k) held
        (call_is (law.state k) (law.state (suc k)) (call_at calls k) (Press w) (answer_at answers k) (law.call k l) is)
        (of_book lent strip calls answers places left law k (omega (arith, l)) (λ h n. MatchesLit h (words (law.state k).draft) w) (record { key = c; follows = follows; matches = matches })) dark;
    some = some_programme;
    whole = λ lent strip answers places left t few room law. keyed_whole lent strip answers places left t few room law;
  }

pub law_theorem : LawTheorem
law_theorem b = law_shows b
