-- The words of a text, found one after another.
use Rattle.std.proofs.Common.{◌≡◌, ℕ, ◌-◌, ◌<◌, ◌≤◌, ◌⊎◌, Bool, true, false, not, List, [], ◌∷◌, ◌++◌, length, get_or, drop, sym, refl, ap, ◌∙◌, subst, inl, inr, ⊎_elim, arith, Bor, Option, Some, None, MatchOption}
use Rattle.std.specs.Option.{unwrap_or}
use Rattle.std.proofs.lemmas.List.{length-take, length-drop, length_push, get_or_append_left, get_or_push}
use Rattle.std.proofs.lemmas.Bool.{both_ways, cases_lt}
use Rattle.rulebook.specs.declared.faults.Fault.{Fault}
use Rattle.wording.specs.Pieces.{Shows, WordRefused}
use Rattle.wording.specs.Programmes.{WordAt, WordsBefore, nothing}
use Rattle.wording.specs.Runs.{separates, RunTo, Longest, NextWord, bytes_in}
use Rattle.wording.specs.declared.pieces.Piece.{Piece}
use Rattle.wording.specs.declared.pieces.Piece.TheVariants.{Name, Figure}
use Rattle.wording.specs.declared.pieces.Placed.{Placed}

-- a name or a figure shows some bytes
pub shown_some : (s : List ℕ) (p : Piece) → Shows s p → ((b : Bor (List ℕ)) × (p ≡ Name b)) ⊎ ((b : Bor (List ℕ)) × (v : ℕ) × (p ≡ Figure b v)) → 1 ≤ length s
shown_some s p h (inl (b, e)) = (subst (Shows s) e h).1.low
shown_some s p h (inr (b, v, e)) = (subst (Shows s) e h).1.some

-- up to the first byte of which a test says yes
pub run_found : {Says : ℕ → Bool → Type 0} (t : List ℕ) (from past : ℕ) (r : Option ℕ) → past ≡ unwrap_or r (length t) → from ≤ length t
    → MatchOption r ((k : ℕ) → from ≤ k → k < length t → Says (get_or t k 0) false) (λ i. (from ≤ i) × (i < length t) × Says (get_or t i 0) true × ((k : ℕ) → from ≤ k → k < i → Says (get_or t k 0) false)) → RunTo Says t from past
run_found {Says} t from past None e fits none = subst (RunTo Says t from) (sym e) (record { low = fits; high = omega arith; bytes = none; stops = λ h. absurd (omega arith) })
run_found {Says} t from past (Some i) e fits found = subst (RunTo Says t from) (sym e) (record { low = found.0; high = omega (arith, found.1); bytes = found.3; stops = λ h. found.2 })

-- the bytes up to the first that does not separate, then those up to the first that does
pub next_found : {P Q : ℕ → Bool → Type 0} (t : List ℕ) (at from past : ℕ) → (0 < at → at < length t → separates (get_or t at 0) ≡ true) → RunTo P t at from → RunTo Q t from past
    → ((b : ℕ) (r : Bool) → P b r → separates b ≡ not r) → ((b : ℕ) (r : Bool) → Q b r → separates b ≡ r) → NextWord t at from past
next_found t at from past edge gap word apart within = record { low = gap.low; gap = λ k l h. apart _ false (gap.bytes k l h); word = ⊎_elim (λ l. inl (longest l)) (λ l. inr (omega (arith, word.low, word.high), omega (arith, word.low, word.high))) (cases_lt from (length t)) }
  where
    begins : from < length t → separates (get_or t from 0) ≡ false
    begins l = apart _ true (gap.stops l)

    ends : past < length t → separates (get_or t past 0) ≡ true
    ends l = within _ true (word.stops l)

    longest : from < length t → Longest t from past
    longest l =
        record {
          some = ⊎_elim (λ h. h) (λ h. let same : past ≡ from = omega (arith, word.low) in absurd (both_ways (separates (get_or t from 0)) (begins l) (subst (λ p. separates (get_or t p 0) ≡ true) same (ends (omega arith))))) (cases_lt from past);
          within = word.high;
          bytes = λ k m h. within _ false (word.bytes k m h);
          before = λ h. ⊎_elim (λ k. apart _ false (gap.bytes (from - 1) (omega arith) (omega arith))) (λ k. let same : at ≡ from = omega (arith, gap.low) in absurd (both_ways (separates (get_or t from 0)) (begins l) (subst (λ p. separates (get_or t p 0) ≡ true) same (edge (omega arith) (omega arith))))) (cases_lt at from);
          after = ends;
        }

-- the next word, after those that begin before a place
module _ (t : List ℕ) (at from past : ℕ) (next : NextWord t at from past) where
  bytes_long : past ≤ length t → length (bytes_in t from past) ≡ past - from
  bytes_long h = omega (arith, length-take (past - from) (drop from t), length-drop from t)

  -- some bytes make a word, none the end
  pub some_word : 1 ≤ length (bytes_in t from past) → Longest t from past
  some_word h = ⊎_elim (λ l. l) (λ e. absurd (omega (arith, e.0, e.1, length-take (past - from) (drop from t), length-drop from t))) next.word

  pub no_word : length (bytes_in t from past) ≡ 0 → from ≡ length t
  no_word h = ⊎_elim (λ l. absurd (omega (arith, bytes_long l.within, l.some, l.within))) (λ e. e.0) next.word

  pub refused_some : {f : Fault} → WordRefused from (bytes_in t from past) f → 1 ≤ length (bytes_in t from past)
  refused_some (WordRefused.byte k m) = omega (arith, m.inside)
  refused_some (WordRefused.long fits long) = ⊎_elim (λ l. omega (arith, l.1)) (λ l. omega (arith, l.1)) long

  module _ (ws : List Placed) (was : WordsBefore t at ws) where
    -- no word begins between the place and the next word
    pub words_to : WordsBefore t from ws
    words_to =
        record {
          each = was.each;
          before = λ i h. omega (arith, was.before i h, next.low);
          rising = was.rising;
          all = λ q p l h. ⊎_elim
              (λ early. was.all q p l early)
              (λ late. absurd (both_ways (separates (get_or t q 0)) (l.bytes q (omega arith) l.some) (next.gap q late h)))
              (cases_lt q at);
        }

    module _ (word : Longest t from past) (w : Placed) (place : w.place ≡ from) (shows : Shows (bytes_in t from past) w.piece) where
      abbrev more : List Placed
      more = ws ++ (w ∷ [])

      old : (i : ℕ) → i < length ws → get_or more i nothing ≡ get_or ws i nothing
      old i h = get_or_append_left ws (w ∷ []) nothing i h

      new : (i : ℕ) → length ws ≡ i → get_or more i nothing ≡ w
      new i e = get_or_push ws w nothing i e

      -- what holds of the words before and of the new one
      each_more : (P : Placed → Type 0) → ((i : ℕ) → i < length ws → P (get_or ws i nothing)) → P w → (i : ℕ) → i < length more → P (get_or more i nothing)
      each_more P before here i h = ⊎_elim
          (λ l. subst P (sym (old i l)) (before i l))
          (λ l. subst P (sym (new i (omega (arith, length_push ws w)))) here)
          (cases_lt i (length ws))

      -- a word that begins inside the new one begins where that begins
      begun : (q p : ℕ) → Longest t q p → from ≤ q → q < past → q ≡ from
      begun q p l low high = ⊎_elim
          (λ late. absurd (both_ways (separates (get_or t (q - 1) 0)) (word.bytes (q - 1) (omega arith) (omega arith)) (l.before (omega arith))))
          (λ same. omega arith) (cases_lt from q)

      pub words_more : WordsBefore t past more
      words_more =
          record {
            each = each_more (WordAt t) was.each (record { past = past; longest = subst (λ n. Longest t n past) (sym place) word; shows = subst (λ n. Shows (bytes_in t n past) w.piece) (sym place) shows });
            before = each_more (λ x. x.place < past) (λ i h. omega (arith, words_to.before i h, word.some)) (omega (arith, word.some));
            rising = λ i j h l. ⊎_elim
                (λ early. rw (old i (omega arith), old j early) (was.rising i j h early))
                (λ late. let e : length ws ≡ j = omega (arith, length_push ws w) in rw (old i (omega arith), new j e) (omega (arith, words_to.before i (omega arith))))
                (cases_lt j (length ws));
            all = λ q p l h. ⊎_elim
                (λ early. let found = words_to.all q p l early in (found.0, omega (arith, found.1, length_push ws w), ap (λ x. x.place) (old found.0 found.1) ∙ found.2))
                (λ late. (length ws, omega (arith, length_push ws w), ap (λ x. x.place) (new (length ws) refl) ∙ (place ∙ sym (begun q p l late h))))
                (cases_lt q from);
          }
