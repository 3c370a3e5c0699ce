-- There is one next word, and it is either read or refused for one reason.
use Rattle.std.proofs.Common.{◌≡◌, ℕ, ◌+◌, ◌<◌, List, length, get_or, sym, refl, ap, subst, ⊎_elim, arith}
use Rattle.std.proofs.lemmas.Bool.{both_ways}
use Rattle.language.specs.Sound.{Letter, small, hyphen}
use Rattle.language.proofs.Numbers.{neither_lower}
use Rattle.rulebook.specs.declared.faults.Fault.{Fault}
use Rattle.rulebook.specs.declared.faults.Fault.TheVariants.{WordByte}
use Rattle.wording.specs.Pieces.{Digit, Shows, ByteFits, letters, figures, TooLong, WordRefused}
use Rattle.wording.specs.Runs.{separates, Longest, NextWord}
use Rattle.wording.specs.Theorem.{WordIs}
use Rattle.wording.specs.declared.pieces.Piece.{Piece}
use Rattle.wording.specs.declared.pieces.Piece.TheVariants.{Name, Figure, End}

module _ (t : List ℕ) where
  -- a word that begins at a place ends at one place
  past_low : (from past past' : ℕ) → Longest t from past → Longest t from past' → past < past' → ⊥
  past_low from past past' l m h = both_ways (separates (get_or t past 0)) (m.bytes past (omega (arith, l.some)) h) (l.after (omega (arith, m.within)))

  past_one : (from past past' : ℕ) → Longest t from past → Longest t from past' → past ≡ past'
  past_one from past past' l m = neither_lower past past' (past_low from past past' l m) (past_low from past' past m l)

  module _ (at : ℕ) where
    -- none begins before the next
    from_low : (from past from' past' : ℕ) → NextWord t at from past → NextWord t at from' past' → from < from' → ⊥
    from_low from past from' past' n o h = ⊎_elim
        (λ l. both_ways (separates (get_or t from 0)) (l.bytes from (omega arith) l.some) (o.gap from n.low h))
        (λ e. ⊎_elim (λ m. omega (arith, m.some, m.within)) (λ f. omega arith) o.word) n.word

    from_one : (from past from' past' : ℕ) → NextWord t at from past → NextWord t at from' past' → from ≡ from'
    from_one from past from' past' n o = neither_lower from from' (from_low from past from' past' n o) (from_low from' past' from past o n)

    next_one : (from past from' past' : ℕ) → NextWord t at from past → NextWord t at from' past' → (from ≡ from') × (past ≡ past')
    next_one from past from' past' n o =
        let e = from_one from past from' past' n o in (
          e,
          ⊎_elim
              (λ l. ⊎_elim (λ m. past_one from past past' l (subst (λ x. Longest t x past') (sym e) m)) (λ f. absurd (omega (arith, l.some, l.within))) o.word)
              (λ f. ⊎_elim (λ m. absurd (omega (arith, m.some, m.within))) (λ h. omega arith) o.word) n.word,
        )

  -- the first byte that does not fit is one
  abbrev AllFit : Type 0
  AllFit = (i : ℕ) → i < length t → ByteFits (get_or t 0 0) (get_or t i 0)

  refused_one : (from : ℕ) (f h : Fault) → WordRefused from t f → WordRefused from t h → f ≡ h
  refused_one from f h (WordRefused.byte k m) (WordRefused.byte k' m') = ap (λ n. WordByte (from + n + 1)) (neither_lower k k' (λ b. m.unfit (m'.before k b)) (λ b. m'.unfit (m.before k' b)))
  refused_one from f h (WordRefused.byte k m) (WordRefused.long all long) = absurd (m.unfit (all k m.inside))
  refused_one from f h (WordRefused.long all long) (WordRefused.byte k m) = absurd (m.unfit (all k m.inside))
  refused_one from f h (WordRefused.long all long) (WordRefused.long all' long') = refl

  letter_digit : (b : ℕ) → Letter b → Digit b → ⊥
  letter_digit b (small low high) d = omega (arith, d.high)
  letter_digit b (hyphen e) d = omega (arith, d.low)

  -- letters all fit, and so do figures
  shown_fits : (p : Piece) → Shows t p → AllFit
  shown_fits (Name b) h i l = letters (h.1.letters 0 h.1.low) (h.1.letters i l)
  shown_fits (Figure b v) h i l = figures (λ x. letter_digit _ x (h.1.digits 0 h.1.some)) (h.1.digits i l)
  shown_fits End h i l = absurd (omega (arith, subst (λ s. i < length s) h l))

  shown_short : (p : Piece) → Shows t p → TooLong t → ⊥
  shown_short (Name b) h = ⊎_elim (λ n. omega (arith, n.1, h.1.high)) (λ n. n.0 (h.1.letters 0 h.1.low))
  shown_short (Figure b v) h = ⊎_elim (λ n. letter_digit _ n.0 (h.1.digits 0 h.1.some)) (λ n. omega (arith, n.1, h.1.few))
  shown_short End h = ⊎_elim (λ n. omega (arith, n.1, ap length h)) (λ n. omega (arith, n.1, ap length h))

  apart : (from : ℕ) (p : Piece) (f : Fault) → Shows t p → WordRefused from t f → ⊥
  apart from p f h (WordRefused.byte k m) = m.unfit (shown_fits p h k m.inside)
  apart from p f h (WordRefused.long all long) = shown_short p h long

  pub word_is : WordIs t
  word_is = record { next = next_one; one = refused_one; apart = apart }
