-- A set that is closed over the settled columns holds the new column; the same for what is wanted after a word.
use Rattle.std.proofs.Common.{◌≡◌, ℕ, ◌<◌, ◌≤◌, List, sym, subst, arith}
use Rattle.language.specs.Book.{Grammar, Numbered, size, symbol}
use Rattle.language.specs.Words.{Word}
use Rattle.language.specs.Chart.{Wanted, Held, Spans, first, next, begin, advance, word, finished}
use Rattle.language.specs.Columns.{SpansTo, Closed, Joined}
use Rattle.language.proofs.Columns.Bounds.{spans_within}

module _ (g : Grammar) (ws : List Word) (some_symbols : (r : ℕ) → Numbered g r → 1 ≤ size g r) (k : ℕ) where
  module _ (S : ℕ → ℕ → ℕ → Type 0) (closed : Closed g ws k S) where
    mutual
      pub held_least : (r d i n : ℕ) → Held g ws r d i n → n ≡ k → S r d i
      held_least _ _ _ _ (begin r i n m w s) e =
          let h : i < n = (spans_within g ws some_symbols (symbol g r 0) i n s).forward in
          closed.begin r i (omega arith) m w (spans_least (symbol g r 0) i n s e)
      held_least _ _ _ _ (advance r d i j n h u s) e =
          let f : j < n = (spans_within g ws some_symbols (symbol g r d) j n s).forward in
          closed.advance r d i j (omega arith) h u (spans_least (symbol g r d) j n s e)

      spans_least : (X j n : ℕ) → Spans g ws X j n → n ≡ k → SpansTo g ws k S X j
      spans_least _ _ _ (word c j key t) e = SpansTo.word c j e key t
      spans_least _ _ _ (finished r j n h) e = SpansTo.finished r j (held_least r (size g r) j n h e)

  pub wanted_least : (N : ℕ → Type 0) → Joined g ws k N → (n Y : ℕ) → Wanted g ws n Y → n ≡ k → N Y
  wanted_least N joined _ _ (first Y c) e = joined.first (sym e) Y c
  wanted_least N joined _ _ (next r d i n Y h u c) e = joined.next r d i Y (subst (λ x. Held g ws r d i x) e h) u c
