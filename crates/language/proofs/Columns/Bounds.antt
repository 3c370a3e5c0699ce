-- Items lie within the words, and depend on the words up to their end alone.
use Rattle.std.proofs.Common.{ℕ, suc, ◌<◌, ◌≤◌, List, length, arith}
use Rattle.language.specs.Book.{Grammar, Numbered, size}
use Rattle.language.specs.Words.{Word}
use Rattle.language.specs.Chart.{Held, Spans, begin, advance, word, finished}
use Rattle.language.specs.Columns.{InBounds}
use Rattle.language.proofs.Words.{matched_inside}

-- a span has a word at least, and ends within the words
pub record Within (ws : List Word) (j k : ℕ) : Type 0 where
  pub forward : j < k
  pub ends : k ≤ length ws

module _ (g : Grammar) (ws : List Word) (some_symbols : (r : ℕ) → Numbered g r → 1 ≤ size g r) where
  begun : (r i k : ℕ) → Numbered g r → Within ws i k → InBounds g ws r 1 i k
  begun r i k n s = record { rule = n; some_done = omega arith; not_past = some_symbols r n; forward = s.forward; ends = s.ends }

  advanced : (r d i j k : ℕ) → InBounds g ws r d i j → d < size g r → Within ws j k → InBounds g ws r (suc d) i k
  advanced r d i j k b h s = record { rule = b.rule; some_done = omega arith; not_past = h; forward = omega (arith, b.forward, s.forward); ends = s.ends }

  mutual
    pub held_bounds : (r d i k : ℕ) → Held g ws r d i k → InBounds g ws r d i k
    held_bounds _ _ _ _ (begin r i k n w s) = begun r i k n (spans_within _ _ _ s)
    held_bounds _ _ _ _ (advance r e i j k h l s) = advanced r e i j k (held_bounds r e i j h) l (spans_within _ _ _ s)

    pub spans_within : (X j k : ℕ) → Spans g ws X j k → Within ws j k
    spans_within _ _ _ (word c j key m) = record { forward = omega arith; ends = matched_inside ws j c m }
    spans_within _ _ _ (finished r j k h) = let b = held_bounds r (size g r) j k h in record { forward = b.forward; ends = b.ends }
