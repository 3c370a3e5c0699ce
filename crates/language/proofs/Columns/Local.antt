-- Items that end at word k, and what is wanted after it, depend on the first k words alone.
use Rattle.std.proofs.Common.{◌≡◌, ℕ, ◌<◌, ◌≤◌, T, List, get_or, take, sym, ap, ◌∙◌, subst, arith, get_or-take}
use Rattle.language.specs.Book.{Grammar, Numbered, size, symbol, left}
use Rattle.language.specs.Words.{Word, blank}
use Rattle.language.specs.Chart.{Wanted, Held, Spans, first, next, begin, advance, word, finished}
use Rattle.language.proofs.Columns.Bounds.{spans_within}

-- two lists of words with the same first k words have the same word at each place before k
same_word : (ws vs : List Word) (k j : ℕ) → take k ws ≡ take k vs → j < k → get_or ws j blank ≡ get_or vs j blank
same_word ws vs k j e h = sym (get_or-take k ws j blank h) ∙ (ap (λ us. get_or us j blank) e ∙ get_or-take k vs j blank h)

module _ (g : Grammar) (ws vs : List Word) (n : ℕ) (same : take n ws ≡ take n vs) (some_symbols : (r : ℕ) → Numbered g r → 1 ≤ size g r) where
  matched : (c j : ℕ) → j < n → T (get_or ws j blank c) → T (get_or vs j blank c)
  matched c j h t = subst (λ w. T (w c)) (same_word ws vs n j same h) t

  within : (X j k : ℕ) → Spans g ws X j k → j < k
  within X j k s = (spans_within g ws some_symbols X j k s).forward

  mutual
    pub held_local : (r d i k : ℕ) → Held g ws r d i k → k ≤ n → Held g vs r d i k
    held_local _ _ _ _ (begin r i k m w s) l =
        let h : i < k = within (symbol g r 0) i k s in
        begin r i k m (wanted_local i (left g r) w (omega arith)) (spans_local (symbol g r 0) i k s l)
    held_local _ _ _ _ (advance r d i j k h u s) l =
        let f : j < k = within (symbol g r d) j k s in
        advance r d i j k (held_local r d i j h (omega arith)) u (spans_local (symbol g r d) j k s l)

    pub wanted_local : (k Y : ℕ) → Wanted g ws k Y → k ≤ n → Wanted g vs k Y
    wanted_local _ _ (first Y c) l = first Y c
    wanted_local _ _ (next r d i k Y h u c) l = next r d i k Y (held_local r d i k h l) u c

    spans_local : (X j k : ℕ) → Spans g ws X j k → k ≤ n → Spans g vs X j k
    spans_local _ _ _ (word c j key t) l = word c j key (matched c j l t)
    spans_local _ _ _ (finished r j k h) l = finished r j k (held_local r (size g r) j k h l)
