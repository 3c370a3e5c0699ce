-- Symbols of a sound book that may start after some words, and sets of symbols.
use Rattle.std.proofs.Common.{◌≡◌, ℕ, zero, suc, ◌+◌, ◌<◌, ◌≤◌, true, false, ◌⊎◌, List, sym, subst, inl, inr, ⊎_elim, arith}
use mathlib.Core.Path.{fun_ext}
use Rattle.std.proofs.lemmas.Bool.{cases_Bool, cases_eq, cases_lt}
use Rattle.language.specs.Book.{Grammar, Key}
use Rattle.language.specs.Words.{Word}
use Rattle.language.specs.Chart.{Corner, Wanted, self, down, first, next}
use Rattle.language.proofs.Columns.Bounds.{held_bounds}
use Rattle.rulebook.specs.Sets.{has}
use Rattle.rulebook.specs.declared.sets.SymbolSet.{SymbolSet}
use Rattle.rulebook.proofs.Holding.{holds_outside}
use Rattle.soundbook.proofs.Plain.{Plain}
use Rattle.wording.specs.declared.pressed.Matched.{Matched}
use Rattle.chart.specs.Records.{matching}

-- a symbol of the book from 33 on is a key of it
corner_key : (g : Grammar) → Plain g → (X Y : ℕ) → X ≤ 32 → Corner g X Y → 33 ≤ Y → Key g Y
corner_key g p X _ l self h = absurd (omega arith)
corner_key g p X _ l (down r n c) h = record { low = h; high = p.symbol_key r 0 n (p.some_symbols r n) h }

next_key : (g : Grammar) → Plain g → (X Y : ℕ) → (33 ≤ X → X ≤ 32 + g.keys) → Corner g X Y → 33 ≤ Y → Key g Y
next_key g p X _ l self h = record { low = h; high = l h }
next_key g p X _ l (down r n c) h = record { low = h; high = p.symbol_key r 0 n (p.some_symbols r n) h }

-- so is one that may start after some words
pub wanted_key : (g : Grammar) → Plain g → (ws : List Word) (k Y : ℕ) → Wanted g ws k Y → 33 ≤ Y → Key g Y
wanted_key g p ws _ _ (first Y c) h = corner_key g p g.start Y p.start_high c h
wanted_key g p ws _ _ (next r d i k Y x l c) h = next_key g p _ Y (p.symbol_key r d (held_bounds g ws p.some_symbols r d i k x).rule l) c h

-- a set that is not empty holds some symbol
some_below : (t : SymbolSet) (n : ℕ) → ((c : ℕ) × (has t c ≡ true)) ⊎ ((c : ℕ) → c < n → has t c ≡ false)
some_below t zero = inr (λ c l. absurd (omega arith))
some_below t (suc n) = ⊎_elim inl
    (λ none. ⊎_elim (λ h. inl (n, h)) (λ h. inr (λ c l. ⊎_elim (λ e. subst (λ x. has t x ≡ false) (sym e) h) (λ ne. none c (omega arith)) (cases_eq c n))) (cases_Bool (has t n)))
    (some_below t n)

pub some_held : (t : SymbolSet) → (((c : ℕ) → has t c ≡ false) → ⊥) → (c : ℕ) × (has t c ≡ true)
some_held t some = ⊎_elim (λ h. h)
    (λ none. absurd (some (λ c. ⊎_elim (λ l. none c l) (λ l. sym (holds_outside t.mask c (inr (omega arith)))) (cases_lt c 65)))) (some_below t 65)

-- two tests that agree are one word
pub same_matches : (w : Matched) (v : Word) → ((c : ℕ) → has w.keys c ≡ v c) → matching w ≡ v
same_matches w v h = fun_ext h
