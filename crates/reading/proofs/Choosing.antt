-- The choice that gives the first reading, by the items of the chart.
use Rattle.std.proofs.Common.{◌≡◌, ℕ, suc, ◌⊎◌, inl, inr, refl, ◌<◌, ◌≤◌, List, IsTrue, ◌↔◌, false, length, sym, ap, ◌∙◌, subst, ⊎_elim, arith}
use Rattle.std.proofs.lemmas.Bool.{cases_lt, false≢true}
use Rattle.language.specs.Book.{Grammar, Numbered, size, symbol}
use Rattle.language.specs.Words.{Word}
use Rattle.language.specs.Chart.{Spans, finished}
use Rattle.language.proofs.Outside.{outside_theorem}
use Rattle.language.proofs.Known.{sound_known}
use Rattle.language.proofs.Chart.Proper.{Proper, sound_proper}
use Rattle.language.proofs.Columns.Bounds.{held_bounds, spans_within}
use Rattle.soundbook.specs.Sounds.{sound_meaning}
use Rattle.soundbook.specs.declared.sounds.SoundBook.{SoundBook}
use Rattle.soundbook.proofs.Plain.{Plain, plain}
use Rattle.reading.specs.Choices.{Finishes, PartBegins, EarliestBegin}

-- a number is a rule's or not
numbered_or : (g : Grammar) (r : ℕ) → Numbered g r ⊎ (Numbered g r → ⊥)
numbered_or g r = ⊎_elim (λ l. inr (λ n. omega (arith, n.low))) (λ l. ⊎_elim (λ h. inl (record { low = omega arith; high = omega arith })) (λ h. inr (λ n. omega (arith, n.high))) (cases_lt r (suc (length g.rules)))) (cases_lt r 1)

-- the rules of a draft's grammar have the bounds of its book's
-- one book has one grammar
pub same_rules : {a b : SoundBook} → a ≡ b → (sound_meaning a).grammar ≡ (sound_meaning b).grammar
same_rules e = ap (λ b. (sound_meaning b).grammar) e

pub plain_as : (book : SoundBook) (g : Grammar) → (sound_meaning book).grammar ≡ g → Plain g
plain_as book g same = subst Plain same (plain (sound_meaning book) book.sound)

-- and all that the chart needs of it
pub proper_as : (book : SoundBook) (g : Grammar) → (sound_meaning book).grammar ≡ g → Proper g
proper_as book g same = subst Proper same (sound_proper (sound_meaning book) (sound_known (sound_meaning book) book.sound))

-- a rule has at most six symbols, one that is not in the book none
pub few_symbols : (book : SoundBook) (r : ℕ) → size (sound_meaning book).grammar r ≤ 6
few_symbols book r = ⊎_elim in_book (λ no. omega (arith, ((outside_theorem (sound_meaning book)).rules r no).1)) (numbered_or (sound_meaning book).grammar r)
  where
    in_book : Numbered (sound_meaning book).grammar r → size (sound_meaning book).grammar r ≤ 6
    in_book n = (plain (sound_meaning book) book.sound).few_symbols r n

-- a rule that has a finished item is one of the book
pub rule_bounds : (book : SoundBook) (g : Grammar) → (sound_meaning book).grammar ≡ g → (ws : List Word) (X i k q : ℕ) → Finishes g ws X i k q
    → (1 ≤ q) × (q ≤ length (sound_meaning book).grammar.rules)
rule_bounds book g same ws X i k q f =
    let n = (held_bounds g ws (plain_as book g same).some_symbols q (size g q) i k f.held).rule in
    (n.low, subst (λ h. q ≤ length h.rules) (sym same) n.high)

-- nor has one, if none before the last rule has, and the last has not
pub none_more : (book : SoundBook) (g : Grammar) → (sound_meaning book).grammar ≡ g → (ws : List Word) (X i k top r : ℕ) → top ≡ length (sound_meaning book).grammar.rules → top ≤ r
    → ((q : ℕ) → q < r → Finishes g ws X i k q → ⊥) → IsTrue false ↔ Finishes g ws X i k r → (q : ℕ) → Finishes g ws X i k q → ⊥
none_more book g same ws X i k top r many last before here q f = ⊎_elim
    (λ l. before q l f)
    (λ l. false≢true (here.1 (subst (Finishes g ws X i k) (omega (arith, (rule_bounds book g same ws X i k q f).1, many, last)) f)))
    (cases_lt q r)

-- where a child begins that ends at word k, by the symbol that the book answers
module _ (book : SoundBook) (g : Grammar) (same : (sound_meaning book).grammar ≡ g) (ws : List Word) (r d i k b : ℕ) (first : EarliestBegin g ws r d i k b)
    (answer : ℕ) (is : answer ≡ symbol (sound_meaning book).grammar r d) where
  is_symbol : answer ≡ symbol g r d
  is_symbol = is ∙ ap (λ h. symbol h r d) same

  -- a key spans one word
  pub key_begins : 32 < answer → k ≡ suc b
  key_begins high = spanned (symbol g r d) k refl first.spans
    where
      spanned : (X n : ℕ) → X ≡ symbol g r d → Spans g ws X b n → n ≡ suc b
      spanned _ _ e (Spans.word c j h m) = refl
      spanned _ _ e (finished q j n h) =
          let numbered = (held_bounds g ws (plain_as book g same).some_symbols q (size g q) j n h).rule in
          absurd (omega (arith, (plain_as book g same).left_high q numbered, e, high, is_symbol))

  -- a part may begin there
  part_begins : answer ≤ 32 → PartBegins g ws r d i k b
  part_begins low = spanned (symbol g r d) k refl first.spans
    where
      spanned : (X n : ℕ) → X ≡ symbol g r d → Spans g ws X b n → PartBegins g ws r d i n b
      spanned _ _ e (Spans.word c j h m) = absurd (omega (arith, h.low, e, low, is_symbol))
      spanned _ _ e (finished q j n h) = record { held = first.held; by = q; finishes = record { heads = e; held = h } }

  -- and no earlier
  begins_late : (j : ℕ) → PartBegins g ws r d i k j → b ≤ j
  begins_late j p = first.earliest j p.held (subst (λ X. Spans g ws X j k) p.finishes.heads (finished p.by j k p.finishes.held))

  starts : i < b
  starts = (held_bounds g ws (plain_as book g same).some_symbols r d i b first.held).forward

  -- so what is found first is it, and something is found
  pub found_first : (j : ℕ) → answer ≤ 32 → ((n : ℕ) → i ≤ n → n < j → PartBegins g ws r d i k n → ⊥) → PartBegins g ws r d i k j → j ≡ b
  found_first j low earlier here = ⊎_elim
      (λ l. absurd (earlier b (omega (arith, starts)) l (part_begins low)))
      (λ l. omega (arith, begins_late j here))
      (cases_lt b j)

  pub found_some : answer ≤ 32 → ((n : ℕ) → i ≤ n → n < k → PartBegins g ws r d i k n → ⊥) → ⊥
  found_some low none = none b (omega (arith, starts)) (spans_within g ws (plain_as book g same).some_symbols (symbol g r d) b k first.spans).forward (part_begins low)
