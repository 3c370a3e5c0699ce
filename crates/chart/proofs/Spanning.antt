-- All that follows from a symbol that spans, rule by rule and item by item.
use Rattle.std.proofs.Common.{◌≡◌, ℕ, suc, ◌<◌, ◌≤◌, true, length, sym, ◌∙◌, subst, ⊎_elim, arith}
use Rattle.std.specs.Prelude.{Result, MatchResult}
use Rattle.std.proofs.lemmas.List.{get_or_past}
use Rattle.std.proofs.lemmas.Bool.{cases_eq, cases_lt}
use Rattle.language.specs.Book.{Grammar, Numbered, right, size, symbol}
use Rattle.language.specs.Chart.{Held, Spans, word, finished}
use Rattle.wording.specs.declared.pressed.Matched.{Matched}
use Rattle.chart.specs.Boards.{Extends, Entered, NoPlace, at_place}
use Rattle.chart.specs.Filling.{SpansHere, Filling, Filled, Overfull, RuleBegun, AllBegun, ItemAdvanced, AdvancedAt, AllAdvanced, SpanDone}
use Rattle.chart.specs.Indexes.{LastBelow}
use Rattle.chart.specs.Items.{entry}
use Rattle.chart.specs.Marks.{Small, marked}
use Rattle.chart.specs.Starts.{has_start}
use Rattle.chart.specs.Ready.{Ready}
use Rattle.chart.specs.Records.{grammar_of, words_with, record_of}
use Rattle.chart.specs.declared.boards.Board.{Board}
use Rattle.chart.specs.declared.items.Item.{Item}
use Rattle.chart.specs.declared.records.Settled.{Settled}
use Rattle.chart.specs.declared.starts.StartSet.{StartSet}
use Rattle.chart.proofs.Entering.{plain_of, held_at, extends_more, held_small, span_start, bounds, item_entered, advanced_held}

-- every rule above r that has X at place d is done with, and r has X there where it is a rule
pub record Down (g : Grammar) (d X : ℕ) (Done : ℕ → Type 0) (r : ℕ) : Type 0 where
  pub numbered : 1 ≤ r → Numbered g r
  pub here : 1 ≤ r → symbol g r d ≡ X
  pub done : (p : ℕ) → r < p → Numbered g p → symbol g p d ≡ X → Done p

pub down_start : (g : Grammar) (d X : ℕ) (Done : ℕ → Type 0) (r : ℕ) → LastBelow g d X (suc (length g.rules)) r → Down g d X Done r
down_start g d X Done r last = record {
  numbered = λ l. record { low = l; high = omega (arith, last.below) };
  here = last.here;
  done = λ p l n e. absurd (last.none p l (omega (arith, n.high)) e);
}

pub down_next : (g : Grammar) (d X : ℕ) (Done Next : ℕ → Type 0) (r q : ℕ) → ((p : ℕ) → Numbered g p → Done p → Next p) → Down g d X Done r → 1 ≤ r → Next r → LastBelow g d (symbol g r d) r q → Down g d X Next q
down_next g d X Done Next r q more was some here last = record {
  numbered = λ m. record { low = m; high = omega (arith, last.below, (was.numbered some).high) };
  here = λ m. last.here m ∙ was.here some;
  done = λ p h n x. ⊎_elim
      (λ same. subst Next (sym same) here)
      (λ ne. ⊎_elim (λ k. absurd (last.none p h k (x ∙ sym (was.here some)))) (λ k. more p n (was.done p (omega arith) n x)) (cases_lt p r))
      (cases_eq p r);
}

module _ (s : Settled) (w : Matched) where
  -- every rule above r that begins with X is begun
  abbrev pub BegunDown : Board → ℕ → ℕ → ℕ → Type 0
  BegunDown b X i = Down (grammar_of s) 0 X (λ p. RuleBegun s w b p i)

  -- every rule above r with X at place d is advanced past it
  abbrev pub AdvancedDown : Board → ℕ → ℕ → StartSet → ℕ → Type 0
  AdvancedDown b d X starts = Down (grammar_of s) d X (λ p. (i : ℕ) → has_start starts i ≡ true → marked b.marks p (suc d) i ≡ true)

  -- the items at the places of a word up to one are advanced
  abbrev pub AdvancedTo : Board → Board → ℕ → ℕ → ℕ → Type 0
  AdvancedTo first b from at X = (q : ℕ) → from ≤ q → q < at → ItemAdvanced s w b (at_place first q) X

module _ (s : Settled) (w : Matched) (ready : Ready s w) where
  -- one step after another
  pub filled_more : {a b c : Board} → Filled s w a b → Filled s w b c → Filled s w a c
  filled_more x y = record { filling = y.filling; extends = extends_more x.extends y.extends }

  -- and a step for which there is no place
  pub overfull_more : {a b c : Board} → Extends a b → Overfull s w b c → Overfull s w a c
  overfull_more {a} {b} {c} x y = record {
    extends = extends_more x y.extends;
    more = let m = y.more in record { items = m.items; held = m.held; apart = m.apart; more = omega (arith, m.more, x.limit) };
  }

  -- a symbol that spans is one of the book
  pub span_low : (X i k : ℕ) → Spans (grammar_of s) (words_with s w) X i k → 1 ≤ X
  span_low _ _ _ (word c j key t) = omega (arith, key.low)
  span_low _ _ _ (finished r j k h) = (plain_of s).left_low r (bounds s w ready r _ j k h).rule

  pub span_high : (X i k : ℕ) → Spans (grammar_of s) (words_with s w) X i k → X ≤ 64
  span_high _ _ _ (word c j key t) = omega (arith, key.high, (plain_of s).few_keys)
  span_high _ _ _ (finished r j k h) = omega (arith, (plain_of s).left_high r (bounds s w ready r _ j k h).rule)

  -- a rule that is begun can be marked
  pub rule_small : (r i : ℕ) → Numbered (grammar_of s) r → i ≤ s.held → Small r 1 i
  rule_small r i n l = record {
    rule = record { low = n.low; high = omega (arith, n.high, (plain_of s).few_rules) };
    some_done = omega arith;
    few_done = omega arith;
    start = omega (arith, ready.few);
  }

  pub begun_more : {a b : Board} (r i : ℕ) → Numbered (grammar_of s) r → i ≤ s.held → Extends a b → RuleBegun s w a r i → RuleBegun s w b r i
  begun_more r i n l e h v = e.marks r 1 i (rule_small r i n l) (h v)

  -- an unfinished item with one more symbol done can be marked
  pub next_small : (r d i j : ℕ) → Held (grammar_of s) (words_with s w) r d i j → d < size (grammar_of s) r → Small r (suc d) i
  next_small r d i j h l =
      let k = held_small s w ready r d i j h in
      record { rule = k.rule; some_done = omega arith; few_done = omega (arith, (plain_of s).few_symbols r (bounds s w ready r d i j h).rule); start = k.start }

  pub span_more : {a b : Board} (X i : ℕ) → i ≤ s.held → Extends a b → SpanDone s w a X i → SpanDone s w b X i
  span_more X i l e done = record {
    begun = λ r n first. begun_more r i n l e (done.begun r n first);
    advanced = λ r d j h u next. e.marks r (suc d) j (next_small r d j i h u) (done.advanced r d j h u next);
  }

  -- a rule has no symbol past its end, and no symbol is 0
  pub next_inside : (r d X : ℕ) → 1 ≤ X → symbol (grammar_of s) r d ≡ X → d < size (grammar_of s) r
  next_inside r d X low e = ⊎_elim (λ l. l) (λ l. absurd (omega (arith, get_or_past (right (grammar_of s) r) d 0 l))) (cases_lt d (size (grammar_of s) r))

  -- an item that waits after a word is unfinished where a symbol of the book is its next
  pub waiting_held : (b : Board) (i q : ℕ) (t : Item) → Filling s w b → 1 ≤ i → i ≤ s.held → (record_of s i).from ≤ q → q < (record_of s i).waiting → t ≡ at_place b q
      → Held (grammar_of s) (words_with s w) t.rule t.done t.start i
  waiting_held b i q t was some l low high is =
      let c = was.columns i q some l low high in
      held_at s w t (at_place b q) i is c.1 (was.items q (omega (arith, c.0, was.begins)))

  -- what is known of an item that waits after a word, where its next symbol spans
  pub record Advanceable (t : Item) (i : ℕ) : Type 0 where
    pub held : Held (grammar_of s) (words_with s w) t.rule t.done t.start i
    pub inside : t.done < size (grammar_of s) t.rule
    pub small : Small t.rule (suc t.done) t.start

  pub advanceable : (b : Board) (X i q : ℕ) (t : Item) → Filling s w b → SpansHere s w X i → 1 ≤ i → (record_of s i).from ≤ q → q < (record_of s i).waiting → t ≡ at_place b q
      → symbol (grammar_of s) t.rule t.done ≡ X → Advanceable t i
  advanceable b X i q t was spans some low high is next =
      let held = waiting_held b i q t was some (span_start s w ready X i spans) low high is in
      let inside = next_inside t.rule t.done X (span_low X i (suc s.held) spans) next in
      record { held = held; inside = inside; small = next_small t.rule t.done t.start i held inside }

  pub advanced_more : {a b : Board} (first : Board) (i q X : ℕ) → Filling s w first → 1 ≤ i → i ≤ s.held → (record_of s i).from ≤ q → q < (record_of s i).waiting → 1 ≤ X → Extends a b
      → ItemAdvanced s w a (at_place first q) X → ItemAdvanced s w b (at_place first q) X
  advanced_more first i q X was some l low high known e h next =
      let c = was.columns i q some l low high in
      let t = at_place first q in
      e.marks t.rule (suc t.done) t.start (next_small t.rule t.done t.start t.end (was.items q (omega (arith, c.0, was.begins))) (next_inside t.rule t.done X known next)) (h next)

  pub advanced_all : (first b : Board) (i X : ℕ) → Filling s w first → i ≤ s.held → AdvancedTo s w first b (record_of s i).from (record_of s i).waiting X → AllAdvanced s w b X i
  advanced_all first b i X was l all r d j h u next =
      let x = was.waiting r d j i l h u in
      subst (λ (t : Item). ItemAdvanced s w b t X) x.is (all x.place x.low x.high) next

  -- where a symbol spans, all rules are begun and then all items advanced
  pub span_done : (a b c : Board) (X i : ℕ) → i ≤ s.held → Filled s w a b → AllBegun s w b X i → Filled s w b c → AllAdvanced s w c X i → Filled s w a c × SpanDone s w c X i
  span_done a b c X i l x begun y advanced = (filled_more x y, record { begun = λ r n first. begun_more r i n l y.extends (begun r n first); advanced = advanced })

  -- nor is an item left where all rules are advanced
  pub advanced_known : (b : Board) (i X : ℕ) (starts : StartSet) → Filling s w b → 1 ≤ i → i ≤ s.held → starts ≡ (record_of s i).starts → ((d : ℕ) → 1 ≤ d → d < 6 → AdvancedAt s w b X starts d) → AllAdvanced s w b X i
  advanced_known b i X starts was some l is all r d j h u next =
      let x = was.waiting r d j i l h u in
      let k = bounds s w ready r d j i h in
      let known = subst (λ (t : Item). has_start (record_of s i).starts t.start ≡ true) x.is (was.starts i some l x.place x.low x.high) in
      all d k.some_done (omega (arith, u, (plain_of s).few_symbols r k.rule)) r j k.rule next (subst (λ (y : StartSet). has_start y j ≡ true) (sym is) known)

  -- nothing ends before the first word
  pub advanced_none : (b : Board) (X i : ℕ) → i ≡ 0 → AllAdvanced s w b X i
  advanced_none b X i e r d j h = absurd (omega (arith, (bounds s w ready r d j i h).forward))

  -- what a call leaves that enters an item with one more symbol done
  pub item_advanced : {T E : Type 0} (old new : Board) (t u : Item) (X i d e : ℕ) → Filling s w old → SpansHere s w X i → Advanceable t i → symbol (grammar_of s) t.rule t.done ≡ X → t ≡ u → d ≡ suc t.done → e ≡ suc s.held
      → (res : Result T E) → MatchResult res (λ _. Entered old new (entry t.rule d t.start e)) (λ _. (new ≡ old) × NoPlace old (entry t.rule d t.start e))
      → MatchResult res (λ _. Filled s w old new × ItemAdvanced s w new u X) (λ _. Overfull s w old new)
  item_advanced old new t u X i d e was spans a next is more end res put =
      subst (λ x. MatchResult res (λ _. Filled s w old new × ItemAdvanced s w new x X) (λ _. Overfull s w old new)) is
      (item_entered s w ready (symbol (grammar_of s) t.rule t.done ≡ X) old new t.rule (suc t.done) t.start e end was
      (advanced_held s w ready t.rule t.done t.start i X a.held a.inside next spans) res
      (subst (λ x. MatchResult res (λ _. Entered old new (entry t.rule x t.start e)) (λ _. (new ≡ old) × NoPlace old (entry t.rule x t.start e))) more put))

  -- one more place
  pub advanced_next : {a b : Board} (first : Board) (i at X : ℕ) → Filling s w first → 1 ≤ i → i ≤ s.held → at < (record_of s i).waiting → 1 ≤ X → Extends first a → Extends a b
      → AdvancedTo s w first a (record_of s i).from at X → ItemAdvanced s w b (at_place a at) X → AdvancedTo s w first b (record_of s i).from (suc at) X
  advanced_next {a} {b} first i at X was some l high known from e before here q low h = ⊎_elim
      (λ same.
      let c = was.columns i q some l low (omega arith) in
      subst (λ (t : Item). ItemAdvanced s w b t X) (from.before q (omega (arith, c.0, was.begins))) (subst (λ p. ItemAdvanced s w b (at_place a p) X) (sym same) here))
      (λ ne. advanced_more {a = a} {b = b} first i q X was some l low (omega arith) known e (before q low (omega arith)))
      (cases_eq q at)
