-- All that follows from the keys of the new word, and from what is entered.
use Rattle.std.proofs.Common.{◌≡◌, ℕ, suc, ◌<◌, ◌≤◌, Bool, true, false, T, ◌||◌, [], get_or, replicate, sym, refl, ap, ◌∙◌, subst, ⊎_elim, arith}
use Rattle.std.proofs.lemmas.List.{get_or_at, get_or-replicate, get_or_past, length-replicate}
use Rattle.std.proofs.lemmas.Bool.{cases_eq, cases_lt, or_left, or_right, or_cases, and_parts, and_from, eq-eqb, eqb-true}
use Rattle.std.proofs.lemmas.Float.{T_from_true}
use Rattle.language.specs.Book.{Key, left, size}
use Rattle.language.specs.Words.{Word, blank}
use Rattle.language.specs.Chart.{Held, word, finished}
use Rattle.language.specs.Columns.{SpansTo, Closed}
use Rattle.language.proofs.Columns.Least.{held_least}
use Rattle.rulebook.specs.Sets.{has, symbolic, is_symbol}
use Rattle.rulebook.specs.declared.sets.SymbolSet.{SymbolSet}
use Rattle.rulebook.proofs.Holding.{holds_none}
use Rattle.wording.specs.declared.pressed.Matched.{Matched}
use Rattle.chart.specs.Boards.{Extends, at_place}
use Rattle.chart.specs.Filling.{Standing, SpansHere, Filling, SpanDone, KeyDone, KeysDone, PartsDone, Followed, FollowedUp, AllStand}
use Rattle.chart.specs.Items.{entry}
use Rattle.chart.specs.Marks.{parts_at}
use Rattle.chart.specs.Ready.{Ready}
use Rattle.chart.specs.Records.{grammar_of, words_of, words_with, matching, used_of}
use Rattle.chart.specs.declared.boards.Board.{Board}
use Rattle.chart.specs.declared.items.Item.{Item}
use Rattle.chart.specs.declared.marks.Parts.{Parts}
use Rattle.chart.specs.declared.records.Settled.{Settled}
use Rattle.chart.proofs.Entering.{plain_of, held_at, held_start}
use Rattle.chart.proofs.Spanning.{rule_small, next_small, span_more}
use Rattle.chart.proofs.Starting.{words_held}

-- a test that passes says yes
pub passed_test : (b : Bool) → T b → b ≡ true
passed_test true h = refl
passed_test false h = absurd h

-- no part is known
pub none_known : (X i : ℕ) → has (parts_at (record { sets = replicate 100 (record { mask = 0 }) }) i) X ≡ false
none_known X i = ⊎_elim
    (λ l. ap (λ (x : SymbolSet). has x X) (get_or-replicate 100 i (record { mask = 0 }) (record { mask = 0 }) l) ∙ holds_none X)
    (λ l. ap (λ (x : SymbolSet). has x X) (get_or_past (replicate 100 (record { mask = 0 })) i (record { mask = 0 }) (omega (arith, length-replicate 100 empty))) ∙ holds_none X)
    (cases_lt i 100)
  where
    empty : SymbolSet
    empty = record { mask = 0 }

module _ (s : Settled) (w : Matched) (ready : Ready s w) where
  -- the new word is the last
  pub last_word : get_or (words_with s w) s.held blank ≡ matching w
  last_word = get_or_at (words_of s) (matching w) [] blank s.held (words_held s ready.long)

  -- a key that the new word matches spans
  pub key_spans : (c : ℕ) → Key (grammar_of s) c → has w.keys c ≡ true → SpansHere s w c s.held
  key_spans c k h = word c s.held k (T_from_true _ (ap (λ (v : Word). v c) last_word ∙ h))

  -- a key is done with, or those before it still are
  pub keys_next : {a b : Board} (n m : ℕ) → Extends a b → ((c : ℕ) → 33 ≤ c → c < n → KeyDone s w a c) → m ≡ suc n → KeyDone s w b n → (c : ℕ) → 33 ≤ c → c < m → KeyDone s w b c
  keys_next {a} {b} n m e before more here c low high h = ⊎_elim
      (λ same. subst (λ x. SpanDone s w b x s.held) (sym same) (here (subst (λ x. has w.keys x ≡ true) same h)))
      (λ ne. span_more s w ready {a = a} {b = b} c s.held (omega arith) e (before c low (omega arith) h))
      (cases_eq c n)

  -- what follows from the keys stays entered
  pub keys_more : {a b : Board} → Extends a b → KeysDone s w a → KeysDone s w b
  keys_more {a} {b} e done c k h = span_more s w ready {a = a} {b = b} c s.held (omega arith) e (done c k h)

  -- what follows from a part stays entered
  pub parts_more : {a b : Board} (p : Parts) → Extends a b → PartsDone s w a p → PartsDone s w b p
  parts_more {a} {b} p e done X i l h = span_more s w ready {a = a} {b = b} X i l e (done X i l h)

  -- what stands at a place of the new column is an item that ends at the new word
  pub column_held : (b : Board) (at : ℕ) (t : Item) → Filling s w b → used_of s ≤ at → at < b.top → t ≡ at_place b at → Held (grammar_of s) (words_with s w) t.rule t.done t.start (suc s.held)
  column_held b at t was low high is = held_at s w t (at_place b at) (suc s.held) is (was.column at low high) (was.items at high)

  -- a finished item of the new column: its left side spans
  pub item_spans : (t : Item) (X : ℕ) → X ≡ left (grammar_of s) t.rule → Held (grammar_of s) (words_with s w) t.rule t.done t.start (suc s.held) → t.done ≡ size (grammar_of s) t.rule → SpansHere s w X t.start
  item_spans t X is h e = subst (λ Y. SpansHere s w Y t.start) (sym is) (finished t.rule t.start (suc s.held) (subst (λ d. Held (grammar_of s) (words_with s w) t.rule d t.start (suc s.held)) e h))

  module _ (b : Board) (was : Filling s w b) (keys : KeysDone s w b) (parts : Parts) (done : PartsDone s w b parts) (followed : (q : ℕ) → used_of s ≤ q → q < b.top → Followed s w parts (at_place b q)) where
    -- all that follows from any symbol that spans to the new column is entered
    span_settled : (X j : ℕ) → SpansTo (grammar_of s) (words_with s w) (suc s.held) (λ r d i. Standing b (used_of s) b.top (entry r d i (suc s.held))) X j → SpanDone s w b X j
    span_settled _ _ (SpansTo.word c j e key t) =
        let here : s.held ≡ j = omega arith in
        let passed = passed_test _ (subst (λ x. T (get_or (words_with s w) x blank c)) (sym here) t) in
        subst (SpanDone s w b c) here (keys c key (sym (ap (λ (v : Word). v c) last_word) ∙ passed))
    span_settled _ _ (SpansTo.finished r j x) =
        let held = subst (λ (t : Item). Held (grammar_of s) (words_with s w) t.rule t.done t.start t.end) x.is (was.items x.place x.high) in
        done (left (grammar_of s) r) j (held_start s w ready r _ j _ held) (subst (λ (t : Item). Followed s w parts t) x.is (followed x.place x.low x.high) refl)

    closed : Closed (grammar_of s) (words_with s w) (suc s.held) (λ r d i. Standing b (used_of s) b.top (entry r d i (suc s.held)))
    closed = record {
      begin = λ r i l n wanted spans. was.stands r 1 i (rule_small s w ready r i n (omega arith)) (omega arith) ((span_settled _ _ spans).begun r n refl wanted);
      advance = λ r d i j l h u spans. was.stands r (suc d) i (next_small s w ready r d i j h u) (held_start s w ready r d i j h) ((span_settled _ _ spans).advanced r d i h u refl);
    }

    pub all_stand : AllStand s w b
    all_stand r d i h = held_least (grammar_of s) (words_with s w) (plain_of s).some_symbols (suc s.held) _ closed r d i (suc s.held) h refl

  -- a finished item is followed up by all that its left side brings
  module _ (b c : Board) (old new : Parts) (t : Item) (X : ℕ) (small : t.start < 100) (is : X ≡ left (grammar_of s) t.rule) where
    pub followed_up : Extends b c → PartsDone s w b old → SpanDone s w c X t.start → symbolic X ≡ true
        → ((Y : ℕ) → has (parts_at new t.start) Y ≡ (is_symbol X Y || has (parts_at old t.start) Y)) → ((i : ℕ) → (i ≡ t.start → ⊥) → parts_at new i ≡ parts_at old i) → FollowedUp s w c old new t
    followed_up e done span known here others = record { done = all; kept = kept; followed = λ f. subst (λ Y. has (parts_at new t.start) Y ≡ true) is (here X ∙ or_left (is_symbol X X) _ (and_from _ _ known (eq-eqb X X refl))) }
      where
        all : PartsDone s w c new
        all Y i l h = ⊎_elim
            (λ same. ⊎_elim
            (λ one. subst (λ x. SpanDone s w c Y x) (sym same) (subst (λ y. SpanDone s w c y t.start) (eqb-true X Y (and_parts (symbolic Y) _ one).1) span))
            (λ two. subst (λ x. SpanDone s w c Y x) (sym same) (parts_more {a = b} {b = c} old e done Y t.start (omega arith) two))
            (or_cases (is_symbol X Y) _ (sym (here Y) ∙ subst (λ x. has (parts_at new x) Y ≡ true) same h)))
            (λ ne. parts_more {a = b} {b = c} old e done Y i l (subst (λ (x : SymbolSet). has x Y ≡ true) (others i ne) h))
            (cases_eq i t.start)

        kept : (Y i : ℕ) → has (parts_at old i) Y ≡ true → has (parts_at new i) Y ≡ true
        kept Y i h = ⊎_elim
            (λ same. subst (λ x. has (parts_at new x) Y ≡ true) (sym same) (here Y ∙ or_right (is_symbol X Y) _ (subst (λ x. has (parts_at old x) Y ≡ true) same h)))
            (λ ne. subst (λ (x : SymbolSet). has x Y ≡ true) (sym (others i ne)) h)
            (cases_eq i t.start)

  -- an item that needs no following up
  pub followed_none : (b : Board) (p : Parts) (t : Item) → PartsDone s w b p → Followed s w p t → FollowedUp s w b p p t
  followed_none b p t done followed = record { done = done; kept = λ X i h. h; followed = followed }
