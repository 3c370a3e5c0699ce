-- What is known of a book once its symbols, rules and keys are read one by one.
use Rattle.std.proofs.Common.{Result, Ok, Err, ◌≡◌, ℕ, ◌+◌, ◌-◌, ◌<◌, ◌≤◌, Bool, true, false, ◌⊎◌, List, map, length, get_or, Decides, MatchResult, sym, ap, ◌∙◌, subst, add_comm, arith}
use Rattle.std.proofs.Math.ListN.{get_or-map}
use Rattle.std.proofs.lemmas.List.{ext_get_or, get_or-take, map-id}
use Rattle.std.proofs.lemmas.Result.{MatchResult-weaker}
use Rattle.std.proofs.lemmas.Bool.Decides.{not_from_Decides}
use Rattle.language.specs.Book.{Grammar, Meaning, KeyForm as Form, norule, noform, rule, left, right, size, symbol, form, kind, spelling, Part, Key, Numbered}
use Rattle.language.specs.Sound.{RuleFits, Letter, FormFits}
use Rattle.language.proofs.Told.{rule_place, form_place}
use Rattle.rulebook.specs.Kinds.{kind_number}
use Rattle.rulebook.specs.declared.kinds.KeyKind.{KeyKind}
use Rattle.rulebook.specs.declared.kinds.KeyKind.TheVariants.{Full, Figure, Shortened}
use Rattle.soundbook.specs.Copies.{Counted, Made, FirstRefused, LengthFits}
use Rattle.soundbook.specs.Refusals.{RuleRefused, RulesRefused, KeysRefused}
use Rattle.soundbook.specs.Rows.{items_of, rule_of, form_of}
use Rattle.soundbook.specs.Tables.{meaning_of}
use Rattle.rulebook.specs.declared.faults.Fault.{Fault}
use Rattle.rulebook.specs.declared.faults.Fault.TheVariants.{UnknownSymbol, KeyForm}
use Rattle.soundbook.specs.declared.rows.KeyRow.{KeyRow}
use Rattle.soundbook.specs.declared.rows.RuleRow.{RuleRow}
use Rattle.soundbook.specs.declared.copies.Counts.{Counts}
use Rattle.soundbook.specs.declared.shorts.Short.{Short}
use Rattle.soundbook.proofs.Listing.{read_long}

-- a part or a key
abbrev pub Known : Grammar → ℕ → Type 0
Known g c = Part g c ⊎ Key g c

-- s is what the code read and tested, and x what the book has there
module _ {g : Grammar} {b : Bool} {s x : ℕ} where
  pub is_part : Decides b (Part g s) → b ≡ true → s ≡ x → Part g x
  is_part test passed is = subst (Part g) is (test.0 passed)

  pub not_part : Decides b (Part g s) → b ≡ false → s ≡ x → Part g x → ⊥
  not_part test failed is h = not_from_Decides b test failed (subst (Part g) (sym is) h)

-- items that are made one by one are a list where each that is made means what the list has there
module _ {X E : Type 0} {N n : ℕ} {Makes : ℕ → Result X E → Type 0} {past : X} {s : Short X N} (h : Made Makes past n s) where
  pub made_reads : {Y : Type 0} (read : X → Y) (ys : List Y) → n ≡ length ys → ((i : ℕ) (x : X) → i < n → Makes i (Ok x) → read x ≡ get_or ys i (read past)) → map read (items_of s) ≡ ys
  made_reads read ys long each = ext_get_or (read past) (map read (items_of s)) ys (read_long s read ∙ (h.long ∙ long))
      (λ i l. let inside : i < n = omega (arith, read_long s read, h.long) in
      get_or-map read (items_of s) i past ∙ (ap read (get_or-take s.len s.items i past (omega (arith, h.long))) ∙ each i _ inside (h.each i inside)))

  pub made_is : (ys : List X) → n ≡ length ys → ((i : ℕ) (x : X) → i < n → Makes i (Ok x) → x ≡ get_or ys i past) → items_of s ≡ ys
  made_is ys long each = sym (map-id (items_of s)) ∙ made_reads (λ x. x) ys long each

-- the first symbol that is refused, and the row of a rule whose symbols are read
module _ {Makes : ℕ → Result ℕ Fault → Type 0} {n : ℕ} (g : Grammar) (r : ℕ) where
  pub rule_refused : {f : Fault} → FirstRefused Makes n f → Part g (left g r) → n ≡ size g r → 1 ≤ n → n ≤ 6
      → ((i x : ℕ) → i < n → Makes i (Ok x) → Known g (symbol g r i))
      → ((i : ℕ) (h : Fault) → i < n → Makes i (Err h) → (h ≡ UnknownSymbol r (i + 1)) × (Known g (symbol g r i) → ⊥))
      → RuleRefused g r (rule g.rules r) f
  rule_refused h part long some few ok err =
      let no = err h.at _ h.inside h.refused in
      rw no.0 (RuleRefused.symbol h.at part (omega arith) (omega arith) (record { inside = omega arith; before = λ e l. let x = h.before e l in ok e x.0 (omega arith) x.1; unknown = no.1 }))

  pub rule_read : (w : RuleRow) → Made Makes 0 n w.body → ((i x : ℕ) → i < n → Makes i (Ok x) → (x ≡ symbol g r i) × Known g (symbol g r i)) → Part g (left g r) → w.left ≡ left g r → n ≡ size g r → 1 ≤ n → n ≤ 6 → (rule_of w ≡ rule g.rules r) × RuleFits g (rule g.rules r)
  rule_read w h ok part l long some few =
      let body = made_is h (right g r) long (λ d x b m. (ok d x b m).0) in (
        λ i. record { head = l i; body = body i },
        record {
          turns = part;
          some_symbols = omega arith;
          few_symbols = omega arith;
          symbols = λ d b. let inside : d < n = omega arith in (ok d _ inside (h.each d inside)).1;
        },
      )

-- a spelling of letters whose length goes with its kind
fits_by_kind : (k : KeyKind) (w : Form) → kind_number k ≡ w.kind → LengthFits k (length w.spelling) → ((i : ℕ) → i < length w.spelling → Letter (get_or w.spelling i 0)) → FormFits w
fits_by_kind Full w k fit each = FormFits.named (sym k) (record { low = fit.0; high = fit.1; letters = each })
fits_by_kind Figure w k fit each = FormFits.figure (sym k) fit
fits_by_kind Shortened w k fit each = FormFits.shortened (sym k) (record { low = fit.0; high = fit.1; letters = each })

-- the row of a key whose letters are read
pub key_read : {Makes : ℕ → Result ℕ Fault → Type 0} {n : ℕ} (fs : List Form) (c : ℕ) (w : KeyRow) → Made Makes 0 n w.spelling → ((i x : ℕ) → i < n → Makes i (Ok x) → (x ≡ get_or (spelling fs c) i 0) × Letter (get_or (spelling fs c) i 0)) → kind_number w.kind ≡ kind fs c → n ≡ length (spelling fs c) → LengthFits w.kind n → (form_of w ≡ form fs c) × FormFits (form fs c)
key_read {n = n} fs c w h ok k long fit =
    let letters = made_is h (spelling fs c) long (λ d x b m. (ok d x b m).0) in (
      λ i. record { kind = k i; spelling = letters i },
      fits_by_kind w.kind (form fs c) k (subst (LengthFits w.kind) long fit) (λ i b. let inside : i < n = omega arith in (ok i _ inside (h.each i inside)).1),
    )

-- what holds of the next n numbers from least holds at each of them
at_place : (P : ℕ → Type 0) (least n : ℕ) → ((i : ℕ) → i < n → P (least + i)) → (q : ℕ) → least ≤ q → q < least + n → P q
at_place P least n each q low high = let same : least + (q - least) ≡ q = omega arith in subst P same (each (q - least) (omega arith))

-- the rules are all read, or the first that does not fit is refused, and so are the keys
module _ {m : Meaning} {c : Counts} (k : Counted m c) where
  pub rules_read : {N : ℕ} (past : RuleRow) (Makes : ℕ → Result RuleRow Fault → Type 0) (r : Result (Short RuleRow N) Fault) → MatchResult r (Made Makes past c.rules) (FirstRefused Makes c.rules)
      → rule_of past ≡ norule
      → ((i : ℕ) (x : RuleRow) → i < c.rules → Makes i (Ok x) → (rule_of x ≡ rule m.grammar.rules (i + 1)) × RuleFits m.grammar (rule m.grammar.rules (i + 1)))
      → ((i : ℕ) (f : Fault) → i < c.rules → Makes i (Err f) → RuleRefused m.grammar (i + 1) (rule m.grammar.rules (i + 1)) f)
      → MatchResult r (λ s. (map rule_of (items_of s) ≡ m.grammar.rules) × ((q : ℕ) → Numbered m.grammar q → RuleFits m.grammar (rule m.grammar.rules q))) (RulesRefused m.grammar)
  rules_read past Makes r h none ok err = MatchResult-weaker r h
      (λ s f. (
        made_reads f rule_of m.grammar.rules k.rules (λ i x b e. (ok i x b e).0 ∙ (rule_place m.grammar.rules i ∙ ap (λ d. get_or m.grammar.rules i d) (sym none))),
        λ q n. fits c.rules (λ i b. (ok i _ b (f.each i b)).1) q n.low (omega (arith, n.high, k.rules)),
      ))
      (λ f h. record {
        at = h.at + 1;
        numbered = record { low = omega arith; high = omega (arith, k.rules, h.inside) };
        before = λ q l n. fits h.at (λ i b. let x = h.before i b in (ok i x.0 (omega (arith, h.inside)) x.1).1) q n.low (omega arith);
        refused = err h.at _ h.inside h.refused;
      })
    where
      fits : (n : ℕ) → ((i : ℕ) → i < n → RuleFits m.grammar (rule m.grammar.rules (i + 1))) → (q : ℕ) → 1 ≤ q → q < 1 + n → RuleFits m.grammar (rule m.grammar.rules q)
      fits n each = at_place (λ q. RuleFits m.grammar (rule m.grammar.rules q)) 1 n (λ i b. rw add_comm (each i b))

  pub keys_read : {N : ℕ} (past : KeyRow) (Makes : ℕ → Result KeyRow Fault → Type 0) (r : Result (Short KeyRow N) Fault) → MatchResult r (Made Makes past c.keys) (FirstRefused Makes c.keys)
      → form_of past ≡ noform
      → ((i : ℕ) (x : KeyRow) → i < c.keys → Makes i (Ok x) → (form_of x ≡ form m.forms (33 + i)) × FormFits (form m.forms (33 + i)))
      → ((i : ℕ) (f : Fault) → i < c.keys → Makes i (Err f) → (f ≡ KeyForm (33 + i)) × (FormFits (form m.forms (33 + i)) → ⊥))
      → MatchResult r (λ s. (map form_of (items_of s) ≡ m.forms) × ((q : ℕ) → Key m.grammar q → FormFits (form m.forms q))) (KeysRefused m)
  keys_read past Makes r h none ok err = MatchResult-weaker r h
      (λ s f. (
        made_reads f form_of m.forms k.forms (λ i x b e. (ok i x b e).0 ∙ (form_place m.forms i ∙ ap (λ d. get_or m.forms i d) (sym none))),
        λ q n. at_place (λ q. FormFits (form m.forms q)) 33 c.keys (λ i b. (ok i _ b (f.each i b)).1) q n.low (omega (arith, n.high, k.keys)),
      ))
      (λ f h. let no = err h.at f h.inside h.refused in record {
        at = 33 + h.at;
        named = no.0;
        key = record { low = omega arith; high = omega (arith, k.keys, h.inside) };
        before = λ q l n. at_place (λ q. FormFits (form m.forms q)) 33 h.at (λ i b. let x = h.before i b in (ok i x.0 (omega (arith, h.inside)) x.1).1) q n.low l;
        refused = no.1;
      })

  -- a table of the counts, the rules and the forms of a book means the same
  pub table_is : {R K : ℕ} (rs : Short RuleRow R) (ks : Short KeyRow K) → map rule_of (items_of rs) ≡ m.grammar.rules → map form_of (items_of ks) ≡ m.forms → meaning_of (record { parts = c.parts; start = c.start; rules = rs; keys = ks }) ≡ m
  unfolding meaning_of
  table_is rs ks rules forms =
      let keys : ks.len ≡ m.grammar.keys = sym (read_long ks form_of) ∙ (ap length forms ∙ (sym k.forms ∙ k.keys)) in
      λ i. record { grammar = record { parts = k.parts i; keys = keys i; start = k.start i; rules = rules i }; forms = forms i }
