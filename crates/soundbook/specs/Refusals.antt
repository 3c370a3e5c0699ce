-- Which question of the check is the first that is answered no.
use Rattle.std.specs.Prelude.{◌≡◌, ℕ, ◌+◌, ◌<◌, ◌≤◌, ◌⊎◌, length, slice_index}
use Rattle.language.specs.Book.{Grammar, Meaning, Rule, rule, form, Part, Key, Numbered}
use Rattle.language.specs.Closure.{Productive, UnitPath}
use Rattle.language.specs.Sound.{CountsFit, RuleFits, FormFits, WellFormed, Sound}
use Rattle.rulebook.specs.declared.faults.Fault.{Fault}
use Rattle.rulebook.specs.declared.faults.Fault.TheVariants.{Counts, LeftSide, EmptyRule, LongRule, UnknownSymbol, KeyForm, Unproductive, UnitCycle}

-- the symbol at place d of a right side is the first that is neither a part nor a key
pub record SymbolRefused (g : Grammar) (w : Rule) (d : ℕ) : Type 0 where
  pub inside : d < length w.body
  pub before : (e : ℕ) → e < d → Part g (slice_index w.body e) ⊎ Key g (slice_index w.body e)
  pub unknown : (Part g (slice_index w.body d) ⊎ Key g (slice_index w.body d)) → ⊥

-- rule r, which is w, is refused
pub data RuleRefused (g : Grammar) (r : ℕ) (w : Rule) : Fault → Type 0 where
  left : (Part g w.head → ⊥) → RuleRefused g r w (LeftSide r)
  empty : Part g w.head → length w.body ≡ 0 → RuleRefused g r w (EmptyRule r)
  long : Part g w.head → 6 < length w.body → RuleRefused g r w (LongRule r)
  symbol : (d : ℕ) → Part g w.head → 1 ≤ length w.body → length w.body ≤ 6 → SymbolRefused g w d → RuleRefused g r w (UnknownSymbol r (d + 1))

-- the rule at this number is the first that is refused
pub record RulesRefused (g : Grammar) (f : Fault) : Type 0 where
  pub at : ℕ
  pub numbered : Numbered g at
  pub before : (q : ℕ) → q < at → Numbered g q → RuleFits g (rule g.rules q)
  pub refused : RuleRefused g at (rule g.rules at) f

-- the key at this symbol number is the first whose kind and spelling do not go together
pub record KeysRefused (m : Meaning) (f : Fault) : Type 0 where
  pub at : ℕ
  pub named : f ≡ KeyForm at
  pub key : Key m.grammar at
  pub before : (c : ℕ) → c < at → Key m.grammar c → FormFits (form m.forms c)
  pub refused : FormFits (form m.forms at) → ⊥

-- the counts, a rule or a key is refused, in that order
pub data CopyRefused (m : Meaning) : Fault → Type 0 where
  counts : (CountsFit m.grammar → ⊥) → CopyRefused m Counts
  rules : {f : Fault} → CountsFit m.grammar → RulesRefused m.grammar f → CopyRefused m f
  keys : {f : Fault} → CountsFit m.grammar → ((r : ℕ) → Numbered m.grammar r → RuleFits m.grammar (rule m.grammar.rules r)) → KeysRefused m f → CopyRefused m f

-- p is the lowest part of which P does not hold
pub record Lowest (g : Grammar) (P : ℕ → Type 0) (p : ℕ) : Type 0 where
  pub part : Part g p
  pub before : (q : ℕ) → q < p → Part g q → P q
  pub fails : P p → ⊥

-- the first question of the check that is answered no: counts, rules, keys, then the parts that cannot be turned into keys alone, then those that are turned into themselves alone
pub data Refused (m : Meaning) : Fault → Type 0 where
  copy : {f : Fault} → CopyRefused m f → Refused m f
  unproductive : {p : ℕ} → WellFormed m → Lowest m.grammar (Productive m.grammar) p → Refused m (Unproductive p)
  cyclic : {p : ℕ} → WellFormed m → ((X : ℕ) → Part m.grammar X → Productive m.grammar X) → Lowest m.grammar (λ X. UnitPath m.grammar X X → ⊥) p → Refused m (UnitCycle p)

-- the check refuses the book with f: the book is not sound, and no other refusal fits
pub record CheckRefuses (m : Meaning) (f : Fault) : Type 0 where
  pub first : Refused m f
  pub unsound : Sound m → ⊥
  pub only : (h : Fault) → Refused m h → h ≡ f
