-- Which books are sound.
use Rattle.std.specs.Prelude.{◌≡◌, ℕ, ◌<◌, ◌≤◌, ◌⊎◌, List, length, slice_index}
use Rattle.language.specs.Book.{Rule, Grammar, KeyForm, Meaning, Part, Key, Numbered, rule, form}
use Rattle.language.specs.Closure.{Productive, UnitPath}

-- the counts of a book are in bounds
pub record CountsFit (g : Grammar) : Type 0 where
  pub some_parts : 1 ≤ g.parts
  pub few_parts : g.parts ≤ 32
  pub some_keys : 1 ≤ g.keys
  pub few_keys : g.keys ≤ 32
  pub start_part : Part g g.start
  pub some_rules : 1 ≤ length g.rules
  pub few_rules : length g.rules ≤ 128

-- a rule turns a part into 1 to 6 symbols of the book
pub record RuleFits (g : Grammar) (w : Rule) : Type 0 where
  pub turns : Part g w.head
  pub some_symbols : 1 ≤ length w.body
  pub few_symbols : length w.body ≤ 6
  pub symbols : (d : ℕ) → d < length w.body → Part g (slice_index w.body d) ⊎ Key g (slice_index w.body d)

-- a letter a to z, or a hyphen
pub data Letter (b : ℕ) : Type 0 where
  small : 97 ≤ b → b ≤ 122 → Letter b
  hyphen : b ≡ 45 → Letter b

-- a spelling of at least so many bytes and at most 24, all of them letters
pub record Lettered (least : ℕ) (s : List ℕ) : Type 0 where
  pub low : least ≤ length s
  pub high : length s ≤ 24
  pub letters : (i : ℕ) → i < length s → Letter (slice_index s i)

-- a key's kind and spelling go together
pub data FormFits (w : KeyForm) : Type 0 where
  named : w.kind ≡ 0 → Lettered 1 w.spelling → FormFits w
  figure : w.kind ≡ 1 → length w.spelling ≡ 0 → FormFits w
  shortened : w.kind ≡ 2 → Lettered 3 w.spelling → FormFits w

-- every count, rule and key of a book is in form
pub record WellFormed (m : Meaning) : Type 0 where
  pub counts : CountsFit m.grammar
  pub rules : (r : ℕ) → Numbered m.grammar r → RuleFits m.grammar (rule m.grammar.rules r)
  pub keys : (c : ℕ) → Key m.grammar c → FormFits (form m.forms c)

-- the whole of what the check asks: well formed, every part can be turned into keys alone, and none into itself alone
pub record Sound (m : Meaning) : Type 0 where
  pub formed : WellFormed m
  pub productive : (X : ℕ) → Part m.grammar X → Productive m.grammar X
  pub acyclic : (X : ℕ) → Part m.grammar X → UnitPath m.grammar X X → ⊥
