-- What a rule book means: a context-free grammar, and a kind and a spelling for each of its keys.
--
-- A part is a nonterminal, a key is a terminal. Parts are the symbols 1 to parts, keys the symbols 33 to 32 + keys.
-- Rules are numbered from 1; the places of a right side count from 0.
use Rattle.std.specs.Prelude.{ℕ, ◌+◌, ◌-◌, ◌≤◌, cond, List, [], ◌∷◌, map, length, nat_le, slice_index, slice_index_or}
use Rattle.std.specs.List.{range_with_len}

-- a rule: its left part, and the symbols of its right side
pub record Rule : Type 0 where
  pub head : ℕ
  pub body : List ℕ

-- the half of a book that says which programmes there are
pub record Grammar : Type 0 where
  pub parts : ℕ
  pub keys : ℕ
  pub start : ℕ
  pub rules : List Rule

-- how a key is written: kind 0 by its spelling, kind 1 by any figure, kind 2 by its spelling or a shortening of it
pub record KeyForm : Type 0 where
  pub kind : ℕ
  pub spelling : List ℕ

-- the whole meaning of a book; the forms are those of the keys 33, 34 and so on
pub record Meaning : Type 0 where
  pub grammar : Grammar
  pub forms : List KeyForm

-- symbol c is a part
pub record Part (g : Grammar) (c : ℕ) : Type 0 where
  pub low : 1 ≤ c
  pub high : c ≤ g.parts

-- symbol c is a key
pub record Key (g : Grammar) (c : ℕ) : Type 0 where
  pub low : 33 ≤ c
  pub high : c ≤ 32 + g.keys

-- there is a rule r
pub record Numbered (g : Grammar) (r : ℕ) : Type 0 where
  pub low : 1 ≤ r
  pub high : r ≤ length g.rules

-- what a question outside the book is answered from
abbrev pub norule : Rule
norule = record { head = 0; body = [] }

abbrev pub noform : KeyForm
noform = record { kind = 0; spelling = [] }

-- rule r, counted from 1
unfoldable pub rule : List Rule → ℕ → Rule
rule rs r = slice_index_or (norule ∷ rs) r norule

-- the left part of rule r
abbrev pub left : Grammar → ℕ → ℕ
left g r = (rule g.rules r).head

-- the right side of rule r
abbrev pub right : Grammar → ℕ → List ℕ
right g r = (rule g.rules r).body

-- how many symbols the right side of rule r has
abbrev pub size : Grammar → ℕ → ℕ
size g r = length (right g r)

-- the symbol of rule r at place d of its right side, counted from 0
abbrev pub symbol : Grammar → ℕ → ℕ → ℕ
symbol g r d = slice_index (right g r) d

-- the form of the key with symbol number c
unfoldable pub form : List KeyForm → ℕ → KeyForm
form fs c = cond (nat_le 33 c) (slice_index_or fs (c - 33) noform) noform

-- the kind of key c
abbrev pub kind : List KeyForm → ℕ → ℕ
kind fs c = (form fs c).kind

-- the spelling of key c
abbrev pub spelling : List KeyForm → ℕ → List ℕ
spelling fs c = (form fs c).spelling

-- a rule of n symbols, told by the symbol at each place
abbrev pub ruled : ℕ → ℕ → (ℕ → ℕ) → Rule
ruled h n at = record { head = h; body = map at (range_with_len 0 n) }

-- a book of n rules, told by the rule 1 + i and the form of the key 33 + i for each i from 0
abbrev pub told : (parts keys start n : ℕ) → (ℕ → Rule) → (ℕ → KeyForm) → Meaning
told parts keys start n rule_at form_at = record {
  grammar = record { parts = parts; keys = keys; start = start; rules = map rule_at (range_with_len 0 n) };
  forms = map form_at (range_with_len 0 keys);
}
