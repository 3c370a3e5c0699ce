-- What rows of fixed memory mean.
use Rattle.std.specs.Prelude.{ℕ, List, take}
use Rattle.language.specs.Book.{Rule, KeyForm}
use Rattle.rulebook.specs.Kinds.{kind_number}
use Rattle.soundbook.specs.declared.shorts.Short.{Short}
use Rattle.soundbook.specs.declared.rows.RuleRow.{RuleRow}
use Rattle.soundbook.specs.declared.rows.KeyRow.{KeyRow}

-- the first items, as many as the length
abbrev pub items_of : {X : Type 0} {N : ℕ} → Short X N → List X
items_of s = take s.len s.items

-- the rule in a row
abbrev pub rule_of : RuleRow → Rule
rule_of w = record { head = w.left; body = items_of w.body }

-- the form in a row
abbrev pub form_of : KeyRow → KeyForm
form_of w = record { kind = kind_number w.kind; spelling = items_of w.spelling }
