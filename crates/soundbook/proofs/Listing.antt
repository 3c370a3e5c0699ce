-- How long a short list is, and which rule and which key a table has at a number.
use Rattle.std.proofs.Common.{◌≡◌, ℕ, zero, suc, ◌-◌, Bool, true, false, cond, leb, List, map, length, get_or, sym, refl, ap, ◌∙◌, arith}
use Rattle.std.proofs.Math.ListN.{get_or-map}
use Rattle.std.proofs.lemmas.Bool.{cond-true, le-leb}
use Rattle.std.proofs.lemmas.List.{length-map, length-take-le}
use Rattle.language.specs.Book.{rule, form, norule, noform}
use Rattle.soundbook.specs.Rows.{items_of, rule_of, form_of}
use Rattle.soundbook.specs.declared.shorts.Short.{Short}
use Rattle.soundbook.specs.declared.rows.RuleRow.{RuleRow}
use Rattle.soundbook.specs.declared.rows.KeyRow.{KeyRow}

module _ {X : Type 0} {N : ℕ} (s : Short X N) where
  pub items_long : length (items_of s) ≡ s.len
  items_long = length-take-le s.len s.items s.fits

  pub read_long : {Y : Type 0} (read : X → Y) → length (map read (items_of s)) ≡ s.len
  read_long read = length-map (items_of s) read ∙ items_long

-- what a row means is the item of the meanings, and a blank row means what stands outside a book
pub rule_numbered : (ws : List RuleRow) (blank : RuleRow) (r : ℕ) → rule_of blank ≡ norule → rule_of (cond (leb 1 r) (get_or ws (r - 1) blank) blank) ≡ rule (map rule_of ws) r
unfolding rule
rule_numbered ws blank zero none = none
rule_numbered ws blank (suc r) none =
    let same : suc r - 1 ≡ r = omega arith in
    ap rule_of (cond-true (leb 1 (suc r)) _ blank (le-leb 1 (suc r) (omega arith)) ∙ ap (λ i. get_or ws i blank) same)
    ∙ (sym (get_or-map rule_of ws r blank) ∙ ap (λ d. get_or (map rule_of ws) r d) none)

pub form_numbered : (ws : List KeyRow) (blank : KeyRow) (c : ℕ) → form_of blank ≡ noform → form_of (cond (leb 33 c) (get_or ws (c - 33) blank) blank) ≡ form (map form_of ws) c
unfolding form
form_numbered ws blank c none =
    either (leb 33 c) _ ∙ ap (λ w. cond (leb 33 c) w noform) (sym (get_or-map form_of ws (c - 33) blank) ∙ ap (λ d. get_or (map form_of ws) (c - 33) d) none)
  where
    either : (b : Bool) (w : KeyRow) → form_of (cond b w blank) ≡ cond b (form_of w) noform
    either true w = refl
    either false w = none
