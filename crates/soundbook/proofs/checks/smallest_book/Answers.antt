use Rattle.std.proofs.Common.{◌≡◌, [], ◌∷◌, map, codes, sym, ap, ◌∙◌, subst}
use Rattle.language.specs.Sound.{Sound}
use Rattle.soundbook.specs.Rows.{items_of, rule_of, form_of}
use Rattle.soundbook.specs.Sounds.{smallest}
use Rattle.soundbook.specs.Tables.{meaning_of}
use Rattle.soundbook.specs.declared.rows.KeyRow.{KeyRow}
use Rattle.soundbook.specs.declared.rows.RuleRow.{RuleRow}
use Rattle.soundbook.specs.declared.shorts.Short.{Short}
use Rattle.soundbook.proofs.Smallest.{smallest_sound}
use Rattle.soundbook.proofs.checks.smallest_book.Goals as goal

-- a table of one part, this one rule and this one key
smallest_is : {w : RuleRow} {k : KeyRow} (ws : Short RuleRow 128) (ks : Short KeyRow 32) → items_of ws ≡ w ∷ [] → ks.len ≡ 1 → items_of ks ≡ k ∷ [] → rule_of w ≡ record { head = 1; body = 33 ∷ [] } → form_of k ≡ record { kind = 0; spelling = codes "a" } → meaning_of (record { parts = 1; start = 1; rules = ws; keys = ks }) ≡ smallest
unfolding meaning_of
smallest_is ws ks one_rule long one_key is_rule is_key =
    let rules = ap (λ s. map rule_of s) one_rule ∙ ap (λ r. r ∷ []) is_rule in
    let forms = ap (λ s. map form_of s) one_key ∙ ap (λ f. f ∷ []) is_key in
    λ i. record { grammar = record { parts = 1; keys = long i; start = 1; rules = rules i }; forms = forms i }

pub invariant_of-result : goal.invariant_of-result
invariant_of-result c = record { sound = ∣ subst Sound (sym (smallest_is _ _ c.single.ensures.items c.single-2.ensures.len c.single-2.ensures.items c.smallest_rule.ensures c.smallest_key.ensures)) smallest_sound ∣₁ }

pub returns : goal.returns
returns c = smallest_is _ _ c.single.ensures.items c.single-2.ensures.len c.single-2.ensures.items c.smallest_rule.ensures c.smallest_key.ensures
