-- Whether an item is among those of a column.
use Rattle.std.proofs.Common.{◌≡◌, Bool, true, false, ◌&&◌, IsTrue, ◌↔◌, List, map, eqb, refl, sym, ap, ◌∙◌, subst, arith}
use Rattle.std.specs.List.{IsAnyAnswer}
use Rattle.std.proofs.lemmas.Bool.{and_parts, eq-eqb, eqb-true, false≢true}
use Rattle.language.specs.Columns.{Among}
use Rattle.language.specs.Readings.{Item as Told}
use Rattle.chart.specs.Items.{blank_item, entry, told}
use Rattle.chart.specs.declared.items.Item.{Item}
use Rattle.language.proofs.Members.{among_map, among_get, made_at}

-- how items are compared
abbrev alike : Item → Item → Bool
alike a b = eqb a.rule b.rule && (eqb a.done b.done && (eqb a.start b.start && eqb a.end b.end))

alike_refl : (a : Item) → alike a a ≡ true
alike_refl a = rw (eq-eqb a.rule a.rule refl, eq-eqb a.done a.done refl, eq-eqb a.start a.start refl, eq-eqb a.end a.end refl) refl

alike_same : (a b : Item) → alike a b ≡ true → a ≡ b
alike_same a b e =
    let first = and_parts _ _ e in
    let second = and_parts _ _ first.1 in
    let third = and_parts _ _ second.1 in
    same (eqb-true _ _ first.0) (eqb-true _ _ second.0) (eqb-true _ _ third.0) (eqb-true _ _ third.1)
  where
    same : a.rule ≡ b.rule → a.done ≡ b.done → a.start ≡ b.start → a.end ≡ b.end → a ≡ b
    same e f h k = subst (λ r. a ≡ entry r b.done b.start b.end) e (subst (λ d. a ≡ entry a.rule d b.start b.end) f (subst (λ i. a ≡ entry a.rule a.done i b.end) h (subst (λ n. a ≡ entry a.rule a.done a.start n) k refl)))

pub found_in : (xs : List Item) (x : Item) (r : Bool) → IsAnyAnswer (λ y b. alike y x ≡ b) xs r → IsTrue r ↔ Among (told x) (map told xs)
found_in xs x true (k, l, h) = (λ _. subst (λ y. Among (told y) (map told xs)) (alike_same _ x (h blank_item)) (among_map told _ xs (among_get xs k blank_item l)), λ _. refl)
found_in xs x false none = (
  λ e. absurd (false≢true e),
  λ m.
      let (k, inside, made) = made_at told (told x) xs blank_item m in
      let is = ap (λ (t : Told). entry t.rule t.done t.start t.end) made in
      sym (none k blank_item (omega arith) inside) ∙ (ap (λ y. alike y x) is ∙ alike_refl x),
)
