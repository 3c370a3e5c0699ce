-- Questions outside a book are answered 0.
use Rattle.std.proofs.Common.{ℕ, ◌+◌, ◌<◌, ◌≤◌, ◌⊎◌, length, get_or, ap, inl, inr, ⊎_elim, arith}
use Rattle.std.proofs.lemmas.List.{get_or_past}
use Rattle.std.proofs.lemmas.Bool.{cases_lt}
use Rattle.language.specs.Book.{Grammar, Numbered, right, spelling}
use Rattle.language.specs.Outside.{OutsideTheorem}
use Rattle.language.proofs.Told.{rule_past, form_past}

-- the number of a rule that is not there
not_numbered : (g : Grammar) (r : ℕ) → (Numbered g r → ⊥) → (r < 1) ⊎ (1 + length g.rules ≤ r)
not_numbered g r none = ⊎_elim
    (λ l. inl l)
    (λ l. inr (⊎_elim (λ h. absurd (none (record { low = l; high = omega arith }))) (λ h. h) (cases_lt r (1 + length g.rules))))
    (cases_lt r 1)

pub outside_theorem : OutsideTheorem
outside_theorem m = record {
  rules = λ r none.
      let blank = rule_past m.grammar.rules r (not_numbered m.grammar r none) in
      (ap (λ w. w.head) blank, ap (λ w. length w.body) blank, λ d. ap (λ w. get_or w.body d 0) blank);
  symbols = λ r d. get_or_past (right m.grammar r) d 0;
  keys = λ c h. let blank = form_past m.forms c h in (ap (λ w. w.kind) blank, ap (λ w. length w.spelling) blank);
  bytes = λ c i. get_or_past (spelling m.forms c) i 0;
}
