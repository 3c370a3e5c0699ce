-- A refused book is not sound, and it has one refusal.
use Rattle.std.proofs.Common.{◌≡◌, ℕ, ◌+◌, sym, refl, ap, ◌∙◌, subst, arith}
use Rattle.language.specs.Book.{Grammar, Meaning, Rule, rule}
use Rattle.language.specs.Sound.{RuleFits, WellFormed, Sound}
use Rattle.language.proofs.Numbers.{neither_lower}
use Rattle.soundbook.specs.Refusals.{SymbolRefused, RuleRefused, RulesRefused, KeysRefused, CopyRefused, Lowest, Refused, CheckRefuses}
use Rattle.rulebook.specs.declared.faults.Fault.{Fault}
use Rattle.rulebook.specs.declared.faults.Fault.TheVariants.{UnknownSymbol, KeyForm, Unproductive, UnitCycle}

lowest_one : (g : Grammar) (P : ℕ → Type 0) (p q : ℕ) → Lowest g P p → Lowest g P q → q ≡ p
lowest_one g P p q a b = neither_lower q p (λ l. b.fails (a.before q l b.part)) (λ l. a.fails (b.before p l a.part))

-- rule r, which is w
module _ (g : Grammar) (r : ℕ) (w : Rule) where
  place_one : (d e : ℕ) → SymbolRefused g w d → SymbolRefused g w e → e ≡ d
  place_one d e a b = neither_lower e d (λ l. b.unknown (a.before e l)) (λ l. a.unknown (b.before d l))

  -- a refused rule does not fit
  rule_unfit : (f : Fault) → RuleRefused g r w f → RuleFits g w → ⊥
  rule_unfit f (RuleRefused.left none) fits = none fits.turns
  rule_unfit f (RuleRefused.empty p e) fits = omega (arith, fits.some_symbols)
  rule_unfit f (RuleRefused.long p l) fits = omega (arith, fits.few_symbols)
  rule_unfit f (RuleRefused.symbol d p low high s) fits = s.unknown (fits.symbols d s.inside)

  -- a rule is refused for one reason
  rule_one : (f h : Fault) → RuleRefused g r w f → RuleRefused g r w h → h ≡ f
  rule_one f h (RuleRefused.left none) (RuleRefused.left other) = refl
  rule_one f h (RuleRefused.left none) (RuleRefused.empty p e) = absurd (none p)
  rule_one f h (RuleRefused.left none) (RuleRefused.long p l) = absurd (none p)
  rule_one f h (RuleRefused.left none) (RuleRefused.symbol d p low high s) = absurd (none p)
  rule_one f h (RuleRefused.empty p e) (RuleRefused.left none) = absurd (none p)
  rule_one f h (RuleRefused.empty p e) (RuleRefused.empty q i) = refl
  rule_one f h (RuleRefused.empty p e) (RuleRefused.long q l) = absurd (omega arith)
  rule_one f h (RuleRefused.empty p i) (RuleRefused.symbol e q low high s) = absurd (omega arith)
  rule_one f h (RuleRefused.long p l) (RuleRefused.left none) = absurd (none p)
  rule_one f h (RuleRefused.long p l) (RuleRefused.empty q e) = absurd (omega arith)
  rule_one f h (RuleRefused.long p l) (RuleRefused.long q i) = refl
  rule_one f h (RuleRefused.long p l) (RuleRefused.symbol e q low high s) = absurd (omega arith)
  rule_one f h (RuleRefused.symbol d p low high s) (RuleRefused.left none) = absurd (none p)
  rule_one f h (RuleRefused.symbol d p low high s) (RuleRefused.empty q e) = absurd (omega arith)
  rule_one f h (RuleRefused.symbol d p low high s) (RuleRefused.long q l) = absurd (omega arith)
  rule_one f h (RuleRefused.symbol d p low high s) (RuleRefused.symbol e q least most t) = ap (λ k. UnknownSymbol r (k + 1)) (place_one d e s t)

-- the first refused rule is one, and the first refused key
rules_one : (g : Grammar) (f h : Fault) → RulesRefused g f → RulesRefused g h → h ≡ f
rules_one g f h a b = rule_one g a.at (rule g.rules a.at) f h a.refused (subst (λ r. RuleRefused g r (rule g.rules r) h) same b.refused)
  where
    same : b.at ≡ a.at
    same = neither_lower b.at a.at
        (λ l. rule_unfit g b.at _ h b.refused (a.before b.at l b.numbered))
        (λ l. rule_unfit g a.at _ f a.refused (b.before a.at l a.numbered))

keys_one : (m : Meaning) (f h : Fault) → KeysRefused m f → KeysRefused m h → h ≡ f
keys_one m f h a b = b.named ∙ (ap KeyForm same ∙ sym a.named)
  where
    same : b.at ≡ a.at
    same = neither_lower b.at a.at (λ l. b.refused (a.before b.at l b.key)) (λ l. a.refused (b.before a.at l a.key))

module _ (m : Meaning) where
  copy_unformed : (f : Fault) → CopyRefused m f → WellFormed m → ⊥
  copy_unformed f (CopyRefused.counts none) formed = none formed.counts
  copy_unformed f (CopyRefused.rules fit a) formed = rule_unfit m.grammar a.at _ f a.refused (formed.rules a.at a.numbered)
  copy_unformed f (CopyRefused.keys fit each a) formed = a.refused (formed.keys a.at a.key)

  copy_one : (f h : Fault) → CopyRefused m f → CopyRefused m h → h ≡ f
  copy_one f h (CopyRefused.counts none) (CopyRefused.counts other) = refl
  copy_one f h (CopyRefused.counts none) (CopyRefused.rules fit b) = absurd (none fit)
  copy_one f h (CopyRefused.counts none) (CopyRefused.keys fit each b) = absurd (none fit)
  copy_one f h (CopyRefused.rules fit a) (CopyRefused.counts none) = absurd (none fit)
  copy_one f h (CopyRefused.rules fit a) (CopyRefused.rules other b) = rules_one m.grammar f h a b
  copy_one f h (CopyRefused.rules fit a) (CopyRefused.keys other each b) = absurd (rule_unfit m.grammar a.at _ f a.refused (each a.at a.numbered))
  copy_one f h (CopyRefused.keys fit each a) (CopyRefused.counts none) = absurd (none fit)
  copy_one f h (CopyRefused.keys fit each a) (CopyRefused.rules other b) = absurd (rule_unfit m.grammar b.at _ h b.refused (each b.at b.numbered))
  copy_one f h (CopyRefused.keys fit each a) (CopyRefused.keys other every b) = keys_one m f h a b

  refused_unsound : (f : Fault) → Refused m f → Sound m → ⊥
  refused_unsound f (Refused.copy a) sound = copy_unformed f a sound.formed
  refused_unsound f (Refused.unproductive formed a) sound = a.fails (sound.productive _ a.part)
  refused_unsound f (Refused.cyclic formed all a) sound = a.fails (sound.acyclic _ a.part)

  refused_one : (f h : Fault) → Refused m f → Refused m h → h ≡ f
  refused_one f h (Refused.copy a) (Refused.copy b) = copy_one f h a b
  refused_one f h (Refused.copy a) (Refused.unproductive formed b) = absurd (copy_unformed f a formed)
  refused_one f h (Refused.copy a) (Refused.cyclic formed all b) = absurd (copy_unformed f a formed)
  refused_one f h (Refused.unproductive formed a) (Refused.copy b) = absurd (copy_unformed h b formed)
  refused_one f h (Refused.unproductive formed a) (Refused.unproductive other b) = ap Unproductive (lowest_one m.grammar _ _ _ a b)
  refused_one f h (Refused.unproductive formed a) (Refused.cyclic other all b) = absurd (a.fails (all _ a.part))
  refused_one f h (Refused.cyclic formed all a) (Refused.copy b) = absurd (copy_unformed h b formed)
  refused_one f h (Refused.cyclic formed all a) (Refused.unproductive other b) = absurd (b.fails (all _ b.part))
  refused_one f h (Refused.cyclic formed all a) (Refused.cyclic other every b) = ap UnitCycle (lowest_one m.grammar _ _ _ a b)

  pub check_refuses : {f : Fault} → Refused m f → CheckRefuses m f
  check_refuses {f} a = record { first = a; unsound = refused_unsound f a; only = λ h. refused_one f h a }
