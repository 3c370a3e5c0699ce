-- The smallest book is sound.
use Rattle.std.proofs.Common.{◌≡◌, ℕ, [], ◌∷◌, get_or, refl, ap, subst, inr, arith}
use Rattle.language.specs.Book.{Grammar, Part, Key, Numbered, rule, symbol, form}
use Rattle.language.specs.Closure.{Productive, UnitPath}
use Rattle.language.specs.Sound.{RuleFits, Letter, FormFits, WellFormed, Sound}
use Rattle.soundbook.specs.Sounds.{smallest}

abbrev g : Grammar
g = smallest.grammar

one_rule : (r : ℕ) → Numbered g r → 1 ≡ r
one_rule r n = omega (arith, n.low, n.high)

one_key : (c : ℕ) → Key g c → 33 ≡ c
one_key c k = omega (arith, k.low, k.high)

one_part : (X : ℕ) → Part g X → 1 ≡ X
one_part X p = omega (arith, p.low, p.high)

the_key : Key g 33
the_key = record { low = omega arith; high = omega arith }

first : Numbered g 1
first = record { low = omega arith; high = omega arith }

rule_fits : RuleFits g (rule g.rules 1)
unfolding rule
rule_fits =
    record {
      turns = record { low = omega arith; high = omega arith };
      some_symbols = omega arith;
      few_symbols = omega arith;
      symbols = λ d l. let none : 0 ≡ d = omega arith in inr (subst (λ i. Key g (get_or (33 ∷ []) i 0)) none the_key);
    }

form_fits : FormFits (form smallest.forms 33)
unfolding form
form_fits =
    FormFits.named refl (record {
      low = omega arith;
      high = omega arith;
      letters = λ i l. let none : 0 ≡ i = omega arith in subst (λ k. Letter (get_or (97 ∷ []) k 0)) none (Letter.small (omega arith) (omega arith));
    })

formed : WellFormed smallest
formed =
    record {
      counts =
          record {
            some_parts = omega arith;
            few_parts = omega arith;
            some_keys = omega arith;
            few_keys = omega arith;
            start_part = record { low = omega arith; high = omega arith };
            some_rules = omega arith;
            few_rules = omega arith;
          };
      rules = λ r n. subst (λ q. RuleFits g (rule g.rules q)) (one_rule r n) rule_fits;
      keys = λ c k. subst (λ q. FormFits (form smallest.forms q)) (one_key c k) form_fits;
    }

part_productive : Productive g 1
unfolding rule
part_productive = Productive.part 1 first (λ d l. let none : 0 ≡ d = omega arith in subst (λ i. Productive g (get_or (33 ∷ []) i 0)) none (Productive.key 33 the_key))

-- the only rule ends at the key
unit_key : (X Y : ℕ) → UnitPath g X Y → 33 ≡ Y
unfolding rule
unit_key X Y (UnitPath.one r n e h) = ap (λ q. symbol g q 0) (one_rule r n)
unit_key X Y (UnitPath.more r n e h) = ap (λ q. symbol g q 0) (one_rule r n)

pub smallest_sound : Sound smallest
smallest_sound =
    record {
      formed = formed;
      productive = λ X p. subst (Productive g) (one_part X p) part_productive;
      acyclic = λ X p path. let key = unit_key X X path in let part = one_part X p in omega arith;
    }
