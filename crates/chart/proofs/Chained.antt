-- The rules by the symbol at one place, linked one after another.
use Rattle.std.proofs.Common.{◌≡◌, ℕ, suc, ◌<◌, ◌≤◌, length, get_or, set, sym, ap, ◌∙◌, subst, ⊎_elim, arith}
use Rattle.std.proofs.lemmas.List.{get_or-set_same, get_or-set_other}
use Rattle.std.proofs.lemmas.Bool.{cases_eq}
use Rattle.language.specs.Book.{Grammar, symbol}
use Rattle.chart.specs.Indexes.{LastBelow, ChainOf}
use Rattle.chart.specs.declared.indexes.Chains.{Chains}

module _ (g : Grammar) (d : ℕ) where
  -- before the first rule there is none
  pub no_chains : (c : Chains) → ((X : ℕ) → X ≤ 64 → get_or c.lasts X 0 ≡ 0) → ChainOf g d 1 c
  no_chains c zeros = record {
    last = λ X h. let e = zeros X h in record { below = omega arith; here = λ l. absurd (omega arith); none = λ p l k b. omega (arith, e) };
    before = λ r l h. absurd (omega arith);
  }

  module _ (n : ℕ) (c : Chains) (few : n ≤ 128) (small : symbol g n d ≤ 64) (lasts_long : length c.lasts ≡ 65) (befores_long : length c.befores ≡ 129) (was : ChainOf g d n c) (some : 1 ≤ n) where
    -- the symbol of rule n at the place
    abbrev its : ℕ
    its = symbol g n d

    abbrev linked : Chains
    linked = record { lasts = set c.lasts its n; befores = set c.befores n (get_or c.lasts its 0) }

    last_linked : (X : ℕ) → X ≤ 64 → LastBelow g d X (suc n) (get_or (set c.lasts its n) X 0)
    last_linked X h = ⊎_elim same other (cases_eq X its)
      where
        same : X ≡ its → LastBelow g d X (suc n) (get_or (set c.lasts its n) X 0)
        same e =
            let here : its < length c.lasts = omega arith in
            let read : n ≡ get_or (set c.lasts its n) X 0 = sym (ap (λ j. get_or (set c.lasts its n) j 0) e ∙ get_or-set_same c.lasts its n 0 here) in
            subst (LastBelow g d X (suc n)) read (record { below = omega arith; here = λ l. sym e; none = λ p l k b. omega arith })

        other : (X ≡ its → ⊥) → LastBelow g d X (suc n) (get_or (set c.lasts its n) X 0)
        other ne =
            let old = was.last X h in
            subst (LastBelow g d X (suc n)) (sym (get_or-set_other c.lasts its X n 0 ne)) (record {
              below = omega (arith, old.below);
              here = old.here;
              none = λ p l k b. ⊎_elim (λ e. ne (sym b ∙ ap (λ q. symbol g q d) e)) (λ a. old.none p l (omega arith) b) (cases_eq p n);
            })

    before_linked : (r : ℕ) → 1 ≤ r → r < suc n → LastBelow g d (symbol g r d) r (get_or (set c.befores n (get_or c.lasts its 0)) r 0)
    before_linked r l h = ⊎_elim same other (cases_eq r n)
      where
        same : r ≡ n → LastBelow g d (symbol g r d) r (get_or (set c.befores n (get_or c.lasts its 0)) r 0)
        same e =
            let here : n < length c.befores = omega arith in
            let read : get_or c.lasts its 0 ≡ get_or (set c.befores n (get_or c.lasts its 0)) n 0 = sym (get_or-set_same c.befores n (get_or c.lasts its 0) 0 here) in
            subst (λ q. LastBelow g d (symbol g q d) q (get_or (set c.befores n (get_or c.lasts its 0)) q 0)) (sym e) (subst (LastBelow g d its n) read (was.last its small))

        other : (r ≡ n → ⊥) → LastBelow g d (symbol g r d) r (get_or (set c.befores n (get_or c.lasts its 0)) r 0)
        other ne = subst (LastBelow g d (symbol g r d) r) (sym (get_or-set_other c.befores n r (get_or c.lasts its 0) 0 ne)) (was.before r l (omega arith))

    chain_linked : ChainOf g d (suc n) linked
    chain_linked = record { last = last_linked; before = before_linked }

    -- the same, where the code names that symbol, the place of the rule and the next rule
    pub linked_at : (f q m : ℕ) → f ≡ its → q ≡ n → m ≡ suc n → ChainOf g d m (record { lasts = set c.lasts f n; befores = set c.befores q (get_or c.lasts f 0) })
    linked_at f q m e h k =
        subst (λ x. ChainOf g d x (record { lasts = set c.lasts f n; befores = set c.befores q (get_or c.lasts f 0) })) (sym k)
        (subst (λ x. ChainOf g d (suc n) (record { lasts = set c.lasts f n; befores = set c.befores x (get_or c.lasts f 0) })) (sym h)
        (subst (λ x. ChainOf g d (suc n) (record { lasts = set c.lasts x n; befores = set c.befores n (get_or c.lasts x 0) })) (sym e) chain_linked))
