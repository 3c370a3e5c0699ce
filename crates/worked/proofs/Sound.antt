-- Tests that compute whether a small book is sound, and what they show.
use Rattle.std.proofs.Common.{◌≡◌, ℕ, zero, suc, ◌+◌, ◌-◌, ◌<◌, ◌≤◌, Bool, true, cond, not, ◌&&◌, ◌||◌, eqb, leb, ◌⊎◌, List, [], ◌∷◌, length, get_or, sym, subst, inl, inr, ⊎_elim, arith}
use Rattle.std.proofs.lemmas.Bool.{and_parts, or_cases, or_left, or_right, and_from, eqb-true, eq-eqb, leb-true, cases_Bool, cases_order, cond-true, cond-false, not-true, both_ways}
use Rattle.language.specs.Book.{Rule, Grammar, KeyForm, Meaning, Part, Key, Numbered, rule, form, left, right, size, symbol}
use Rattle.language.specs.Sound.{CountsFit, RuleFits, Letter, Lettered, FormFits, WellFormed, Sound}
use Rattle.language.specs.Closure.{Productive, UnitPath}
use Rattle.language.specs.Machine.{is_key}
use Rattle.language.specs.Columns.{Among}
use Rattle.worked.proofs.Check.{every, has, has_among}
use Rattle.language.proofs.Tests.{key_test}
use Rattle.worked.proofs.Closed.{all_below, below_at, implies, implied}

unfoldable pub is_part : Grammar → ℕ → Bool
is_part g c = leb 1 c && leb c g.parts

part_test : (g : Grammar) (c : ℕ) → is_part g c ≡ true → Part g c
unfolding is_part
part_test g c h = let p = and_parts _ _ h in record { low = leb-true 1 c p.0; high = leb-true c g.parts p.1 }

every_at : (f : ℕ → Bool) (xs : List ℕ) (d : ℕ) → every f xs ≡ true → d < length xs → f (get_or xs d 0) ≡ true
unfolding every
every_at f [] d h l = absurd (omega arith)
every_at f (x ∷ xs) zero h l = (and_parts (f x) (every f xs) h).0
every_at f (x ∷ xs) (suc d) h l = every_at f xs d (and_parts (f x) (every f xs) h).1 (omega arith)

unfoldable pub known : Grammar → ℕ → Bool
known g c = is_part g c || is_key g c

known_test : (g : Grammar) (c : ℕ) → known g c ≡ true → Part g c ⊎ Key g c
unfolding known
known_test g c h = ⊎_elim (λ e. inl (part_test g c e)) (λ e. inr (key_test g c e)) (or_cases (is_part g c) (is_key g c) h)

unfoldable pub rule_fits : Grammar → Rule → Bool
rule_fits g w = is_part g w.head && (leb 1 (length w.body) && (leb (length w.body) 6 && every (known g) w.body))

rule_fits_test : (g : Grammar) (w : Rule) → rule_fits g w ≡ true → RuleFits g w
unfolding rule_fits
rule_fits_test g w h =
    let p = and_parts (is_part g w.head) _ h in
    let q = and_parts (leb 1 (length w.body)) _ p.1 in
    let r = and_parts (leb (length w.body) 6) _ q.1 in
    record {
      turns = part_test g w.head p.0;
      some_symbols = leb-true 1 (length w.body) q.0;
      few_symbols = leb-true (length w.body) 6 r.0;
      symbols = λ d l. known_test g (get_or w.body d 0) (every_at (known g) w.body d r.1 l);
    }

unfoldable pub letter : ℕ → Bool
letter b = (leb 97 b && leb b 122) || eqb b 45

letter_test : (b : ℕ) → letter b ≡ true → Letter b
unfolding letter
letter_test b h = ⊎_elim
    (λ e. let p = and_parts (leb 97 b) (leb b 122) e in Letter.small (leb-true 97 b p.0) (leb-true b 122 p.1))
    (λ e. Letter.hyphen (eqb-true b 45 e))
    (or_cases (leb 97 b && leb b 122) (eqb b 45) h)

unfoldable pub spelled : ℕ → List ℕ → Bool
spelled least s = leb least (length s) && (leb (length s) 24 && every letter s)

spelled_test : (least : ℕ) (s : List ℕ) → spelled least s ≡ true → Lettered least s
unfolding spelled
spelled_test least s h =
    let p = and_parts (leb least (length s)) _ h in
    let q = and_parts (leb (length s) 24) (every letter s) p.1 in
    record { low = leb-true least (length s) p.0; high = leb-true (length s) 24 q.0; letters = λ i l. letter_test (get_or s i 0) (every_at letter s i q.1 l) }

-- the kinds of the worked books: by spelling, or a figure
unfoldable pub form_fits : KeyForm → Bool
form_fits w = (eqb w.kind 0 && spelled 1 w.spelling) || (eqb w.kind 1 && eqb (length w.spelling) 0)

form_fits_test : (w : KeyForm) → form_fits w ≡ true → FormFits w
unfolding form_fits
form_fits_test w h = ⊎_elim
    (λ e. let p = and_parts (eqb w.kind 0) _ e in FormFits.named (eqb-true _ _ p.0) (spelled_test 1 w.spelling p.1))
    (λ e. let p = and_parts (eqb w.kind 1) _ e in FormFits.figure (eqb-true _ _ p.0) (eqb-true _ _ p.1))
    (or_cases (eqb w.kind 0 && spelled 1 w.spelling) _ h)

unfoldable pub counts_fit : Grammar → Bool
counts_fit g = (leb 1 g.parts && leb g.parts 32) && ((leb 1 g.keys && leb g.keys 32) && (is_part g g.start && (leb 1 (length g.rules) && leb (length g.rules) 128)))

counts_fit_test : (g : Grammar) → counts_fit g ≡ true → CountsFit g
unfolding counts_fit
counts_fit_test g h =
    let p = and_parts (leb 1 g.parts && leb g.parts 32) _ h in
    let p' = and_parts (leb 1 g.parts) (leb g.parts 32) p.0 in
    let q = and_parts (leb 1 g.keys && leb g.keys 32) _ p.1 in
    let q' = and_parts (leb 1 g.keys) (leb g.keys 32) q.0 in
    let r = and_parts (is_part g g.start) _ q.1 in
    let r' = and_parts (leb 1 (length g.rules)) (leb (length g.rules) 128) r.1 in
    record {
      some_parts = leb-true _ _ p'.0;
      few_parts = leb-true _ _ p'.1;
      some_keys = leb-true _ _ q'.0;
      few_keys = leb-true _ _ q'.1;
      start_part = part_test g g.start r.0;
      some_rules = leb-true _ _ r'.0;
      few_rules = leb-true _ _ r'.1;
    }

module _ (m : Meaning) where
  unfoldable pub rules_fit : Bool
  rules_fit = all_below (λ r. rule_fits m.grammar (rule m.grammar.rules (suc r))) (length m.grammar.rules)

  unfoldable pub forms_fit : Bool
  forms_fit = all_below (λ i. form_fits (form m.forms (33 + i))) m.grammar.keys

  unfoldable pub well_formed : Bool
  well_formed = counts_fit m.grammar && (rules_fit && forms_fit)

  rules_test : rules_fit ≡ true → (r : ℕ) → Numbered m.grammar r → RuleFits m.grammar (rule m.grammar.rules r)
  unfolding rules_fit
  rules_test h zero n = absurd (omega (arith, n.low))
  rules_test h (suc r) n = rule_fits_test m.grammar (rule m.grammar.rules (suc r)) (below_at (λ q. rule_fits m.grammar (rule m.grammar.rules (suc q))) (length m.grammar.rules) r h n.high)

  forms_test : forms_fit ≡ true → (c : ℕ) → Key m.grammar c → FormFits (form m.forms c)
  unfolding forms_fit
  forms_test h c k =
      let same : 33 + (c - 33) ≡ c = omega (arith, k.low) in
      subst (λ x. FormFits (form m.forms x)) same
      (form_fits_test (form m.forms (33 + (c - 33))) (below_at (λ i. form_fits (form m.forms (33 + i))) m.grammar.keys (c - 33) h (omega (arith, k.low, k.high))))

  pub well_formed_test : well_formed ≡ true → WellFormed m
  unfolding well_formed
  well_formed_test h =
      let p = and_parts (counts_fit m.grammar) _ h in
      let q = and_parts rules_fit forms_fit p.1 in
      record { counts = counts_fit_test m.grammar p.0; rules = rules_test q.0; keys = forms_test q.1 }

module _ (g : Grammar) where
  -- all symbols are keys or in the list
  unfoldable pub turned : List ℕ → List ℕ → Bool
  turned xs symbols = every (λ X. is_key g X || has X xs) symbols

  -- the list with the left side of each of the rules 1 to n that turns it into keys and parts of the list
  unfoldable pub produced : ℕ → List ℕ → List ℕ
  produced zero xs = xs
  produced (suc r) xs = cond (turned (produced r xs) (right g (suc r))) (left g (suc r) ∷ produced r xs) (produced r xs)

  -- the parts that are turned into keys alone: a sweep over the rules for each part
  unfoldable pub productives : ℕ → List ℕ
  productives zero = []
  productives (suc n) = produced (length g.rules) (productives n)

  turned_productive : (xs symbols : List ℕ) → ((X : ℕ) → Among X xs → Productive g X) → turned xs symbols ≡ true → (d : ℕ) → d < length symbols
      → Productive g (get_or symbols d 0)
  unfolding turned
  turned_productive xs symbols p h d l = ⊎_elim
      (λ e. Productive.key (get_or symbols d 0) (key_test g (get_or symbols d 0) e))
      (λ e. p (get_or symbols d 0) (has_among (get_or symbols d 0) xs e))
      (or_cases (is_key g (get_or symbols d 0)) (has (get_or symbols d 0) xs) (every_at (λ X. is_key g X || has X xs) symbols d h l))

  produced_productive : (n : ℕ) (xs : List ℕ) → n ≤ length g.rules → ((X : ℕ) → Among X xs → Productive g X) → (X : ℕ) → Among X (produced n xs) → Productive g X
  unfolding produced
  produced_productive zero xs l p X m = p X m
  produced_productive (suc r) xs l p X m =
      let before = produced_productive r xs (omega arith) p in
      ⊎_elim
      (λ e. added before e (subst (Among X) (cond-true _ (left g (suc r) ∷ produced r xs) (produced r xs) e) m))
      (λ e. before X (subst (Among X) (cond-false _ (left g (suc r) ∷ produced r xs) (produced r xs) e) m))
      (cases_Bool (turned (produced r xs) (right g (suc r))))
    where
      added : ((Y : ℕ) → Among Y (produced r xs) → Productive g Y) → turned (produced r xs) (right g (suc r)) ≡ true
          → Among X (left g (suc r) ∷ produced r xs) → Productive g X
      added before e (inl same) = subst (Productive g) (sym same) (Productive.part (suc r) (record { low = omega arith; high = l }) (turned_productive (produced r xs) (right g (suc r)) before e))
      added before e (inr m) = before X m

  productives_are : (n X : ℕ) → Among X (productives n) → Productive g X
  unfolding productives
  productives_are zero X m = absurd m
  productives_are (suc n) X m = produced_productive (length g.rules) (productives n) (omega arith) (productives_are n) X m

  -- the part is turned into keys alone
  pub productive_test : (X : ℕ) → has X (productives g.parts) ≡ true → Productive g X
  productive_test X h = productives_are g.parts X (has_among X (productives g.parts) h)

  unfoldable pub all_productive : Bool
  all_productive = all_below (λ p. has (suc p) (productives g.parts)) g.parts

  pub all_productive_test : all_productive ≡ true → (X : ℕ) → Part g X → Productive g X
  unfolding all_productive
  all_productive_test h zero p = absurd (omega (arith, p.low))
  all_productive_test h (suc X) p = productive_test (suc X) (below_at (λ q. has (suc q) (productives g.parts)) g.parts X h p.high)

  -- the list holds what each of the rules 1 to n of length 1 turns X, or a member, into
  unfoldable pub unit_closed : ℕ → List ℕ → ℕ → Bool
  unit_closed X xs zero = true
  unit_closed X xs (suc r) = implies (eqb (size g (suc r)) 1 && (eqb (left g (suc r)) X || has (left g (suc r)) xs)) (has (symbol g (suc r) 0) xs) && unit_closed X xs r

  unit_rule : (X : ℕ) (xs : List ℕ) (n r : ℕ) → unit_closed X xs n ≡ true → 1 ≤ r → r ≤ n
      → (eqb (size g r) 1 && (eqb (left g r) X || has (left g r) xs)) ≡ true → has (symbol g r 0) xs ≡ true
  unfolding unit_closed
  unit_rule X xs zero r h l u f = absurd (omega arith)
  unit_rule X xs (suc n) r h l u f =
      let p = and_parts (implies (eqb (size g (suc n)) 1 && (eqb (left g (suc n)) X || has (left g (suc n)) xs)) (has (symbol g (suc n) 0) xs)) (unit_closed X xs n) h in
      ⊎_elim
      (λ e. subst (λ q. has (symbol g q 0) xs ≡ true) (sym e) (implied _ _ p.0 (subst (λ q. (eqb (size g q) 1 && (eqb (left g q) X || has (left g q) xs)) ≡ true) e f)))
      (⊎_elim (λ b. unit_rule X xs n r p.1 l (omega arith) f) (λ b. absurd (omega arith)))
      (cases_order r (suc n))

  unit_listed : (X : ℕ) (xs : List ℕ) → unit_closed X xs (length g.rules) ≡ true → (Y : ℕ) → UnitPath g X Y → has Y xs ≡ true
  unit_listed X xs h _ (UnitPath.one r n s e) =
      unit_rule X xs (length g.rules) r h n.low n.high (and_from (eqb (size g r) 1) _ (eq-eqb _ _ s) (or_left (eqb (left g r) X) (has (left g r) xs) (eq-eqb _ _ e)))
  unit_listed X xs h _ (UnitPath.more r n s path) =
      unit_rule X xs (length g.rules) r h n.low n.high (and_from (eqb (size g r) 1) _ (eq-eqb _ _ s) (or_right (eqb (left g r) X) (has (left g r) xs) (unit_listed X xs h (left g r) path)))

  -- no part is in its own list of what rules of length 1 turn it into
  unfoldable pub acyclic : List (List ℕ) → Bool
  acyclic units = all_below (λ p. unit_closed (suc p) (get_or units p []) (length g.rules) && not (has (suc p) (get_or units p []))) g.parts

  acyclic_test : (units : List (List ℕ)) → acyclic units ≡ true → (X : ℕ) → Part g X → UnitPath g X X → ⊥
  unfolding acyclic
  acyclic_test units h zero p path = absurd (omega (arith, p.low))
  acyclic_test units h (suc X) p path =
      let q = and_parts (unit_closed (suc X) (get_or units X []) (length g.rules)) _ (below_at (λ p. unit_closed (suc p) (get_or units p []) (length g.rules) && not (has (suc p) (get_or units p []))) g.parts X h p.high) in
      both_ways (has (suc X) (get_or units X [])) (not-true _ q.1) (unit_listed (suc X) (get_or units X []) q.0 (suc X) path)

pub sound_test : (m : Meaning) (units : List (List ℕ)) → well_formed m ≡ true → all_productive m.grammar ≡ true → acyclic m.grammar units ≡ true → Sound m
sound_test m units f p a = record { formed = well_formed_test m f; productive = all_productive_test m.grammar p; acyclic = acyclic_test m.grammar units a }
