-- Questions about a book that are decided.
use Rattle.std.proofs.Common.{◌≡◌, ℕ, zero, suc, ◌+◌, ◌<◌, ◌≤◌, ◌⊎◌, List, length, get_or, subst, inl, inr, ⊎_elim, arith}
use native.Mathlib.Decide.{map_dec, dec_le, ℕ_discrete}
use Rattle.std.proofs.lemmas.Bool.{cases_lt}
use Rattle.language.specs.Book.{Rule, Grammar, KeyForm, Part, Key, Numbered}
use Rattle.language.specs.Sound.{RuleFits, Letter, Lettered, FormFits}

-- two questions at once, and one of two
pub both_dec : {X Y : Type 0} → Dec X → Dec Y → Dec (X × Y)
both_dec (yes x) (yes y) = yes (x, y)
both_dec (yes x) (no h) = no (λ p. h p.1)
both_dec (no h) y = no (λ p. h p.0)

pub either_dec : {X Y : Type 0} → Dec X → Dec Y → Dec (X ⊎ Y)
either_dec (yes x) y = yes (inl x)
either_dec (no h) (yes y) = yes (inr y)
either_dec (no h) (no k) = no (⊎_elim h k)

-- a question about the numbers below n: of each of them, and of some
module _ (P : ℕ → Type 0) where
  each_more : (n : ℕ) → ((i : ℕ) → i < n → P i) × P n → (i : ℕ) → i < suc n → P i
  each_more n h i l = ⊎_elim (h.0 i) (λ k. let last : n ≡ i = omega arith in subst P last h.1) (cases_lt i n)

  some_cases : (n : ℕ) → (i : ℕ) × (i < suc n) × P i → P n ⊎ ((i : ℕ) × (i < n) × P i)
  some_cases n (i, l, p) = ⊎_elim (λ k. inr (i, k, p)) (λ k. let last : i ≡ n = omega arith in inl (subst P last p)) (cases_lt i n)

  some_more : (n : ℕ) → P n ⊎ ((i : ℕ) × (i < n) × P i) → (i : ℕ) × (i < suc n) × P i
  some_more n (inl p) = (n, omega arith, p)
  some_more n (inr (i, l, p)) = (i, omega arith, p)

  pub dec_each : ((i : ℕ) → Dec (P i)) → (n : ℕ) → Dec ((i : ℕ) → i < n → P i)
  dec_each dec zero = yes (λ i l. absurd (omega arith))
  dec_each dec (suc n) = map_dec (each_more n) (λ h. (λ i l. h i (omega arith), h n (omega arith))) (both_dec (dec_each dec n) (dec n))

  pub dec_some : ((i : ℕ) → Dec (P i)) → (n : ℕ) → Dec ((i : ℕ) × (i < n) × P i)
  dec_some dec zero = no (λ h. omega (arith, h.1))
  dec_some dec (suc n) = map_dec (some_more n) (some_cases n) (either_dec (dec n) (dec_some dec n))

-- parts, keys and rules
pub dec_part : (g : Grammar) (c : ℕ) → Dec (Part g c)
dec_part g c = map_dec (λ h. record { low = h.0; high = h.1 }) (λ h. (h.low, h.high)) (both_dec (dec_le 1 c) (dec_le c g.parts))

pub dec_key : (g : Grammar) (c : ℕ) → Dec (Key g c)
dec_key g c = map_dec (λ h. record { low = h.0; high = h.1 }) (λ h. (h.low, h.high)) (both_dec (dec_le 33 c) (dec_le c (32 + g.keys)))

pub dec_numbered : (g : Grammar) (r : ℕ) → Dec (Numbered g r)
dec_numbered g r = map_dec (λ h. record { low = h.0; high = h.1 }) (λ h. (h.low, h.high)) (both_dec (dec_le 1 r) (dec_le r (length g.rules)))

-- whether a rule is in form
pub dec_rule_fits : (g : Grammar) (w : Rule) → Dec (RuleFits g w)
dec_rule_fits g w =
    map_dec
    (λ h. record { turns = h.0; some_symbols = h.1.0; few_symbols = h.1.1.0; symbols = h.1.1.1 })
    (λ h. (h.turns, (h.some_symbols, (h.few_symbols, h.symbols))))
    (both_dec (dec_part g w.head) (both_dec (dec_le 1 (length w.body)) (both_dec (dec_le (length w.body) 6) symbols)))
  where
    symbols : Dec ((d : ℕ) → d < length w.body → Part g (get_or w.body d 0) ⊎ Key g (get_or w.body d 0))
    symbols = dec_each (λ d. Part g (get_or w.body d 0) ⊎ Key g (get_or w.body d 0)) (λ d. either_dec (dec_part g _) (dec_key g _)) (length w.body)

-- whether a byte is a letter, and whether a list of them is a spelling
dec_letter : (b : ℕ) → Dec (Letter b)
dec_letter b = map_dec to from (either_dec (both_dec (dec_le 97 b) (dec_le b 122)) (ℕ_discrete b 45))
  where
    to : ((97 ≤ b) × (b ≤ 122)) ⊎ (b ≡ 45) → Letter b
    to (inl h) = Letter.small h.0 h.1
    to (inr e) = Letter.hyphen e

    from : Letter b → ((97 ≤ b) × (b ≤ 122)) ⊎ (b ≡ 45)
    from (Letter.small low high) = inl (low, high)
    from (Letter.hyphen e) = inr e

dec_lettered : (least : ℕ) (s : List ℕ) → Dec (Lettered least s)
dec_lettered least s =
    map_dec
    (λ h. record { low = h.0; high = h.1.0; letters = h.1.1 })
    (λ h. (h.low, (h.high, h.letters)))
    (both_dec (dec_le least (length s)) (both_dec (dec_le (length s) 24) (dec_each (λ i. Letter (get_or s i 0)) (λ i. dec_letter _) (length s))))

-- whether a key's kind and spelling go together
pub dec_form_fits : (w : KeyForm) → Dec (FormFits w)
dec_form_fits w = map_dec to from (either_dec (of_kind 0 (dec_lettered 1 w.spelling)) (either_dec (of_kind 1 (ℕ_discrete (length w.spelling) 0)) (of_kind 2 (dec_lettered 3 w.spelling))))
  where
    Said : Type 0
    Said = ((w.kind ≡ 0) × Lettered 1 w.spelling) ⊎ (((w.kind ≡ 1) × (length w.spelling ≡ 0)) ⊎ ((w.kind ≡ 2) × Lettered 3 w.spelling))

    of_kind : {X : Type 0} (k : ℕ) → Dec X → Dec ((w.kind ≡ k) × X)
    of_kind k x = both_dec (ℕ_discrete w.kind k) x

    to : Said → FormFits w
    to (inl h) = FormFits.named h.0 h.1
    to (inr (inl h)) = FormFits.figure h.0 h.1
    to (inr (inr h)) = FormFits.shortened h.0 h.1

    from : FormFits w → Said
    from (FormFits.named e l) = inl (e, l)
    from (FormFits.figure e l) = inr (inl (e, l))
    from (FormFits.shortened e l) = inr (inr (e, l))
