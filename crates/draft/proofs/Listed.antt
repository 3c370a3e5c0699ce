-- The numbers that a test says passes to, as a list in rising order; and whether a test says passes to some element of a list.
use Rattle.std.proofs.Common.{◌≡◌, ℕ, zero, suc, ◌+◌, ◌<◌, ◌≤◌, Bool, ◌||◌, IsTrue, List, [], ◌∷◌, sym, refl, ap, ◌∙◌, inl, inr, ⊎_elim, arith}
use Rattle.std.specs.List.{list_any, range_with_len, filter}
use Rattle.std.proofs.lemmas.Bool.{cases_Bool, cases_lt, cond_both, false≢true}
use Rattle.language.specs.Columns.{Among, Apart}

module _ (p : ℕ → Bool) where
  -- the numbers from a on, n in all, that the test says passes to
  abbrev pub passed : ℕ → ℕ → List ℕ
  passed a n = filter p (range_with_len a n)

  pub passed_are : (a n c : ℕ) → Among c (passed a n) → (a ≤ c) × (c < a + n) × IsTrue (p c)
  passed_are a zero c m = absurd m
  passed_are a (suc n) c m =
      let later : Among c (passed (a + 1) n) → (a ≤ c) × (c < a + suc n) × IsTrue (p c) =
      λ among. let known = passed_are (a + 1) n c among in (omega (arith, known.0), omega (arith, known.1), known.2) in
      cond_both (p a) _ (passed (a + 1) n)
      (λ xs. Among c xs → (a ≤ c) × (c < a + suc n) × IsTrue (p c))
      (λ here. ⊎_elim (λ e. (omega (arith, e), omega (arith, e), ap p e ∙ here)) later)
      (λ no. later)
      m

  pub passed_all : (a n c : ℕ) → a ≤ c → c < a + n → IsTrue (p c) → Among c (passed a n)
  passed_all a zero c low high passes = absurd (omega (arith, low, high))
  passed_all a (suc n) c low high passes =
      let later : a < c → Among c (passed (a + 1) n) = λ l. passed_all (a + 1) n c (omega (arith, l)) (omega (arith, high)) passes in
      let same : c ≤ a → a ≡ c = λ h. omega (arith, low, h) in
      cond_both (p a) _ (passed (a + 1) n) (Among c)
      (λ first. ⊎_elim (λ l. inr (later l)) (λ h. inl (sym (same h))) (cases_lt a c))
      (λ no. ⊎_elim later (λ h. absurd (false≢true (sym no ∙ (ap p (same h) ∙ passes)))) (cases_lt a c))

  pub passed_apart : (a n : ℕ) → Apart (passed a n)
  passed_apart a zero = tt
  passed_apart a (suc n) =
      cond_both (p a) _ (passed (a + 1) n) Apart
      (λ here. (λ m. let known = passed_are (a + 1) n a m in absurd (omega (arith, known.0)), passed_apart (a + 1) n))
      (λ no. passed_apart (a + 1) n)

-- a test says passes to some element exactly where it stands in the list
pub any_among : {A : Type 0} (p : A → Bool) (xs : List A) → IsTrue (list_any p xs) → (x : A) × Among x xs × IsTrue (p x)
any_among p [] passes = absurd (false≢true passes)
any_among p (y ∷ xs) passes = ⊎_elim
    (λ here. (y, inl refl, here))
    (λ no. let (x, among, is) = any_among p xs (sym (ap (λ b. b || list_any p xs) no) ∙ passes) in (x, inr among, is))
    (cases_Bool (p y))

pub among_any : {A : Type 0} (p : A → Bool) (xs : List A) (x : A) → Among x xs → IsTrue (p x) → IsTrue (list_any p xs)
among_any p [] x m passes = absurd m
among_any p (y ∷ xs) x (inl e) passes = ap (λ b. b || list_any p xs) (sym (ap p e) ∙ passes)
among_any p (y ∷ xs) x (inr m) passes = ⊎_elim
    (λ here. ap (λ b. b || list_any p xs) here)
    (λ no. ap (λ b. b || list_any p xs) no ∙ among_any p xs x m passes)
    (cases_Bool (p y))
