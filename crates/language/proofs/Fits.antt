-- What children in order say of their rule.
use Rattle.std.proofs.Common.{◌≡◌, ℕ, zero, suc, ◌<◌, ◌≤◌, List, [], ◌∷◌, ◌++◌, length, get_or, refl, arith}
use Rattle.language.specs.Book.{Grammar, Key, Numbered, size}
use Rattle.language.specs.Readings.{Children, none, key, part, yield, count, Fits}

-- the rule of children in order is a rule of the book
pub fits_numbered : (g : Grammar) (r : ℕ) (ks : Children) → Fits g r ks → Numbered g r
fits_numbered g r none f = f
fits_numbered g r (key ks c) f = fits_numbered g r ks f.0
fits_numbered g r (part ks s cs) f = fits_numbered g r ks f.0

-- children are no more than the rule's symbols
pub fits_count : (g : Grammar) (r : ℕ) (ks : Children) → Fits g r ks → count ks ≤ size g r
fits_count g r none f = omega arith
fits_count g r (key ks c) f = f.1
fits_count g r (part ks s cs) f = f.1

-- children of no symbol are none
pub no_children : (ks : Children) → count ks ≡ 0 → ks ≡ none
no_children none e = refl
no_children (key ks c) e = absurd (omega arith)
no_children (part ks s cs) e = absurd (omega arith)

-- a key of keys put together is a key of the first or of the second
append_keys : (g : Grammar) (p q : List ℕ) → ((n : ℕ) → n < length p → Key g (get_or p n 0)) → ((n : ℕ) → n < length q → Key g (get_or q n 0))
    → (n : ℕ) → n < length (p ++ q) → Key g (get_or (p ++ q) n 0)
append_keys g [] q h k n l = k n l
append_keys g (c ∷ p) q h k zero l = h 0 (omega arith)
append_keys g (c ∷ p) q h k (suc n) l = append_keys g p q (λ m b. h (suc m) (omega arith)) k n (omega arith)

single_key : (g : Grammar) (c : ℕ) → Key g c → (n : ℕ) → n < 1 → Key g (get_or (c ∷ []) n 0)
single_key g c h zero l = h
single_key g c h (suc n) l = absurd (omega arith)

-- children yield keys of the book alone
pub yield_keys : (g : Grammar) (r : ℕ) (ks : Children) → Fits g r ks → (n : ℕ) → n < length (yield ks) → Key g (get_or (yield ks) n 0)
yield_keys g r none f = λ n l. absurd (omega arith)
yield_keys g r (key ks c) f = append_keys g (yield ks) (c ∷ []) (yield_keys g r ks f.0) (single_key g c f.3)
yield_keys g r (part ks s cs) f = append_keys g (yield ks) (yield cs) (yield_keys g r ks f.0) (yield_keys g s cs f.3)
