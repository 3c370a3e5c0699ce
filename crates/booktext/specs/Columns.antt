-- Numbers in columns: right-justified, blanks before the first digit.
use Rattle.std.specs.Prelude.{◌≡◌, ℕ, zero, suc, ◌+◌, ◌-◌, ◌*◌, ◌/◌, ◌%◌, Bool, true, false, cond, ◌&&◌, List, [], ◌∷◌, ◌++◌, length, replicate, ◌==◌}

-- the column up to which the number is m: blank before the first digit
abbrev pub mark : ℕ → ℕ
mark m = cond (m == 0) 32 (48 + m % 10)

-- w columns that lead up to the number m
abbrev pub lead : ℕ → ℕ → List ℕ
lead zero m = []
lead (suc w) m = lead w (m / 10) ++ (mark m ∷ [])

-- the number v right-justified in w columns
abbrev pub shown : ℕ → ℕ → List ℕ
shown zero v = []
shown (suc w) v = lead w (v / 10) ++ ((48 + v % 10) ∷ [])

-- the same bytes
abbrev pub same : List ℕ → List ℕ → Bool
same [] [] = true
same [] (b ∷ ys) = false
same (a ∷ xs) [] = false
same (a ∷ xs) (b ∷ ys) = a == b && same xs ys

-- the number that columns write as digits after the number m, a blank counting as 0
abbrev pub weighed : ℕ → List ℕ → ℕ
weighed m [] = m
weighed m (c ∷ cs) = weighed (m * 10 + (c - 48)) cs

-- the number below 10,000 that the four columns f show, or 0 where they show none
unfoldable pub value : List ℕ → ℕ
value f = cond (same f (shown 4 (weighed 0 f))) (weighed 0 f) 0

-- the columns are all blank
abbrev pub Blank : List ℕ → Type 0
Blank f = f ≡ replicate (length f) 32
