-- The machine of three stacks that replays the moves of a reading.
use Rattle.std.specs.Prelude.{◌≡◌, ℕ, ◌+◌, Bool, cond, ◌&&◌, List, [], ◌∷◌, ◌++◌, map, length, drop, ◌==◌, nat_le}
use Rattle.std.proofs.Math.Option.{Option, some, none}
use Rattle.language.specs.Book.{Grammar, left, right, symbol}
use Rattle.language.specs.Words.{Word}

-- an entry of the first stack: a word not yet read, or a part that is done
pub data Entry : Type 0 where
  word : Word → Entry
  done : ℕ → Entry

-- an entry of the second stack: a symbol that is to come, or the end mark of a rule
pub data Awaited : Type 0 where
  next : ℕ → Awaited
  end : Awaited

-- the stacks, tops first: words and parts done; symbols to come; left sides of the rules begun
pub record State : Type 0 where
  pub first : List Entry
  pub second : List Awaited
  pub third : List ℕ

-- a state by its three stacks
abbrev pub stacks : List Entry → List Awaited → List ℕ → State
stacks es bs ls = record { first = es; second = bs; third = ls }

-- c is a key of the book
abbrev pub is_key : Grammar → ℕ → Bool
is_key g c = nat_le 33 c && nat_le c (32 + g.keys)

-- r is a rule of the book
abbrev pub is_rule : Grammar → ℕ → Bool
is_rule g r = nat_le 1 r && nat_le r (length g.rules)

-- an entry agrees with a symbol: a word with each key that it matches, a part done with itself
abbrev pub agrees : Grammar → Entry → ℕ → Bool
agrees g (word w) c = is_key g c && w c
agrees g (done X) c = X == c

-- reduce: the first stack's top agrees with the first symbol of rule r, and some symbol is to come; the rest of the rule,
-- over an end mark, is to come before it
abbrev pub reduce : Grammar → ℕ → List Entry → List Awaited → List ℕ → Option State
reduce g r [] bs ls = none
reduce g r (e ∷ es) [] ls = none
reduce g r (e ∷ es) (end ∷ bs) ls = none
reduce g r (e ∷ es) (next B ∷ bs) ls =
    cond (agrees g e (symbol g r 0)) (some (stacks es (map next (drop 1 (right g r)) ++ (end ∷ next B ∷ bs)) (left g r ∷ ls))) none

-- move: an end mark is on top of the second stack; the left side on top of the third is done
abbrev pub move : List Entry → List Awaited → List ℕ → Option State
move es [] ls = none
move es (next B ∷ bs) ls = none
move es (end ∷ bs) [] = none
move es (end ∷ bs) (A ∷ ls) = some (stacks (done A ∷ es) bs ls)

-- remove: the tops of the first and second stack agree
abbrev pub remove : Grammar → List Entry → List Awaited → List ℕ → Option State
remove g [] bs ls = none
remove g (e ∷ es) [] ls = none
remove g (e ∷ es) (end ∷ bs) ls = none
remove g (e ∷ es) (next B ∷ bs) ls = cond (agrees g e B) (some (stacks es bs ls)) none

-- one move by its number: 0 is move, 129 is remove, the number of a rule reduces by it; no other is allowed
abbrev pub step : Grammar → State → ℕ → Option State
step g s n =
    cond (n == 0) (move s.first s.second s.third)
    (cond (n == 129) (remove g s.first s.second s.third)
    (cond (is_rule g n) (reduce g n s.first s.second s.third) none))

-- one more move, if the ones before were allowed
abbrev pub after : Grammar → Option State → ℕ → Option State
after g none n = none
after g (some s) n = step g s n

-- where the moves lead one after the other, if each is allowed
abbrev pub steps : Grammar → Option State → List ℕ → Option State
steps g s [] = s
steps g s (n ∷ ns) = steps g (after g s n) ns

-- the machine starts with the words, the start part to come, and no rule begun
abbrev pub initial : Grammar → List Word → State
initial g ws = stacks (map word ws) (next g.start ∷ []) []

-- a complete run: every move is allowed, and in the end all three stacks are empty
abbrev pub Complete : Grammar → List Word → List ℕ → Type 0
Complete g ws ns = steps g (some (initial g ws)) ns ≡ some (stacks [] [] [])
