-- Words as they are keyed in, and what it means that a list of keys begins with words or is those words.
use Rattle.std.specs.Prelude.{◌≡◌, ℕ, ◌-◌, Bool, false, T, List, [], ◌∷◌, length, take, drop, ◌==◌}

-- a word is the set of keys that it matches
abbrev pub Word : Type 0
Word = ℕ → Bool

-- the word that matches nothing: it stands for each place past the last word
abbrev pub blank : Word
blank c = false

-- the word that matches the key c alone
abbrev pub only : ℕ → Word
only c x = x == c

-- the words after the first i and up to word k
abbrev pub between : ℕ → ℕ → List Word → List Word
between i k ws = take (k - i) (drop i ws)

-- the list of keys begins with the words: they match its first keys one by one
abbrev pub Begins : List ℕ → List Word → Type 0
Begins p [] = Unit {0}
Begins [] (w ∷ ws) = ⊥
Begins (c ∷ p) (w ∷ ws) = T (w c) × Begins p ws

-- the list of keys is the words: it begins with them, and is no longer
pub record Is (p : List ℕ) (ws : List Word) : Type 0 where
  pub begins : Begins p ws
  pub long : length p ≡ length ws
