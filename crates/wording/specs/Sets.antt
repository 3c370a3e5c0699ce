-- Words as sets of keys.
use Rattle.std.specs.Prelude.{ℕ, Bool, ◌&&◌}
use Rattle.language.specs.Words.{Word}
use Rattle.rulebook.specs.Sets.{key_number}

-- the word that matches the keys of which the test says yes; a number that no key can have is never matched
abbrev pub word_of : (ℕ → Bool) → Word
word_of test c = key_number c && test c
