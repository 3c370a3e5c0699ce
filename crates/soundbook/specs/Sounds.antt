-- What a sound book means.
use Rattle.std.specs.Prelude.{[], ◌∷◌, codes}
use Rattle.language.specs.Book.{Meaning}
use Rattle.soundbook.specs.Tables.{meaning_of}
use Rattle.soundbook.specs.declared.sounds.SoundBook.{SoundBook}

-- what its table means
abbrev pub sound_meaning : SoundBook → Meaning
sound_meaning s = meaning_of s.table

-- the book of one rule, 1 → 33, with key 33 spelled a
abbrev pub smallest : Meaning
smallest = record {
  grammar = record { parts = 1; keys = 1; start = 1; rules = record { head = 1; body = 33 ∷ [] } ∷ [] };
  forms = record { kind = 0; spelling = codes "a" } ∷ [];
}
