-- The works book.
use Rattle.std.specs.Prelude.{[], ◌∷◌, codes}
use Rattle.language.specs.Book.{Meaning}

-- 1 → 2; 1 → 1 2; 2 → press figure; 2 → hold figure; 2 → repeat figure 1 end
abbrev pub works : Meaning
works = record {
  grammar = record {
    parts = 2;
    keys = 5;
    start = 1;
    rules = record { head = 1; body = 2 ∷ [] } ∷ record { head = 1; body = 1 ∷ 2 ∷ [] } ∷ record { head = 2; body = 33 ∷ 35 ∷ [] } ∷ record { head = 2; body = 34 ∷ 35 ∷ [] } ∷ record { head = 2; body = 36 ∷ 35 ∷ 1 ∷ 37 ∷ [] } ∷ [];
  };
  forms = record { kind = 0; spelling = codes "press" } ∷ record { kind = 0; spelling = codes "hold" } ∷ record { kind = 1; spelling = [] } ∷ record { kind = 0; spelling = codes "repeat" } ∷ record { kind = 0; spelling = codes "end" } ∷ [];
}
