-- What a table means.
use Rattle.std.specs.Prelude.{ℕ, map}
use Rattle.language.specs.Book.{Meaning}
use Rattle.soundbook.specs.Rows.{items_of, rule_of, form_of}
use Rattle.soundbook.specs.declared.tables.TableOf.{TableOf}

-- the rules and the forms in its rows
unfoldable pub meaning_of : {R K : ℕ} → TableOf R K → Meaning
meaning_of t = record {
  grammar = record { parts = t.parts; keys = t.keys.len; start = t.start; rules = map rule_of (items_of t.rules) };
  forms = map form_of (items_of t.keys);
}
