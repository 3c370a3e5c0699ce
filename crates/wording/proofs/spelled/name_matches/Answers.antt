use Rattle.std.proofs.Common.{sym, ◌∙◌, ap}
use Rattle.std.proofs.lemmas.Bool.Decides.{Decides-like}
use Rattle.rulebook.specs.Kinds.{kind_number}
use Rattle.wording.specs.Matching.{NameMatches}
use Rattle.wording.proofs.Spelling.{short_front}
use Rattle.wording.proofs.spelled.name_matches.Goals as goal

pub returns-then-name-ge-SHORTEST : goal.returns-then-name-ge-SHORTEST
returns-then-name-ge-SHORTEST g c =
    let kind = sym c.kind.ensures ∙ (sym c.in-Ok-Shortened.ensures ∙ ap kind_number c.in-Ok-Shortened.field-0-is) in
    Decides-like _ (λ f. NameMatches.shortened kind c.if-name-ge-SHORTEST.true f.0 f.1) (short_front _ _ kind) c.begins_with-then-name-ge-SHORTEST.ensures
