use Rattle.std.proofs.Common.{◌+◌, ap, rules}
use Rattle.std.proofs.lemmas.Iterator.{first_from_Range}
use Rattle.language.specs.Closure.{UnitPath}
use Rattle.soundbook.specs.Tables.{meaning_of}
use Rattle.soundbook.proofs.Finding.{lowest_found}
use Rattle.soundbook.proofs.derivations.FormedTable.cyclic.Goals as goal

pub returns : goal.returns
returns c =
    let grammar = (meaning_of c.args.self.now.table).grammar in
    lowest_found _ _ _ _ (λ q h. h) (λ q h none. none h) _ (ap (λ n. 1 + n) c.parts.ensures) _
    (first_from_Range _ _ _ _ (λ k. UnitPath grammar k k) (λ k. UnitPath grammar k k → ⊥) c.find.ensures.ran (λ x q k. search rules) (λ x q k. search rules))
