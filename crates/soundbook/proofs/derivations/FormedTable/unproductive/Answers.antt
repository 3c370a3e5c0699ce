use Rattle.std.proofs.Common.{◌≡◌, ◌+◌, true, false, ap, rules}
use Rattle.std.proofs.lemmas.Bool.{both_ways}
use Rattle.std.proofs.lemmas.Iterator.{first_from_Range}
use Rattle.rulebook.specs.Sets.{has}
use Rattle.soundbook.proofs.Deriving.{productive_set}
use Rattle.soundbook.proofs.Finding.{lowest_found}
use Rattle.soundbook.proofs.derivations.FormedTable.unproductive.Goals as goal

pub returns : goal.returns
returns c =
    let set = productive_set _ _ c.closure-set.ensures.closed c.args.self.now.formed _ c.keys_only.ensures c.closure-set.ensures.grown in
    lowest_found _ _ _ _ (λ q h. set.sound q h) (λ q none p. both_ways _ none (set.whole q p)) _ (ap (λ n. 1 + n) c.parts.ensures) _
    (first_from_Range _ _ _ _ (λ k. has c.closure-set.result k ≡ false) (λ k. has c.closure-set.result k ≡ true) c.find.ensures.ran (λ x q k. search rules) (λ x q k. search rules))
