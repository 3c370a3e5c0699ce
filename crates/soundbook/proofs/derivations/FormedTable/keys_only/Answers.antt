use Rattle.std.proofs.Common.{◌+◌, rules, refl, arith}
use Rattle.std.proofs.lemmas.Fn.{fold_over}
use Rattle.std.proofs.lemmas.Iterator.{YieldsList-from_range}
use Rattle.std.proofs.iter.Yields.{nat_range_steps}
use Rattle.std.specs.List.{range_with_len}
use Rattle.soundbook.specs.Tables.{meaning_of}
use Rattle.soundbook.proofs.Deriving.{Listed, few_keys, listed_none, listed_more, listed_keys}
use Rattle.soundbook.proofs.derivations.FormedTable.keys_only.Goals as goal

pub returns : goal.returns
returns c =
    let keys = (meaning_of c.args.self.now.table).grammar.keys in
    listed_keys _ keys (few_keys _ c.args.self.now.formed)
    (fold_over nat_range_steps (λ x. x) _ Listed _ (λ ys a x b f h k. (listed_more ys a b x h (λ q. search rules), search rules)) (record { start = 33; end = 33 + c.keys.result }) (range_with_len 33 keys) _ _
    (YieldsList-from_range 33 (33 + c.keys.result) keys refl (omega (arith, c.keys.ensures.count))).runs (listed_none _ c.empty.ensures) c.fold.ensures.ran)
