use Rattle.std.proofs.Common.{◌≡◌, suc, ◌+◌, length, refl, ◌∙◌, subst, arith}
use Rattle.std.proofs.lemmas.List.{length-set, get_or-replicate}
use Rattle.language.specs.Book.{Numbered}
use Rattle.soundbook.specs.Sounds.{sound_meaning}
use Rattle.chart.specs.Indexes.{ChainOf}
use Rattle.soundbook.proofs.Plain.{place_high, plain}
use Rattle.chart.proofs.Chained.{no_chains, linked_at}
use Rattle.chart.proofs.indexes.chains_at.Goals as goal

pub loop-place-init : goal.loop-place-init
loop-place-init c = record { end = c.rules-place-end.ensures; lasts_long = refl; befores_long = refl; chained = no_chains _ _ _ (λ X h. get_or-replicate 65 X 0 0 (omega arith)) }

pub bounds-chains-symbol : goal.bounds-chains-symbol
bounds-chains-symbol c =
    let p = plain _ c.args.book.now.sound in
    let n : Numbered (sound_meaning c.args.book.now).grammar (c.loop-place.place + 1) = record { low = omega arith; high = omega (arith, c.loop-place.invariant.end) } in
    omega (arith, c.from-symbol.ensures, c.symbol.ensures, place_high _ p (c.loop-place.place + 1) c.args.at n)

pub bounds-chains-from : goal.bounds-chains-from
bounds-chains-from c =
    let p = plain _ c.args.book.now.sound in
    omega (arith, p.few_rules, c.loop-place.invariant.end)

pub bounds-chains-symbol-in-loop-place : goal.bounds-chains-symbol-in-loop-place
bounds-chains-symbol-in-loop-place c =
    let p = plain _ c.args.book.now.sound in
    let n : Numbered (sound_meaning c.args.book.now).grammar (c.loop-place.place + 1) = record { low = omega arith; high = omega (arith, c.loop-place.invariant.end) } in
    omega (arith, c.from-symbol.ensures, c.symbol.ensures, place_high _ p (c.loop-place.place + 1) c.args.at n)

pub loop-place-preserved : goal.loop-place-preserved
loop-place-preserved c =
    let p = plain _ c.args.book.now.sound in
    let n : Numbered (sound_meaning c.args.book.now).grammar (c.loop-place.place + 1) = record { low = omega arith; high = omega (arith, c.loop-place.invariant.end) } in
    let small = place_high _ p (c.loop-place.place + 1) c.args.at n in
    let was = c.loop-place.invariant in
    record {
      end = c.rules-place-end.ensures;
      lasts_long = length-set c.loop-place.chains.lasts c.from-symbol.result (c.loop-place.place + 1) ∙ was.lasts_long;
      befores_long = length-set c.loop-place.chains.befores c.from.result _ ∙ was.befores_long;
      chained = linked_at _ _ (c.loop-place.place + 1) c.loop-place.chains (omega (arith, p.few_rules, n.high)) small was.lasts_long was.befores_long was.chained n.low c.from-symbol.result c.from.result (c.loop-place.place + 1 + 1) (c.from-symbol.ensures ∙ c.symbol.ensures) c.from.ensures (omega arith);
    }

pub returns : goal.returns
returns c =
    let all : c.loop-place.place + 1 ≡ suc (length (sound_meaning c.args.book.now).grammar.rules) = omega (arith, c.loop-place.invariant.end) in
    subst (λ n. ChainOf (sound_meaning c.args.book.now).grammar c.args.at n c.loop-place.chains) all c.loop-place.invariant.chained
