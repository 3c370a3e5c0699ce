use Rattle.std.proofs.Common.{rules, ◌≡◌, ℕ, ◌+◌, ◌<◌, List, length, map, sum, sum_by, ap, sym, ◌∙◌, arith}
use Rattle.std.specs.List.{range_with_len}
use Rattle.std.proofs.lemmas.List.{ext_get_or, get_or-map, length-map}
use Rattle.std.proofs.lemmas.List.Sums.{sum-map}
use Rattle.std.proofs.lemmas.List.FromFn.{length-range_with_len, length-map-range_with_len}
use Rattle.std.proofs.lemmas.Iterator.{YieldsList-from_range, YieldsList-from_map}
use Rattle.std.proofs.lemmas.Iterator.Adapters.{fits_from_length, at_most_from_yields_List}
use Rattle.std.proofs.lemmas.Iterator.Consumers.{sum_by_from_yields_List}
use Rattle.language.specs.Book.{Rule, norule, rule}
use Rattle.language.proofs.Told.{rule_place, place_inside}
use Rattle.bookreport.proofs.examination.symbols_of.Goals as goal

-- how many symbols each rule has, asked by its number or read in the list
sizes : (rs : List Rule) → map (λ i. length (rule rs (i + 1)).body) (range_with_len 0 (length rs)) ≡ map (λ w. length w.body) rs
sizes rs =
    let h : ℕ → ℕ = λ i. length (rule rs (i + 1)).body in
    let long = length-map-range_with_len h 0 (length rs) in
    let size : Rule → ℕ = λ w. length w.body in
    ext_get_or 0 (map h (range_with_len 0 (length rs))) (map size rs) (long ∙ sym (length-map rs size)) (λ i l. let inside : i < length rs = omega (arith, long) in
    place_inside h (length rs) i 0 inside ∙ (ap size (rule_place rs i) ∙ sym (get_or-map size rs i norule 0 inside)))

pub sum-requires-clause-fits : goal.sum-requires-clause-fits
sum-requires-clause-fits g c =
    fits_from_length _ _ 65535 _ (at_most_from_yields_List (YieldsList-from_range 0 c.rules.result c.rules.result c.map.ensures.source (omega arith)) (omega (arith, length-range_with_len 0 c.rules.result))) c.map.ensures.closure (omega arith) (λ x r q k. search (rules, arith))

pub returns : goal.returns
returns g c =
    let rs = (g.B.Book.meaning c.args.book.now).grammar.rules in
    let n = c.rules.result in
    let h : ℕ → ℕ = λ i. length (rule rs (i + 1)).body in
    let total = sum_by_from_yields_List h (range_with_len 0 n) _ c.sum.result c.sum.ensures.ran (YieldsList-from_map _ h (YieldsList-from_range 0 n n c.map.ensures.source (omega arith)) c.map.ensures.closure (λ x r q k. search rules)) in
    total ∙ (ap (λ m. sum_by h (range_with_len 0 m)) c.rules.ensures ∙ (sym (sum-map h (range_with_len 0 (length rs))) ∙ (ap sum (sizes rs) ∙ sum-map (λ (w : Rule). length w.body) rs)))
