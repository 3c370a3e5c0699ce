use Rattle.std.proofs.Common.{sym, ◌∙◌, ap, arith}
use Rattle.std.proofs.lemmas.Bool.{both_ways}
use Rattle.rulebook.specs.Sets.{has}
use Rattle.chart.specs.Records.{wanted_in}
use Rattle.chart.proofs.Entering.{filled_itself, held_small, span_start, begun_held, item_entered}
use Rattle.chart.proofs.presses.Press.begin_rule.Goals as goal

pub wanted-requires : goal.wanted-requires
wanted-requires c = omega (arith, c.requires.ready.few, span_start _ _ c.requires.ready _ _ c.requires.spans)

pub returns-then-not-contains : goal.returns-then-not-contains
returns-then-not-contains c =
    let start = span_start _ _ c.requires.ready _ _ c.requires.spans in
    let dark = c.if-not-contains.ensures ∙ (ap (λ x. has x c.left.result) c.wanted.ensures ∙ ap (has (wanted_in c.args.self.now.settled.now c.args.span.start)) c.left.ensures) in
    (filled_itself _ _ c.requires.ready _ c.requires.filling, λ h. absurd (both_ways _ (sym dark) ((c.requires.ready.wanted _ _ start).1 h)))

pub enter-requires : goal.enter-requires
enter-requires c =
    let lit = c.if-not-contains.ensures ∙ (ap (λ x. has x c.left.result) c.wanted.ensures ∙ ap (has (wanted_in c.args.self.now.settled.now c.args.span.start)) c.left.ensures) in
    held_small _ _ c.requires.ready _ _ _ _ (begun_held _ _ c.requires.ready _ _ _ c.requires.numbered c.requires.first c.requires.spans (sym lit))

pub returns : goal.returns
returns c =
    let lit = c.if-not-contains.ensures ∙ (ap (λ x. has x c.left.result) c.wanted.ensures ∙ ap (has (wanted_in c.args.self.now.settled.now c.args.span.start)) c.left.ensures) in
    item_entered _ _ c.requires.ready _ _ _ _ _ _ _ c.end.ensures c.requires.filling (begun_held _ _ c.requires.ready _ _ _ c.requires.numbered c.requires.first c.requires.spans (sym lit)) c.enter.result c.enter.ensures
