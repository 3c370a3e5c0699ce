use Rattle.std.proofs.Common.{sym, ◌∙◌, ap, add-one, arith}
use Rattle.language.specs.Book.{symbol}
use Rattle.chart.specs.Records.{grammar_of}
use Rattle.chart.specs.declared.items.Item.{Item}
use Rattle.chart.proofs.Entering.{filled_itself, span_start}
use Rattle.chart.proofs.Spanning.{advanceable, item_advanced}
use Rattle.chart.proofs.presses.Press.advance_item.Goals as goal

pub item-item-requires : goal.item-item-requires
item-item-requires c =
    let start = span_start _ _ c.requires.ready _ _ c.requires.spans in
    let place = c.requires.filling.columns c.args.span.start c.args.at c.requires.some start c.requires.from c.requires.waiting in
    omega (arith, place.0, c.requires.filling.begins)

pub returns-then-symbol-span : goal.returns-then-symbol-span
returns-then-symbol-span c = (
  filled_itself _ _ c.requires.ready _ c.requires.filling,
  λ e. absurd (c.if-symbol-span.true (c.symbol.ensures ∙ (ap (λ (t : Item). symbol (grammar_of c.args.self.now.settled.now) t.rule t.done) c.item-item.ensures ∙ e))),
)

pub overflow_add-item : goal.overflow_add-item
overflow_add-item c =
    let a = advanceable _ _ c.requires.ready _ _ _ _ c.item-item.result c.requires.filling c.requires.spans c.requires.some c.requires.from c.requires.waiting c.item-item.ensures (sym c.symbol.ensures ∙ c.if-symbol-span.false) in
    omega (arith, a.small.few_done)

pub enter-requires : goal.enter-requires
enter-requires c =
    let a = advanceable _ _ c.requires.ready _ _ _ _ c.item-item.result c.requires.filling c.requires.spans c.requires.some c.requires.from c.requires.waiting c.item-item.ensures (sym c.symbol.ensures ∙ c.if-symbol-span.false) in
    rw add-one a.small

pub returns : goal.returns
returns c =
    let a = advanceable _ _ c.requires.ready _ _ _ _ c.item-item.result c.requires.filling c.requires.spans c.requires.some c.requires.from c.requires.waiting c.item-item.ensures (sym c.symbol.ensures ∙ c.if-symbol-span.false) in
    item_advanced _ _ c.requires.ready _ _ c.item-item.result _ _ _ _ _ c.requires.filling c.requires.spans a (sym c.symbol.ensures ∙ c.if-symbol-span.false) c.item-item.ensures (add-one c.item-item.result.done) c.end.ensures c.enter.result c.enter.ensures
