use Rattle.std.proofs.Common.{◌≡◌, true, sym, ◌∙◌, ap, subst, arith}
use Rattle.language.specs.Book.{size}
use Rattle.rulebook.specs.Sets.{has}
use Rattle.soundbook.proofs.Deriving.{symbol_fits}
use Rattle.chart.specs.Filling.{FollowedUp}
use Rattle.chart.specs.Marks.{parts_at}
use Rattle.chart.specs.Records.{grammar_of}
use Rattle.chart.specs.declared.items.Item.{Item}
use Rattle.chart.proofs.Entering.{filled_itself, held_start}
use Rattle.chart.proofs.Following.{column_held, item_spans, followed_up, followed_none}
use Rattle.chart.proofs.Spanning.{span_low, span_high}
use Rattle.chart.proofs.presses.Press.follow_item.Goals as goal

pub returns-then-item-size : goal.returns-then-item-size
returns-then-item-size c = (
  filled_itself _ _ c.requires.ready _ c.requires.filling,
  followed_none _ _ c.requires.ready _ _ _ c.requires.done
      (λ e. absurd (c.if-item-size.true (ap (λ (t : Item). t.done) c.item-item.ensures ∙ (e ∙ (ap (λ (t : Item). size (grammar_of c.args.self.now.settled.now) t.rule) (sym c.item-item.ensures) ∙ sym c.size.ensures))))),
)

pub returns-then-contains : goal.returns-then-contains
returns-then-contains c = (
  filled_itself _ _ c.requires.ready _ c.requires.filling,
  subst (λ t. FollowedUp c.args.self.now.settled.now c.args.self.now.word c.args.board.now c.args.parts.now c.args.parts.now t) c.item-item.ensures
      (followed_none _ _ c.requires.ready c.args.board.now c.args.parts.now c.item-item.result c.requires.done
      (λ e. subst (λ X. has (parts_at c.args.parts.now c.item-item.result.start) X ≡ true) c.left-part.ensures (sym c.if-contains.ensures))),
)

pub contains-requires : goal.contains-requires
contains-requires c =
    let held = column_held _ _ c.requires.ready _ c.args.at c.item-item.result c.requires.filling c.requires.from c.requires.inside c.item-item.ensures in
    omega (arith, held_start _ _ c.requires.ready _ _ _ _ held, c.requires.ready.few)

pub span-requires-clause-spans : goal.span-requires-clause-spans
span-requires-clause-spans c =
    let held = column_held _ _ c.requires.ready _ c.args.at c.item-item.result c.requires.filling c.requires.from c.requires.inside c.item-item.ensures in
    item_spans _ _ c.requires.ready c.item-item.result _ c.left-part.ensures held (c.if-item-size.false ∙ c.size.ensures)

pub add-requires : goal.add-requires
add-requires c =
    let held = column_held _ _ c.requires.ready _ c.args.at c.item-item.result c.requires.filling c.requires.from c.requires.inside c.item-item.ensures in
    omega (arith, held_start _ _ c.requires.ready _ _ _ _ held, c.requires.ready.few)

pub returns : goal.returns
returns c =
    let held = column_held _ _ c.requires.ready _ c.args.at c.item-item.result c.requires.filling c.requires.from c.requires.inside c.item-item.ensures in
    let spans = item_spans _ _ c.requires.ready c.item-item.result _ c.left-part.ensures held (c.if-item-size.false ∙ c.size.ensures) in
    let known = symbol_fits c.left-part.result (span_low _ _ c.requires.ready _ _ _ spans) (span_high _ _ c.requires.ready _ _ _ spans) in (
      c.in_ok-span.ensures.0,
      subst (λ t. FollowedUp c.args.self.now.settled.now c.args.self.now.word c.span.new.board c.args.parts.now c.add.new.self t) c.item-item.ensures
          (followed_up _ _ c.requires.ready c.args.board.now c.span.new.board c.args.parts.now c.add.new.self c.item-item.result c.left-part.result
          (omega (arith, held_start _ _ c.requires.ready _ _ _ _ held, c.requires.ready.few)) c.left-part.ensures
          c.in_ok-span.ensures.0.extends c.requires.done c.in_ok-span.ensures.1 known c.add.ensures.here c.add.ensures.others),
    )
