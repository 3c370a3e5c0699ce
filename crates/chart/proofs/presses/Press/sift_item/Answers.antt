use Rattle.std.proofs.Common.{◌≡◌, ◌+◌, ◌<◌, ◌≤◌, sym, ◌∙◌, ap, add-one, arith}
use Rattle.language.specs.Book.{size}
use Rattle.chart.specs.Boards.{at_place}
use Rattle.chart.specs.Records.{grammar_of}
use Rattle.chart.specs.declared.items.Item.{Item}
use Rattle.chart.proofs.Arranging.{swapped_complete, swapped_reordered, swapped_split}
use Rattle.chart.proofs.Entering.{bounds}
use Rattle.chart.proofs.presses.Press.sift_item.Goals as goal

pub returns : goal.returns
returns c =
    let g = grammar_of c.args.self.now.settled.now in
    let split = c.requires.split in
    let t = at_place c.args.board.now c.args.at in
    let most : t.done ≤ size g t.rule = (bounds _ _ c.requires.ready _ _ _ _ (c.requires.complete.items c.args.at c.requires.inside)).not_past in
    let differ : t.done ≡ size g t.rule → ⊥ = λ e. c.if-item-size.false (ap (λ (x : Item). x.done) c.item-item.ensures ∙ (e ∙ (ap (λ (x : Item). size g x.rule) (sym c.item-item.ensures) ∙ sym c.size.ensures))) in
    let open_item : t.done < size g t.rule = omega (arith, most, differ) in
    record {
      complete = swapped_complete _ _ c.requires.ready c.args.board.now c.swap.new.self c.args.waiting c.args.at c.requires.complete split.low split.high c.requires.inside c.swap.ensures;
      reordered = swapped_reordered _ _ c.requires.ready c.args.board.now c.swap.new.self c.args.waiting c.args.at c.requires.complete split.low split.high c.requires.inside c.swap.ensures;
      split = swapped_split _ _ c.requires.ready c.args.board.now c.swap.new.self c.args.waiting c.args.at c.requires.complete split.low split.high c.requires.inside c.swap.ensures (c.args.waiting + 1) (add-one c.args.waiting) split open_item;
    }
