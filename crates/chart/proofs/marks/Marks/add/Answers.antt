use Rattle.std.proofs.Common.{◌≡◌, length, sym, refl, arith}
use Rattle.chart.proofs.Marking.{item_added}
use Rattle.chart.proofs.marks.Marks.add.Goals as goal

pub returns : goal.returns
returns c =
    let wide : length c.args.self.now.rows ≡ 768 = omega arith in
    item_added c.args.self.now _ c.args.item.now c.with.result c.row_of-row.result c.requires c.row_of-row.ensures wide refl refl (λ i. rw (sym c.starts.ensures) (c.with.ensures i))
