use Rattle.std.proofs.Common.{map, subst}
use Rattle.chart.specs.Items.{told}
use Rattle.draft.specs.Schema.{ColumnIs}
use Rattle.draft.proofs.Answering.{column_seen}
use Rattle.draft.proofs.draft.Draft.column.Goals as goal

pub returns : goal.returns
returns c = subst (λ d. ColumnIs d c.args.word (map told c.column.result.now)) c.self.view_is (column_seen c.self.inside.chart c.self.invariant c.args.word _ c.column.ensures)
