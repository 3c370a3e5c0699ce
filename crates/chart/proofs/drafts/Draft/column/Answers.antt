use Rattle.std.proofs.Common.{[], subst, arith}
use Rattle.chart.specs.Calls.{ColumnIs}
use Rattle.chart.proofs.Columned.{column_lent, no_column}
use Rattle.chart.proofs.drafts.Draft.column.Goals.{in_default-via-in-Some+else-place-self, in_default-via-in_default}
use Rattle.chart.proofs.drafts.Draft.column.Goals as goal

pub returns-in-Some : goal.returns-in-Some
returns-in-Some c =
    column_lent c.self.inside.settled c.self.inside.board c.self.invariant c.args.word c.from.result c.in-Some.ensures.0 (omega (arith, c.from.ensures, c.in-Some.ensures.1)) (omega (arith, c.from.ensures, c.if-place-self.true)) c.items.result.now c.items.ensures _ c.self.view_is

pub returns-in_default : goal.returns-in_default
returns-in_default c =
    subst (λ d. ColumnIs d c.args.word []) c.self.view_is
    (no_column c.self.inside.settled c.self.inside.board c.self.invariant c.args.word (λ some few.
    elim c.in_default.branch [
      | in_default-via-in-Some+else-place-self w ↦ omega (arith, w.if-place-self, w.in-Some.ensures.1)
      | in_default-via-in_default w ↦ w.in_default.ensures some
    ]))
