use Rattle.std.proofs.Common.{map, sym, subst}
use Rattle.chart.specs.Items.{told}
use Rattle.chart.specs.States.{State as Inner}
use Rattle.draft.specs.Law.{IsNew}
use Rattle.draft.specs.Views.{state_of}
use Rattle.draft.proofs.Showing.{shows, is_new}
use Rattle.draft.proofs.draft.Draft.open.Goals as goal

pub returns-clause-lawful : goal.returns-clause-lawful
returns-clause-lawful c = shows c.open.result c.open.ensures.stands

pub returns-clause-new : goal.returns-clause-new
returns-clause-new c =
    subst (λ (i : Inner). IsNew c.args.book.now (map told c.args.chart.items) (state_of i)) (sym c.open.ensures.opened)
    (is_new c.args.book.now c.open.result.first (map told c.args.chart.items))
