use Rattle.std.proofs.Common.{◌≡◌, IfOk, sym, subst}
use Rattle.booktext.specs.Columns.{value}
use Rattle.booktext.specs.Text.{field_of}
use Rattle.booktext.proofs.Asking.{number_made}
use Rattle.booktext.proofs.reads.Line.number_at.Goals as goal

pub returns-clause-is : goal.returns-clause-is
returns-clause-is c =
    let f = field_of c.args.self.now.middle.now c.args.place in
    subst (λ r. IfOk r (λ v. v ≡ value f)) (sym c.ok_or.ensures.value) (number_made _ f c.number.result _ c.field.ensures c.number.ensures)
