use Rattle.std.proofs.Common.{◌^◌, ◌<◌, ap, ◌∙◌, arith}
use Rattle.std.proofs.lemmas.Bool.{eq-eqb, eqb-true}
use Rattle.rulebook.specs.Sets.{holds}
use Rattle.rulebook.proofs.Holding.{holds_none}
use Rattle.rulebook.proofs.Joining.{holds_nothing}
use Rattle.rulebook.proofs.sets.SymbolSet.is_empty.Goals as goal

pub returns : goal.returns
returns c =
    let fits : c.args.self.now.mask < 2 ^ 64 = omega arith in
    (λ h x. ap (λ m. holds m x) (eqb-true _ 0 h) ∙ holds_none x, λ none. eq-eqb _ 0 (holds_nothing c.args.self.now.mask fits none))
