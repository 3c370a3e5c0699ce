use Rattle.std.proofs.Common.{refl}
use Rattle.chart.specs.Items.{told}
use Rattle.reading.proofs.Standing.{found_in}
use Rattle.reading.proofs.choices.stands.Goals as goal

pub returns : goal.returns
returns c =
    let held = c.column.ensures.items (told c.args.item) in
    let found = found_in c.column.result.now c.args.item c.contains.result c.contains.ensures.cases in
    (λ yes. (held.0 (found.0 yes)).0, λ h. found.1 (held.1 (h, refl)))
