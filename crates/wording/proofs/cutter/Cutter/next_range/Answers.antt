use Rattle.std.proofs.Common.{rules}
use borrow.Author.Tests.{tests}
use Rattle.wording.proofs.Cutting.{next_found}
use Rattle.wording.proofs.cutter.Cutter.next_range.Goals as goal

pub returns : goal.returns
returns c = next_found _ _ _ _ c.args.self.now.edge c.run_end-from.ensures c.run_end.ensures (λ b r h. search (rules, tests)) (λ b r h. search (rules, tests))
