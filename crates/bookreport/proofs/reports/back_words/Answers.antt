use Rattle.std.proofs.Common.{sym}
use Rattle.std.proofs.lemmas.Bool.{cond-true, cond-false}
use Rattle.bookreport.proofs.reports.back_words.Goals as goal

pub returns-then-same : goal.returns-then-same
returns-then-same c = sym (cond-true c.args.same _ _ c.if-same.true)

pub returns-else-same : goal.returns-else-same
returns-else-same c = sym (cond-false c.args.same _ _ c.if-same.false)
