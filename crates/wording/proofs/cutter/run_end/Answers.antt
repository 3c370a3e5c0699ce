use Rattle.std.proofs.Common.{true, false, get_or, rules}
use Rattle.std.proofs.lemmas.Iterator.{first_from_Range}
use borrow.Author.Tests.{tests}
use Rattle.wording.proofs.Cutting.{run_found}
use Rattle.wording.proofs.cutter.run_end.Given.{F-post}
use Rattle.wording.proofs.cutter.run_end.Goals as goal

pub returns : goal.returns
returns g c =
    run_found _ _ _ _ c.unwrap_or.ensures c.requires.within
    (first_from_Range _ c.find.new.self _ _ (λ k. F-post g c.args.ends (get_or c.args.text.now k 0) true) (λ k. F-post g c.args.ends (get_or c.args.text.now k 0) false) c.find.ensures.ran
    (λ x q k. search (rules, tests)) (λ x q k. search (rules, tests)))
