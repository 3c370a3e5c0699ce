use Rattle.std.proofs.Common.{◌≡◌, rules, get_or, arith}
use Rattle.std.proofs.lemmas.Iterator.{cases_from_all, YieldsList-from_range, YieldsList-from_slice, YieldsList-from_zip}
use Rattle.std.proofs.lemmas.List.Prefix.{front_from_reads, front_reads}
use Rattle.language.specs.Book.{spelling}
use borrow.Author.Tests.{tests}
use Rattle.wording.proofs.Zipped.{all_placed}
use Rattle.wording.proofs.spelled.begins_with.Goals as goal

pub returns-then-name-from : goal.returns-then-name-from
returns-then-name-from g c =
    let spelled = spelling (g.B.Book.meaning c.args.book.now).forms c.args.key in
    let listed = YieldsList-from_zip {s = c.zip.result} (YieldsList-from_range 0 c.spelling_len-len.result c.spelling_len-len.result c.zip.ensures.first (omega arith)) (YieldsList-from_slice c.args.name.now cc) in
    let cases = cases_from_all c.all.new.self _ _ (λ p. get_or spelled p.0 0 ≡ p.1) (λ p. get_or spelled p.0 0 ≡ p.1 → ⊥) c.all.ensures.ran listed (λ x q k. search (rules, tests)) (λ x q k. search (rules, tests)) in
    let same = all_placed _ c.args.name.now (omega arith) (λ i b. get_or spelled i 0 ≡ b) _ cases in (
      (λ h. (_, front_from_reads 0 spelled c.args.name.now (omega (arith, c.spelling_len-len.ensures)) (same.0 h))),
      λ p. same.1 (front_reads 0 spelled c.args.name.now p.0 p.1),
    )
