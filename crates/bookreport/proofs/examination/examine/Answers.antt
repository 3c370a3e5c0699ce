use Rattle.std.proofs.Common.{◌≡◌, ℕ, ◌-◌, List, length, take, sym, ap, ◌∙◌, subst, arith, Decides, rules}
use Rattle.std.proofs.lemmas.Bool.Decides.{Decides-eqb}
use Rattle.std.proofs.lemmas.Slice.Eq.{slice_eq-Decides}
use Rattle.booktext.specs.Text.{text_meaning}
use Rattle.booktext.specs.Written.{Stands}
use Rattle.booktext.proofs.Back.{back_again}
use Rattle.bookreport.specs.Findings.{Accepted, CountsFound, Found, WrittenBack}
use Rattle.bookreport.proofs.Trips.{round_trips}
use Rattle.bookreport.proofs.examination.examine.Goals as goal

-- the text of the book of t is t
written_back : (t was is : List ℕ) (n : ℕ) → Accepted t → Stands (text_meaning t) was is n → WrittenBack t was is
written_back t was is n a s =
    let all : Stands (text_meaning t) was is (length t) = subst (Stands (text_meaning t) was is) (s.count ∙ sym a.long) s in
    record { stands = all; same = all.front ∙ back_again t a.formed }

pub returns-in_err-book-clause-trips : goal.returns-in_err-book-clause-trips
returns-in_err-book-clause-trips c = round_trips

pub returns-in_err-len-clause-trips : goal.returns-in_err-len-clause-trips
returns-in_err-len-clause-trips c = round_trips

pub returns-clause-trips : goal.returns-clause-trips
returns-clause-trips c = round_trips

pub returns-clause-found : goal.returns-clause-found
returns-clause-found c =
    let t = c.args.text.now in
    let (accepted, is) = c.in_ok-book.ensures in
    let stands = subst (λ m. Stands m c.args.space.now c.write.new.space c.in_ok-len.len) is c.in_ok-len.ensures in
    let back = written_back t c.args.space.now c.write.new.space c.in_ok-len.len accepted stands in
    let long : c.in_ok-len.len - 0 ≡ length t = omega (arith, stands.count, accepted.long) in
    let decided : Decides c.eq-same.result (take (c.in_ok-len.len - 0) c.write.new.space ≡ t) = search (rules, slice_eq-Decides Decides-eqb) in
    let same = decided.1 (ap (λ n. take n c.write.new.space) long ∙ back.same) in
    let says = c.findings_of.ensures.back ∙ same in
    let found : Found t c.findings_of.result = record { counts = subst (λ m. CountsFound m c.findings_of.result) is c.findings_of.ensures.counts; back = (λ h. back_again t accepted.formed, λ h. says) } in
    (accepted, found, says, back)
