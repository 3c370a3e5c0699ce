-- Both round trips.
use Rattle.booktext.proofs.Again.{fitting, text_again}
use Rattle.booktext.proofs.Back.{back_again}
use Rattle.booktext.proofs.Formed.{written_form}
use Rattle.bookreport.specs.Findings.{RoundTrips}

pub round_trips : RoundTrips
round_trips = record {
  back = back_again;
  formed = λ m sound. written_form m (fitting m ∣ sound ∣₁);
  again = λ m sound each. text_again m (fitting m ∣ sound ∣₁) each;
}
