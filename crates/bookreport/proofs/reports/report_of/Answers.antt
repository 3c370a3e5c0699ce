use Rattle.bookreport.proofs.Trips.{round_trips}
use Rattle.bookreport.proofs.reports.report_of.Goals as goal

pub returns-in_err-space-clause-trips : goal.returns-in_err-space-clause-trips
returns-in_err-space-clause-trips c = round_trips
