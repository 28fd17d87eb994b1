use Rattle.vf_pdu_parameters.proofs.Dates.{date_moment}
use Rattle.vf_pdu_parameters.proofs.laws.dates_are_moments.Goals as goal

pub returns : goal.returns
returns c = date_moment
