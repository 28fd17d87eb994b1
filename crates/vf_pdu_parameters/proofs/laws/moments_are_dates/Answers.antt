use Rattle.vf_pdu_parameters.proofs.Dates.{moment_date}
use Rattle.vf_pdu_parameters.proofs.laws.moments_are_dates.Goals as goal

pub returns : goal.returns
returns c = moment_date
