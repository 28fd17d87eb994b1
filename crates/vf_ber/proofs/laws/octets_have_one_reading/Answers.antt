use Rattle.vf_ber.proofs.Readings.{one_reading}
use Rattle.vf_ber.proofs.laws.octets_have_one_reading.Goals as goal

pub returns : goal.returns
returns c = one_reading
