use Rattle.vf_ber.proofs.Plain.{reading_found}
use Rattle.vf_ber.proofs.laws.octets_have_a_reading.Goals as goal

pub returns : goal.returns
returns c = reading_found
