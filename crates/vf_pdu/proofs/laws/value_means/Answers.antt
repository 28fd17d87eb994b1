use Rattle.vf_pdu.proofs.Written.{value_is}
use Rattle.vf_pdu.proofs.laws.value_means.Goals as goal

pub returns : goal.returns
returns c = value_is
