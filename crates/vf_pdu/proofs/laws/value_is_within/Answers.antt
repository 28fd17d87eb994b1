use Rattle.vf_pdu.proofs.Within.{within}
use Rattle.vf_pdu.proofs.laws.value_is_within.Goals as goal

pub returns : goal.returns
returns c = within
