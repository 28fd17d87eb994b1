use Rattle.vf_pdu.proofs.Within.{short}
use Rattle.vf_pdu.proofs.laws.value_is_short.Goals as goal

pub returns : goal.returns
returns c = short
