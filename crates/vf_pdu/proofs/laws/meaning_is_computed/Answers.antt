use Rattle.vf_pdu.proofs.Computed.{is_computed}
use Rattle.vf_pdu.proofs.laws.meaning_is_computed.Goals as goal

pub returns : goal.returns
returns c = is_computed
