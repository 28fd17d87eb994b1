use Rattle.vf_pdu.proofs.Written.{is_read_again}
use Rattle.vf_pdu.proofs.laws.written_is_read_again.Goals as goal

pub returns : goal.returns
returns c = is_read_again
