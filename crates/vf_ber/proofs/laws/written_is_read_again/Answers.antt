use Rattle.vf_ber.proofs.Readings.{read_again}
use Rattle.vf_ber.proofs.laws.written_is_read_again.Goals as goal

pub returns : goal.returns
returns c = read_again
