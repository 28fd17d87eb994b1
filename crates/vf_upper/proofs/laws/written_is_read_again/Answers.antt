use Rattle.vf_upper.proofs.Recovered.{read_again}
use Rattle.vf_upper.proofs.laws.written_is_read_again.Goals as goal

pub returns : goal.returns
returns c = read_again
