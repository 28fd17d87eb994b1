use Rattle.vf_upper.proofs.Recovered.{read_in_resynchronizations}
use Rattle.vf_upper.proofs.laws.resynchronizations_are_read_again.Goals as goal

pub returns : goal.returns
returns c = read_in_resynchronizations
