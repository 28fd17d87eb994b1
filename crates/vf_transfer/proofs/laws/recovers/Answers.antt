use Rattle.vf_transfer.proofs.Recovered.{recovers}
use Rattle.vf_transfer.proofs.laws.recovers.Goals as goal

pub returns : goal.returns
returns c = recovers
