use Rattle.vf_disk.proofs.Runs.{weaker}
use Rattle.vf_disk.proofs.laws.runs_weaken.Goals as goal

pub returns : goal.returns
returns g c = λ old new. weaker g.D.Disk.moment g.D.Disk.left_since old new g.P.Outcome.allows g.R.Outcome.allows
