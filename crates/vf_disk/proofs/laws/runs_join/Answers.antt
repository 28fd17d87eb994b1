use Rattle.vf_disk.proofs.Runs.{joined}
use Rattle.vf_disk.proofs.laws.runs_join.Goals as goal

pub returns : goal.returns
returns g c = λ old mid new. joined g.D.Disk.moment g.D.Disk.left_since old mid new g.P.Outcome.allows g.Q.Outcome.allows g.R.Outcome.allows
