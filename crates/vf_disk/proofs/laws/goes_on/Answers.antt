use Rattle.vf_disk.proofs.Runs.{leaves_after}
use Rattle.vf_disk.proofs.laws.goes_on.Goals as goal

pub returns : goal.returns
returns g c = λ old mid new so_far time here. leaves_after g.D.Disk.moment g.D.Disk.left_since old mid new g.P.Outcome.allows (g.D.Disk.may_leave new) so_far time here
