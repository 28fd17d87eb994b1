use Rattle.vf_disk.proofs.Runs.{leaves_at_first}
use Rattle.vf_disk.proofs.laws.starts.Goals as goal

pub returns : goal.returns
returns g c = λ disk here. leaves_at_first g.D.Disk.moment g.D.Disk.left_since disk g.P.Outcome.allows (λ image left. here image (g.met.D.Disk.only_now disk image left))
