use Rattle.vf_disk.proofs.Runs.{leaves_octets}
use Rattle.vf_disk.proofs.laws.synced_leaves.Goals as goal

pub returns : goal.returns
returns g c = λ disk octets image. leaves_octets (g.D.Disk.shown disk) (g.D.Disk.may_leave disk) octets image
