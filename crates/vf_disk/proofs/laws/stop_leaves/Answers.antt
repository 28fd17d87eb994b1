use Rattle.vf_disk.proofs.Stops.{stop_leaves}
use Rattle.vf_disk.proofs.laws.stop_leaves.Goals as goal

pub returns : goal.returns
returns c = stop_leaves
