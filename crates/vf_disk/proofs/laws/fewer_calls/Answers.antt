use Rattle.vf_disk.proofs.CallCounts.{changes_fewer}
use Rattle.vf_disk.proofs.laws.fewer_calls.Goals as goal

pub returns : goal.returns
returns c = changes_fewer
