use Rattle.vf_disk.proofs.CallCounts.{changes_joined}
use Rattle.vf_disk.proofs.laws.calls_join.Goals as goal

pub returns : goal.returns
returns c = changes_joined
