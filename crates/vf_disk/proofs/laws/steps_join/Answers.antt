use Rattle.vf_disk.proofs.Rows.{steps_joined}
use Rattle.vf_disk.proofs.laws.steps_join.Goals as goal

pub returns : goal.returns
returns c = steps_joined
