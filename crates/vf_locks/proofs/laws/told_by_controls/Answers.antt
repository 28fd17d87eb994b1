use Rattle.vf_locks.proofs.Told.{told}
use Rattle.vf_locks.proofs.laws.told_by_controls.Goals as goal

pub returns : goal.returns
returns c = told
