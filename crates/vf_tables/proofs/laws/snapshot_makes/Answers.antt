use Rattle.vf_tables.proofs.Snapshots.{snapshot_makes}
use Rattle.vf_tables.proofs.laws.snapshot_makes.Goals as goal

pub returns : goal.returns
returns c = snapshot_makes
