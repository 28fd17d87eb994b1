use Rattle.vf_incarnations.proofs.Dropped.{drops_are_written}
use Rattle.vf_incarnations.proofs.laws.drops_are_written.Goals as goal

pub returns : goal.returns
returns c = drops_are_written
