use Rattle.vf_filestore.proofs.Unchanged.{makes_no_change}
use Rattle.vf_filestore.proofs.laws.the_same_makes_no_change.Goals as goal

pub returns : goal.returns
returns c = makes_no_change
