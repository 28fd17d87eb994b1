use Rattle.vf_filestore.proofs.RangedStates.{runs_make}
use Rattle.vf_filestore.proofs.laws.runs_make.Goals as goal

pub returns : goal.returns
returns c = runs_make
