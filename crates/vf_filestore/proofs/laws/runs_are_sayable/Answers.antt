use Rattle.vf_filestore.proofs.ToldStates.{runs_sayable}
use Rattle.vf_filestore.proofs.laws.runs_are_sayable.Goals as goal

pub returns : goal.returns
returns c = runs_sayable
