use Rattle.vf_filestore.proofs.KeptStates.{kept_valid}
use Rattle.vf_filestore.proofs.laws.tables_are_valid.Goals as goal

pub returns : goal.returns
returns c = kept_valid
