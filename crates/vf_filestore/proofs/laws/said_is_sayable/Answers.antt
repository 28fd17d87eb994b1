use Rattle.vf_filestore.proofs.ToldStates.{faults_sayable, said_sayable}
use Rattle.vf_filestore.proofs.laws.said_is_sayable.Goals as goal

pub returns : goal.returns
returns c = record { messages = said_sayable; faults = faults_sayable }
