use Rattle.vf_filestore.proofs.ToldStates.{begins_telling, breaks_telling, drops_telling, faults_telling, messages_telling, stops_telling}
use Rattle.vf_filestore.proofs.laws.states_go_on_telling.Goals as goal

pub returns : goal.returns
returns c = record { begins = begins_telling; messages = messages_telling; faults = faults_telling; breaks = breaks_telling; stops = stops_telling; drops = drops_telling }
