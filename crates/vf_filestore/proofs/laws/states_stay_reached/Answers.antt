use Rattle.vf_filestore.proofs.RangedStates.{begins_reached, breaks_reached, drops_reached, faults_reached, messages_reached, stops_reached}
use Rattle.vf_filestore.proofs.laws.states_stay_reached.Goals as goal

pub returns : goal.returns
returns c = record {
  begins = begins_reached;
  messages = messages_reached;
  faults = faults_reached;
  breaks = breaks_reached;
  stops = stops_reached;
  drops = drops_reached;
}
