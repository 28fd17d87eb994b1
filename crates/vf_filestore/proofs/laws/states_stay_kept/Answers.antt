use Rattle.vf_filestore.proofs.KeptStates.{begins_kept, breaks_stay, drops_stay, faults_stay_kept, messages_stay, runs_stay, stops_stay}
use Rattle.vf_filestore.proofs.laws.states_stay_kept.Goals as goal

pub returns : goal.returns
returns c = record {
  begins = begins_kept;
  messages = messages_stay;
  faults = faults_stay_kept;
  breaks = breaks_stay;
  stops = stops_stay;
  drops = drops_stay;
  runs = runs_stay;
}
