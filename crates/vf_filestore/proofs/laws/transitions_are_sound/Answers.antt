use Rattle.vf_filestore.proofs.Transitions.{faults_sound, transitions_sound}
use Rattle.vf_filestore.proofs.laws.transitions_are_sound.Goals as goal

pub returns : goal.returns
returns c = record { messages = transitions_sound; faults = faults_sound }
