use Rattle.vf_filestore.proofs.Transitions.{begins_sound}
use Rattle.vf_filestore.proofs.laws.begins_sound.Goals as goal

pub returns : goal.returns
returns c = begins_sound
