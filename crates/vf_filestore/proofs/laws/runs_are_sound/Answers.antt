use Rattle.vf_filestore.proofs.Transitions.{runs_sound}
use Rattle.vf_filestore.proofs.laws.runs_are_sound.Goals as goal

pub returns : goal.returns
returns c = runs_sound
