use Rattle.vf_filestore.proofs.Transitions.{breaks_sound, drops_sound, stops_sound}
use Rattle.vf_filestore.proofs.laws.ends_are_sound.Goals as goal

pub returns : goal.returns
returns c = record { breaks = breaks_sound; stops = stops_sound; drops = drops_sound }
