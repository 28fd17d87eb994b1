use Rattle.vf_filestore.proofs.ReadMessages.{restart_read}
use Rattle.vf_filestore.proofs.laws.restarts_are_read.Goals as goal

pub returns : goal.returns
returns c = restart_read
