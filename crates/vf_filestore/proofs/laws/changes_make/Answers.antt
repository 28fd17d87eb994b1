use Rattle.vf_filestore.proofs.RangedStates.{drops_make, read_messages_make}
use Rattle.vf_filestore.proofs.laws.changes_make.Goals as goal

pub returns : goal.returns
returns c = record { messages = read_messages_make; drops = drops_make }
