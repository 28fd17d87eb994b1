use Rattle.vf_filestore.proofs.Ranged.{differences_fit, messages_fit}
use Rattle.vf_filestore.proofs.RangedStates.{read_messages_fit}
use Rattle.vf_filestore.proofs.laws.changes_fit.Goals as goal

pub returns : goal.returns
returns c = record { differences = differences_fit; messages = messages_fit; reached = read_messages_fit }
