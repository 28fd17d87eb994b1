use Rattle.vf_filestore.proofs.Recorded.{differences_lead, drops_lead, messages_lead}
use Rattle.vf_filestore.proofs.laws.changes_lead.Goals as goal

pub returns : goal.returns
returns c = record { messages = messages_lead; differences = differences_lead; drops = drops_lead }
