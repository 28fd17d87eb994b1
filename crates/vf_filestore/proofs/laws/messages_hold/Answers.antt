use Rattle.vf_filestore.proofs.HeldAfter.{items_hold, messages_hold}
use Rattle.vf_filestore.proofs.HeldGone.{traces_hold}
use Rattle.vf_filestore.proofs.laws.messages_hold.Goals as goal

pub returns : goal.returns
returns c = record { messages = messages_hold; items = items_hold; traces = traces_hold }
