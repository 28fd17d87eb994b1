use Rattle.vf_stack.proofs.ReceivedLemmas.{is-received}
use Rattle.vf_stack.proofs.laws.sent_is_received.Goals as goal

pub returns : goal.returns
returns c = is-received
