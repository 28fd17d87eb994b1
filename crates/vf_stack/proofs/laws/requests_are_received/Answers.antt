use Rattle.vf_stack.proofs.RequestLemmas.{request-received}
use Rattle.vf_stack.proofs.laws.requests_are_received.Goals as goal

pub returns : goal.returns
returns c = request-received
