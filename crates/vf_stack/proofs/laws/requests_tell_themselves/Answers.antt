use Rattle.vf_stack.proofs.ItselfLemmas.{request-itself}
use Rattle.vf_stack.proofs.laws.requests_tell_themselves.Goals as goal

pub returns : goal.returns
returns c = request-itself
