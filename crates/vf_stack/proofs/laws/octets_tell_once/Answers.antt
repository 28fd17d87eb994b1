use Rattle.vf_stack.proofs.OctetLemmas.{tells-once}
use Rattle.vf_stack.proofs.laws.octets_tell_once.Goals as goal

pub returns : goal.returns
returns c = tells-once
