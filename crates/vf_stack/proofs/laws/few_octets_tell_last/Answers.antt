use Rattle.vf_stack.proofs.FewLemmas.{few-last}
use Rattle.vf_stack.proofs.laws.few_octets_tell_last.Goals as goal

pub returns : goal.returns
returns c = few-last
