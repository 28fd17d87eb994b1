use Rattle.vf_stack.proofs.ReadLemmas.{tells-read}
use Rattle.vf_stack.proofs.laws.told_was_read.Goals as goal

pub returns : goal.returns
returns c = tells-read
