use Rattle.vf_elements.proofs.Written.{value_is}
use Rattle.vf_elements.proofs.laws.value_means.Goals as goal

pub returns : goal.returns
returns c = value_is
