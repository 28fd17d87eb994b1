use Rattle.vf_elements.proofs.Within.{within}
use Rattle.vf_elements.proofs.laws.value_is_within.Goals as goal

pub returns : goal.returns
returns c = within
