use Rattle.vf_elements.proofs.OneMeaning.{found}
use Rattle.vf_elements.proofs.laws.meaning_is_found.Goals as goal

pub returns : goal.returns
returns c = found
