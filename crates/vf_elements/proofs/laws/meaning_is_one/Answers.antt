use Rattle.vf_elements.proofs.OneMeaning.{is_one}
use Rattle.vf_elements.proofs.laws.meaning_is_one.Goals as goal

pub returns : goal.returns
returns c = is_one
