use Rattle.vf_elements.proofs.OneMeaning.{has_no_fault}
use Rattle.vf_elements.proofs.laws.meaning_has_no_fault.Goals as goal

pub returns : goal.returns
returns c = has_no_fault
