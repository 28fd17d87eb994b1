use Rattle.vf_elements.proofs.Written.{writable}
use Rattle.vf_elements.proofs.laws.meaning_is_writable.Goals as goal

pub returns : goal.returns
returns c = writable
