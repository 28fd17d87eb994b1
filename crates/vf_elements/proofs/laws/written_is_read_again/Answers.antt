use Rattle.vf_elements.proofs.OneMeaning.{is_read_again}
use Rattle.vf_elements.proofs.laws.written_is_read_again.Goals as goal

pub returns : goal.returns
returns c = is_read_again
