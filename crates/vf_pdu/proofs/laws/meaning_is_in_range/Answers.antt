use Rattle.vf_pdu.proofs.OneMeaning.{is_in_range}
use Rattle.vf_pdu.proofs.laws.meaning_is_in_range.Goals as goal

pub returns : goal.returns
returns c = is_in_range
