use Rattle.vf_transfer.proofs.Entries.{offers_last}
use Rattle.vf_transfer.proofs.laws.last_is_offered.Goals as goal

pub returns : goal.returns
returns c = offers_last
