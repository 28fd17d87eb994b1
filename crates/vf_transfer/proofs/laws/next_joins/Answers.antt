use Rattle.vf_transfer.proofs.Entries.{sends_next}
use Rattle.vf_transfer.proofs.laws.next_joins.Goals as goal

pub returns : goal.returns
returns c = sends_next
