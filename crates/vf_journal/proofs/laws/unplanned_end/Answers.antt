use Rattle.vf_journal.proofs.Planned.{unplanned}
use Rattle.vf_journal.proofs.laws.unplanned_end.Goals as goal

pub returns : goal.returns
returns c = unplanned
