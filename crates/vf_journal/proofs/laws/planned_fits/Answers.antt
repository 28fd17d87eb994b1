use Rattle.vf_journal.proofs.Planned.{planned}
use Rattle.vf_journal.proofs.laws.planned_fits.Goals as goal

pub returns : goal.returns
returns c = planned
