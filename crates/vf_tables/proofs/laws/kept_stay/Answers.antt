use Rattle.vf_tables.proofs.Ranges.{kept_stay}
use Rattle.vf_tables.proofs.laws.kept_stay.Goals as goal

pub returns : goal.returns
returns c = kept_stay
