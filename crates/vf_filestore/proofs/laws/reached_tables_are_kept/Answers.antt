use Rattle.vf_filestore.proofs.RangedRows.{reached_kept}
use Rattle.vf_filestore.proofs.laws.reached_tables_are_kept.Goals as goal

pub returns : goal.returns
returns c = reached_kept
