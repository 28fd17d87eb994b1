use Rattle.vf_filestore.proofs.RowsHeld.{rows_follow, rows_keep, rows_stand}
use Rattle.vf_filestore.proofs.laws.rows_hold.Goals as goal

pub returns : goal.returns
returns c = record { follow = rows_follow; stand = rows_stand; keep = rows_keep }
