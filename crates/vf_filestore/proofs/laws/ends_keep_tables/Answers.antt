use Rattle.vf_filestore.proofs.Kept.{breaks_keep, stops_keep}
use Rattle.vf_filestore.proofs.Recorded.{faults_keep}
use Rattle.vf_filestore.proofs.laws.ends_keep_tables.Goals as goal

pub returns : goal.returns
returns c = record { stops = stops_keep; breaks = breaks_keep; faults = faults_keep }
