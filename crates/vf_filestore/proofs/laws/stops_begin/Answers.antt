use Rattle.vf_filestore.proofs.Kept.{stops_begin}
use Rattle.vf_filestore.proofs.laws.stops_begin.Goals as goal

pub returns : goal.returns
returns c = stops_begin
