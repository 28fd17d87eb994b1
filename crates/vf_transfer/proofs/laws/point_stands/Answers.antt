use Rattle.vf_transfer.proofs.Recovered.{point_stands}
use Rattle.vf_transfer.proofs.laws.point_stands.Goals as goal

pub returns : goal.returns
returns c = point_stands
