use Rattle.vf_incarnations.proofs.Calls.{serving_incarnates}
use Rattle.vf_incarnations.proofs.laws.serving_incarnates.Goals as goal

pub returns : goal.returns
returns g c = let d = g.D.Disk in serving_incarnates d.shown d.may_leave
