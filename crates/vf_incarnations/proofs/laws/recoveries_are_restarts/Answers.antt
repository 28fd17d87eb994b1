use Rattle.vf_incarnations.proofs.Recovered.{recoveries_are_restarts, recoveries_go_on}
use Rattle.vf_incarnations.proofs.laws.recoveries_are_restarts.Goals as goal

pub returns : goal.returns
returns c = record { restarts = recoveries_are_restarts; broken = recoveries_go_on }
