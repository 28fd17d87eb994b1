use Rattle.vf_incarnations.proofs.Calls.{each_moment_is_a_stop}
use Rattle.vf_incarnations.proofs.laws.each_moment_is_a_stop.Goals as goal

pub returns : goal.returns
returns c = each_moment_is_a_stop
