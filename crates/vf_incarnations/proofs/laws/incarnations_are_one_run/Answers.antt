use Rattle.vf_incarnations.proofs.Lives.{incarnations_are_one_run}
use Rattle.vf_incarnations.proofs.laws.incarnations_are_one_run.Goals as goal

pub returns : goal.returns
returns c = incarnations_are_one_run
