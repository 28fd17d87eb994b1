use Rattle.vf_incarnations.proofs.InARow.{acts_are_one_run}
use Rattle.vf_incarnations.proofs.laws.acts_are_one_run.Goals as goal

pub returns : goal.returns
returns c = acts_are_one_run
