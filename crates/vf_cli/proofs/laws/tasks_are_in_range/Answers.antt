use Rattle.vf_cli.proofs.InRange.{task_in_range}
use Rattle.vf_cli.proofs.laws.tasks_are_in_range.Goals as goal

pub returns : goal.returns
returns c = λ words task is. task_in_range words task is
