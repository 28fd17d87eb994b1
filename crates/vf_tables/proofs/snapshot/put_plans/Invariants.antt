use Rattle.std.proofs.Common.{◌≡◌, ◌++◌, map, take}
use Rattle.vf_tables.specs.declared.task.Task.{Task}
use Rattle.vf_tables.specs.declared.change.Change.TheVariants.{PutTask}
use Rattle.vf_tables.proofs.snapshot.put_plans.Given as goal

abbrev pub invariant-loop-task : goal.invariant-loop-task
invariant-loop-task l = l.changes ≡ l.initial.changes ++ map (λ (task : Task). PutTask task.plan) (take l.task-index l.tasks)
