use Rattle.std.proofs.Common.{◌≡◌, ◌++◌, take}
use Rattle.std.specs.List.{flat_map}
use Rattle.vf_tables.specs.Snapshot.{task_stages_of}
use Rattle.vf_tables.proofs.snapshot.stage_tasks.Given as goal

abbrev pub invariant-loop-task : goal.invariant-loop-task
invariant-loop-task l = l.changes ≡ l.initial.changes ++ flat_map task_stages_of (take l.task-index l.tasks)
