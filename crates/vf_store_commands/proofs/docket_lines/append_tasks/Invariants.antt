use Rattle.std.proofs.Common.{◌≡◌, ◌++◌, take}
use Rattle.std.specs.List.{flat_map}
use Rattle.vf_store_commands.specs.Dockets.{task_line}
use Rattle.vf_store_commands.proofs.docket_lines.append_tasks.Given as goal

abbrev pub invariant-loop-task : goal.invariant-loop-task
invariant-loop-task l = l.text.items ≡ l.initial.text.items ++ flat_map task_line (take l.task-index l.tasks)
