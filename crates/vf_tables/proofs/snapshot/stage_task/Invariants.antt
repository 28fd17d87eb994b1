use Rattle.std.proofs.Common.{◌≡◌, ◌++◌, drop}
use Rattle.vf_tables.specs.Snapshot.{task_stages_after, task_stages_of}
use Rattle.vf_tables.proofs.snapshot.stage_task.Given as goal

-- what stands, and the pieces that are left
abbrev pub invariant-loop-place : goal.invariant-loop-place
invariant-loop-place l =
    l.changes ++ task_stages_after l.task.plan.way l.task.plan.activity l.place (drop l.place l.task.staged) ≡ l.initial.changes ++ task_stages_of l.task
