-- What an initiator is to do, by a plan and the task as it is kept (profile). Of a task that is kept its identity, its number
-- of elements between checkpoints and, of a put, its elements stand for those of the plan.
use Rattle.std.specs.Prelude.{ℕ, nat_eq, List, [], Option, None, Some, is_some, unwrap_or, if◌then◌else◌}
use Rattle.vf_base.specs.declared.element.Element.{Element}
use Rattle.vf_initiator.specs.declared.assignment.Assignment.{Assignment}
use Rattle.vf_initiator.specs.declared.given.Given.{Given}
use Rattle.vf_initiator.specs.declared.plan.Plan.{Plan}
use Rattle.vf_initiator.specs.declared.plan.Task.{Task}
use Rattle.vf_initiator.specs.declared.plan.Task.TheVariants as tasks
use Rattle.vf_initiator.specs.declared.progress.Progress.{Progress}
use Rattle.vf_tables.specs.declared.task.Phase.TheVariants.{New}
use Rattle.vf_tables.specs.declared.task.Plan as kept
use Rattle.vf_tables.specs.declared.task.Task as kept_tasks
use Rattle.vf_tables.specs.declared.task.Way.{Way}
use Rattle.vf_tables.specs.declared.task.Way.TheVariants.{Get, Put}
use Rattle.vf_transfer.specs.Transfer.{joined}

-- ---- the plan

abbrev pub way_in : Task → Way
way_in (tasks.Put name kind every elements) = Put
way_in (tasks.Get name kind every) = Get

abbrev pub kind_in : Task → ℕ
kind_in (tasks.Put name kind every elements) = kind
kind_in (tasks.Get name kind every) = kind

abbrev pub every_in : Task → ℕ
every_in (tasks.Put name kind every elements) = every
every_in (tasks.Get name kind every) = every

abbrev pub file_in : Task → List ℕ
file_in (tasks.Put name kind every elements) = name
file_in (tasks.Get name kind every) = name

abbrev pub elements_in : Task → List Element
elements_in (tasks.Put name kind every elements) = elements
elements_in (tasks.Get name kind every) = []

-- ---- the plan and the kept task

abbrev pub identity_by : Plan → Option kept_tasks.Task → List ℕ
identity_by plan None = plan.identity
identity_by plan (Some task) = task.plan.identity

abbrev pub every_by : Plan → Option kept_tasks.Task → ℕ
every_by plan None = every_in plan.task
every_by plan (Some task) = task.plan.every

abbrev pub assignment_of : Plan → Option kept_tasks.Task → Assignment
assignment_of plan task =
    record { way = way_in plan.task; kind = kind_in plan.task; every = every_by plan task; file = file_in plan.task; identity = identity_by plan task; activity = plan.activity; is_resumed = is_some task }

-- the values of a put that is kept
abbrev pub kept_values : Way → Option kept_tasks.Task → Option (List Element)
kept_values Put (Some task) = Some (joined task.staged)
kept_values way task = None

abbrev pub given_of : Plan → Option kept_tasks.Task → Given
given_of plan task =
    record { plan = plan; assignment = assignment_of plan task; kept_values = kept_values (way_in plan.task) task }

-- what a put is to send; nothing is what a get is to send
abbrev pub values_of : Given → List Element
values_of given = unwrap_or given.kept_values (elements_in given.plan.task)

-- the pieces of a get that is kept
abbrev pub kept_pieces : Way → Option kept_tasks.Task → List (List Element)
kept_pieces Get (Some task) = task.staged
kept_pieces way task = []

-- ---- how far it has come

-- nothing is done: the first transfer, from its start
abbrev pub new_progress : Progress
new_progress = record { number = 1; point = 0; phase = New; outcome = 0 }

abbrev pub progress_in : kept_tasks.Task → Progress
progress_in task = record { number = task.plan.number; point = task.plan.point; phase = task.plan.phase; outcome = task.plan.outcome }

abbrev pub progress_of : Option kept_tasks.Task → Progress
progress_of None = new_progress
progress_of (Some task) = progress_in task

-- ---- in the terms of the file service

-- The action of the open regime, as a set: a get reads, a put of records inserts, and any other replaces.
abbrev pub mode_by : Way → (kind : ℕ) → ℕ
mode_by Get kind = 1
mode_by Put kind = if nat_eq kind 2 then 2 else 4

abbrev pub mode_of : Assignment → ℕ
mode_of assignment = mode_by assignment.way assignment.kind

-- the row of the task as it is kept
abbrev pub row_of : Assignment → (activity : ℕ) → Progress → kept.Plan
row_of assignment activity progress =
    record { activity = activity; way = assignment.way; kind = assignment.kind; every = assignment.every; file = assignment.file; identity = assignment.identity; number = progress.number; point = progress.point; phase = progress.phase; outcome = progress.outcome }
