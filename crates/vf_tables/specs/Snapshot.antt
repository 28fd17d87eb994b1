-- The changes that make all of some tables (profile): users, files, dockets and their staged pieces, tasks and theirs.
use Rattle.std.specs.Prelude.{ℕ, ◌+◌, ◌<◌, ◌^◌, Bool, ◌&&◌, List, [], ◌∷◌, ◌++◌, length, map, All}
use Rattle.std.specs.List.{flat_map, list_all}
use Rattle.vf_attr.specs.declared.file.File.{File}
use Rattle.vf_base.specs.declared.element.Element.{Element}
use Rattle.vf_tables.specs.declared.change.Change.{Change}
use Rattle.vf_tables.specs.declared.change.Change.TheVariants.{PutUser, PutFile, PutDocket, Stage, PutTask, StageTask}
use Rattle.vf_tables.specs.declared.docket.Docket.{Docket}
use Rattle.vf_tables.specs.declared.tables.Tables.{Tables}
use Rattle.vf_tables.specs.declared.task.Task.{Task}
use Rattle.vf_tables.specs.declared.task.Way.{Way}
use Rattle.vf_tables.specs.declared.task.Way.TheVariants.{Get, Put}
use Rattle.vf_tables.specs.declared.user.User.{User}
use Rattle.vf_tables.specs.Fitting.{is_in_range}
use Rattle.vf_tables.specs.Validity.{is_valid}

-- the pieces of a docket after so many
abbrev pub stages_after : List ℕ → (activity pieces : ℕ) → List (List Element) → List Change
stages_after identity activity pieces [] = []
stages_after identity activity pieces (elements ∷ later) =
    Stage identity activity pieces (pieces + 1) elements ∷ stages_after identity activity (pieces + 1) later

abbrev pub stages_of : Docket → List Change
stages_of docket = stages_after docket.regime.identity docket.regime.activity 0 docket.staged

-- the point of the piece of a task after so many
abbrev pub point_after : Way → ℕ → ℕ
point_after Get pieces = pieces + 1
point_after Put pieces = 0

abbrev pub task_stages_after : Way → (activity pieces : ℕ) → List (List Element) → List Change
task_stages_after way activity pieces [] = []
task_stages_after way activity pieces (elements ∷ later) =
    StageTask activity (point_after way pieces) elements ∷ task_stages_after way activity (pieces + 1) later

abbrev pub task_stages_of : Task → List Change
task_stages_of task = task_stages_after task.plan.way task.plan.activity 0 task.staged

abbrev pub snapshot : Tables → List Change
snapshot tables =
    map (λ (user : User). PutUser user) tables.users ++ (map (λ (file : File). PutFile file) tables.files
    ++ (map (λ (docket : Docket). PutDocket docket.regime) tables.dockets ++ (flat_map stages_of tables.dockets
    ++ (map (λ (task : Task). PutTask task.plan) tables.tasks ++ flat_map task_stages_of tables.tasks))))

-- no docket and no task has so many pieces that their numbers wouldn't be numbers of checkpoints
abbrev pub HasFewPieces : Tables → Type 0
HasFewPieces tables = All (λ (docket : Docket). length docket.staged < 2 ^ 32) tables.dockets × All (λ (task : Task). length task.staged < 2 ^ 32) tables.tasks

-- Tables that records may make: they are valid, and each field is in its range.
abbrev pub is_kept : Tables → Bool
is_kept tables = is_valid tables && list_all is_in_range (snapshot tables)
