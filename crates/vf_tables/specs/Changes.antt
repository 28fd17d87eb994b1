-- What each change leaves.
use Rattle.std.specs.Prelude.{ℕ, List, [], ◌∷◌, ◌++◌, find, fold, take, Option, Some, None}
use Rattle.vf_attr.specs.Attributes.{with_attributes}
use Rattle.vf_attr.specs.declared.attributes.Attributes.{Attributes}
use Rattle.vf_attr.specs.declared.file.File.{File}
use Rattle.vf_base.specs.declared.element.Element.{Element}
use Rattle.vf_tables.specs.declared.change.Change.{Change}
use Rattle.vf_tables.specs.declared.change.Change.TheVariants.{PutUser, PutFile, PutAttributes, DropFile, PutDocket, Stage, CutStage, DropDocket, PutTask, StageTask, CutTask, DropTask}
use Rattle.vf_tables.specs.declared.docket.Docket.{Docket}
use Rattle.vf_tables.specs.declared.docket.Regime.{Regime}
use Rattle.vf_tables.specs.declared.tables.Tables.{Tables}
use Rattle.vf_tables.specs.declared.task.Plan.{Plan}
use Rattle.vf_tables.specs.declared.task.Task.{Task}
use Rattle.vf_tables.specs.Entries.{is_user, is_file, is_docket, is_task, put, changed, dropped}

-- a file with this name and these attributes; its contents stay
abbrev pub renamed : List ℕ → Attributes → File → File
renamed name attributes file = record (with_attributes attributes file) { name = name }

-- the staged pieces of a docket or a task; none where it isn't there
abbrev pub staged_in : Option Docket → List (List Element)
staged_in None = []
staged_in (Some docket) = docket.staged

abbrev pub staged_for : Option Task → List (List Element)
staged_for None = []
staged_for (Some task) = task.staged

-- a regime in the place of the one of its identity and activity, whose pieces stay
abbrev pub with_regime : Regime → List Docket → List Docket
with_regime regime dockets =
    let is_meant = is_docket regime.identity regime.activity in
    put is_meant (record { regime = regime; staged = staged_in (find is_meant dockets) }) dockets

abbrev pub with_plan : Plan → List Task → List Task
with_plan plan tasks =
    let is_meant = is_task plan.activity in
    put is_meant (record { plan = plan; staged = staged_for (find is_meant tasks) }) tasks

-- one more piece, and the pieces up to a checkpoint
abbrev pub with_piece : List Element → Docket → Docket
with_piece elements docket = record docket { staged = docket.staged ++ elements ∷ [] }

abbrev pub cut_to : ℕ → Docket → Docket
cut_to point docket = record docket { staged = take point docket.staged }

abbrev pub with_task_piece : List Element → Task → Task
with_task_piece elements task = record task { staged = task.staged ++ elements ∷ [] }

abbrev pub task_cut_to : ℕ → Task → Task
task_cut_to point task = record task { staged = take point task.staged }

abbrev pub after : Tables → Change → Tables
after tables (PutUser user) = record tables { users = put (is_user user.identity) user tables.users }
after tables (PutFile file) = record tables { files = put (is_file file.name) file tables.files }
after tables (PutAttributes old name attributes) = record tables { files = changed (is_file old) (renamed name attributes) tables.files }
after tables (DropFile name) = record tables { files = dropped (is_file name) tables.files }
after tables (PutDocket regime) = record tables { dockets = with_regime regime tables.dockets }
after tables (Stage identity activity first last elements) = record tables { dockets = changed (is_docket identity activity) (with_piece elements) tables.dockets }
after tables (CutStage identity activity point) = record tables { dockets = changed (is_docket identity activity) (cut_to point) tables.dockets }
after tables (DropDocket identity activity) = record tables { dockets = dropped (is_docket identity activity) tables.dockets }
after tables (PutTask plan) = record tables { tasks = with_plan plan tables.tasks }
after tables (StageTask activity point elements) = record tables { tasks = changed (is_task activity) (with_task_piece elements) tables.tasks }
after tables (CutTask activity point) = record tables { tasks = changed (is_task activity) (task_cut_to point) tables.tasks }
after tables (DropTask activity) = record tables { tasks = dropped (is_task activity) tables.tasks }

-- after changes in their order
abbrev pub after_all : Tables → List Change → Tables
after_all tables changes = fold after tables changes
