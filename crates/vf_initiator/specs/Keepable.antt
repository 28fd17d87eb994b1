-- Which task a store may keep (profile), and what the changes of a call make of tables in which the task is kept.
use Rattle.std.specs.Prelude.{◌≡◌, ◌≤◌, ℕ, Bool, true, false, ◌&&◌, nat_le, List, [], Option, None, Some, length}
use Rattle.std.specs.List.{list_all}
use Rattle.vf_base.specs.declared.element.Element.{Element}
use Rattle.vf_base.specs.declared.limits.TheConstants.{MOST_STRING_OCTETS}
use Rattle.vf_initiator.specs.Assignments.{file_in, given_of, kind_in, way_in}
use Rattle.vf_initiator.specs.Gathering.{all_of}
use Rattle.vf_initiator.specs.Keeping.{changes_since, mark_of}
use Rattle.vf_initiator.specs.Represents.{resumed}
use Rattle.vf_initiator.specs.Says.{beginning, task_at, task_kept}
use Rattle.vf_initiator.specs.Talking.{Takes, Talk}
use Rattle.vf_initiator.specs.declared.conduct.Conduct.{Conduct}
use Rattle.vf_initiator.specs.declared.given.Given.{Given}
use Rattle.vf_initiator.specs.declared.plan.Plan.{Plan}
use Rattle.vf_initiator.specs.declared.stage.Stage.{Stage}
use Rattle.vf_initiator.specs.declared.stage.Stage.TheVariants as stages
use Rattle.vf_tables.specs.Changes.{after_all}
use Rattle.vf_tables.specs.Entries.{dropped, is_task, put, task_of}
use Rattle.vf_tables.specs.Fitting.{all_fit, is_plan, is_sayable}
use Rattle.vf_tables.specs.Validity.{is_over, is_valid, is_valid_task}
use Rattle.vf_tables.specs.declared.change.Change.{Change}
use Rattle.vf_tables.specs.declared.limits.TheConstants.{MOST_POINT}
use Rattle.vf_tables.specs.declared.tables.Tables.{Tables}
use Rattle.vf_tables.specs.declared.task.Phase.{Phase}
use Rattle.vf_tables.specs.declared.task.Phase.TheVariants.{Concluded}
use Rattle.vf_tables.specs.declared.task.Task as kept
use Rattle.vf_tables.specs.declared.task.Way.{Way}
use Rattle.vf_tables.specs.declared.task.Way.TheVariants.{Get, Put}
use Rattle.vf_tree.specs.FileTree.{octets_of, octets_of_unit}
use Rattle.vf_tree.specs.declared.limits.TheConstants.{MOST_FILE_OCTETS, MOST_FILE_PARTS}

-- ---- a task that a store may keep: its row and its pieces are in their ranges, and what it has is within a file

abbrev pub are_pieces : List (List Element) → Bool
are_pieces pieces = list_all (λ (piece : List Element). list_all is_sayable piece) pieces

abbrev pub is_keepable : kept.Task → Bool
is_keepable task = is_plan task.plan && are_pieces task.staged && is_valid_task task

-- ---- an initiator whose task may be kept at each message

abbrev pub is_element : Element → Bool
is_element element = is_sayable element && nat_le (octets_of element) MOST_STRING_OCTETS

-- what a get has received is within a file
abbrev pub is_within_file : List Element → Bool
is_within_file elements =
    list_all is_element elements && nat_le (octets_of_unit elements) MOST_FILE_OCTETS && nat_le (length elements) MOST_FILE_PARTS

-- How far a task has come goes with what is waited for: it isn't at its end before it is opened, nor while a get receives,
-- it is after the data of a get, and it is concluded from F-CLOSE on; and a put numbers its checks within their range.
abbrev pub IsAtStage : Way → (is_resumed : Bool) → Phase → Stage → Type 0
IsAtStage way is_resumed phase stages.Associating = is_resumed ≡ false → is_over phase ≡ false
IsAtStage way is_resumed phase stages.Selecting = is_over phase ≡ false
IsAtStage way is_resumed phase stages.Opening = is_over phase ≡ false
IsAtStage way is_resumed phase (stages.Sending sent) = (way ≡ Put) × (sent.offered ≤ MOST_POINT)
IsAtStage way is_resumed phase stages.Receiving = (way ≡ Get) × (is_over phase ≡ false)
IsAtStage way is_resumed phase (stages.Received diagnostic) = (way ≡ Get) × (is_over phase ≡ true)
IsAtStage way is_resumed phase (stages.Closing outcome) = phase ≡ Concluded
IsAtStage way is_resumed phase (stages.Deselecting outcome) = phase ≡ Concluded
IsAtStage way is_resumed phase (stages.Terminating outcome) = phase ≡ Concluded
IsAtStage way is_resumed phase stage = Unit {0}

-- The task as it stands may be kept, also after what may come next.
pub record MayKeep (given : Given) (activity : ℕ) (c : Conduct) : Type 0 where
  pub keepable : is_keepable (task_at given c activity) ≡ true
  pub within : is_within_file (all_of c.gathered) ≡ true
  -- a put gathers nothing
  pub nothing : given.assignment.way ≡ Put → c.gathered.pieces ≡ []
  pub stage : IsAtStage given.assignment.way given.assignment.is_resumed c.progress.phase c.stage

-- ---- tables

-- with the task under this activity, or without it
abbrev pub with_kept : (activity : ℕ) → Option kept.Task → Tables → Tables
with_kept activity None tables = record tables { tasks = dropped (is_task activity) tables.tasks }
with_kept activity (Some task) tables = record tables { tasks = put (is_task activity) task tables.tasks }

-- The changes fit the tables, and lead to these, which a store may keep.
pub record LeadTo (tables : Tables) (changes : List Change) (tables' : Tables) : Type 0 where
  pub fit : all_fit tables changes ≡ true
  pub lead : after_all tables changes ≡ tables'
  pub valid : is_valid tables' ≡ true

-- ---- THE TASK IS KEPT, from the beginning and by each call

-- A kept task of the plan's activity stands as it is kept where it is the plan's own: of its way, kind and file.
pub record IsOwn (plan : Plan) (task : kept.Task) (activity : ℕ) : Type 0 where
  pub under : task.plan.activity ≡ activity
  pub way : task.plan.way ≡ way_in plan.task
  pub kind : task.plan.kind ≡ kind_in plan.task
  pub file : task.plan.file ≡ file_in plan.task

abbrev pub StandsAsKept : Plan → kept.Task → (activity : ℕ) → Type 0
StandsAsKept plan task activity =
    IsOwn plan task activity → is_valid_task task ≡ true → task_at (given_of plan (Some task)) (beginning plan (Some task)) activity ≡ task

-- A plan begins so, with the task as it is kept if it is.
abbrev pub BeginsKept : Plan → Option kept.Task → (activity : ℕ) → Type 0
BeginsKept plan task activity =
    plan.activity ≡ Some activity → is_keepable (task_at (given_of plan task) (beginning plan task) activity) ≡ true
    → MayKeep (given_of plan task) activity (beginning plan task)

-- The changes of a call lead tables that keep the task as it stood to those that keep it as it stands then.
abbrev pub StaysKept : Given → (activity : ℕ) → Talk → Talk → Type 0
StaysKept given activity talk talk' =
    (tables : Tables) → is_valid tables ≡ true → task_of activity tables ≡ task_kept given talk.conduct
    → LeadTo tables (changes_since given (mark_of given talk.conduct) talk'.conduct) (with_kept activity (task_kept given talk'.conduct) tables)

abbrev pub TakesKept : Given → (offer : Bool) → (activity : ℕ) → Talk → (piece octets : List ℕ) → Talk → Type 0
TakesKept given offer activity talk piece octets talk' =
    given.assignment.activity ≡ Some activity → MayKeep given activity talk.conduct → Takes given offer (resumed talk) piece octets talk'
    → MayKeep given activity talk'.conduct × StaysKept given activity talk talk'
