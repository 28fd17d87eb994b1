-- What an initiator says on a connection, by a fold over what it hears (profile): each message with what session says of the
-- connection as it comes. So it is told at once what was sent, how the task is kept then and how it stands.
use Rattle.std.specs.Prelude.{ℕ, List, [], ◌∷◌, Option, None, Some, false}
use Rattle.vf_base.specs.declared.element.Element.{Element}
use Rattle.vf_initiator.specs.Assignments.{given_of, kept_pieces, progress_of, row_of, values_of}
use Rattle.vf_initiator.specs.Gathering.{all_of, started}
use Rattle.vf_initiator.specs.Rows.{Step, before, hears, step}
use Rattle.vf_initiator.specs.declared.conduct.Conduct.{Conduct}
use Rattle.vf_initiator.specs.declared.conduct.Setting.{Setting}
use Rattle.vf_initiator.specs.declared.doing.Doing.{Doing}
use Rattle.vf_initiator.specs.declared.doing.Doing.TheVariants.{Going, Ended, Failed}
use Rattle.vf_initiator.specs.declared.doing.TaskError.TheVariants.{Refused}
use Rattle.vf_initiator.specs.declared.given.Given.{Given}
use Rattle.vf_initiator.specs.declared.heard.Heard.{Heard}
use Rattle.vf_initiator.specs.declared.plan.Plan.{Plan}
use Rattle.vf_initiator.specs.declared.stage.Stage.{Stage}
use Rattle.vf_initiator.specs.declared.stage.Stage.TheVariants as stages
use Rattle.vf_tables.specs.declared.task.Task as kept
use Rattle.vf_tables.specs.declared.task.Way.{Way}
use Rattle.vf_tables.specs.declared.task.Way.TheVariants.{Get, Put}

-- before anything is heard; F-INITIALIZE is sent first
abbrev pub beginning : Plan → Option kept.Task → Conduct
beginning plan task =
    let given = given_of plan task in
    record { stage = stages.Associating; progress = progress_of task; gathered = started (kept_pieces given.assignment.way task); agreed = record { checks = false; window = 1 }; good = 0 }

abbrev pub says_from : Given → Conduct → List (Setting × Heard) → Step
says_from given c [] = step [] c
says_from given c (message ∷ later) =
    let first = hears given message.0 c message.1 in
    before first.said (says_from given first.conduct later)

-- what is said after F-INITIALIZE, and how the initiator then stands
abbrev pub says : Plan → Option kept.Task → List (Setting × Heard) → Step
says plan task messages = says_from (given_of plan task) (beginning plan task) messages

-- ---- how the task stands

abbrev pub doing_in : Stage → Doing
doing_in (stages.Over how) = how
doing_in stage = Going

abbrev pub doing_of : Conduct → Doing
doing_of c = doing_in c.stage

-- the activity under which it is kept; it is kept no more once it ended, well or with a diagnostic
abbrev pub activity_after : Doing → Option ℕ → Option ℕ
activity_after Ended activity = None
activity_after (Failed (Refused diagnostic)) activity = None
activity_after how activity = activity

abbrev pub activity_kept : Stage → Option ℕ → Option ℕ
activity_kept stage activity = activity_after (doing_in stage) activity

-- its pieces: of a get those received, and of a put all of its values in one
abbrev pub pieces_kept : Way → Given → (pieces : List (List Element)) → List (List Element)
pieces_kept Get given pieces = pieces
pieces_kept Put given pieces = values_of given ∷ []

-- the task as it stands, under an activity
abbrev pub task_at : Given → Conduct → (activity : ℕ) → kept.Task
task_at given c activity =
    record { plan = row_of given.assignment activity c.progress; staged = pieces_kept given.assignment.way given c.gathered.pieces }

abbrev pub task_under : Given → Conduct → Option ℕ → Option kept.Task
task_under given c None = None
task_under given c (Some activity) = Some (task_at given c activity)

abbrev pub task_kept : Given → Conduct → Option kept.Task
task_kept given c = task_under given c (activity_kept c.stage given.assignment.activity)

-- the elements of a get, those of which nothing is kept yet among them
abbrev pub elements_of : Conduct → List Element
elements_of c = all_of c.gathered
