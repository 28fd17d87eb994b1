-- What stands before the first connection (profile): which task is taken up, what a put sends, and how a new task is kept.
use Rattle.std.specs.Prelude.{◌≡◌, ◌⊎◌, ℕ, ◌+◌, Bool, true, false, ◌&&◌, nat_eq, nat_le, pos, List, [], ◌∷◌, length, min, Option, None, Some, Result, Ok, Err, is_some, if◌then◌else◌}
use Rattle.std.specs.Cmp.Lexicographic.{pointwise}
use Rattle.vf_base.specs.Faults.{HasRisen, NeverFalls}
use Rattle.vf_base.specs.declared.element.Element.{Element}
use Rattle.vf_initiator.specs.Assignments.{assignment_of, given_of, new_progress, row_of, values_of}
use Rattle.vf_initiator.specs.Cutting.{cut}
use Rattle.vf_initiator.specs.Keepable.{is_within_file}
use Rattle.vf_initiator.specs.declared.doing.TaskError.TheVariants.{Refused}
use Rattle.vf_initiator.specs.declared.plan.Plan.{Plan}
use Rattle.vf_initiator.specs.declared.plan.Task as tasks
use Rattle.vf_initiator.specs.declared.plan.Task.TheVariants as ways
use Rattle.vf_tables.specs.Entries.{task_of}
use Rattle.vf_tables.specs.Fitting.{is_activity, is_short, is_within}
use Rattle.vf_tables.specs.declared.change.Change.{Change}
use Rattle.vf_tables.specs.declared.change.Change.TheVariants.{PutTask, StageTask}
use Rattle.vf_tables.specs.declared.limits.TheConstants.{MOST_EVERY, MOST_TASKS}
use Rattle.vf_tables.specs.declared.tables.Tables.{Tables}
use Rattle.vf_tables.specs.declared.task.Plan as kept
use Rattle.vf_tables.specs.declared.task.Task.{Task}
use Rattle.vf_tables.specs.declared.task.Way.{Way}
use Rattle.vf_tables.specs.declared.task.Way.TheVariants.{Get, Put}
use Rattle.vf_tree.specs.FileTree.{octets_of_unit}
use Rattle.vf_transact.specs.declared.starting.Begun.{Begun}
use Rattle.vf_transact.specs.declared.error.TransactError.{TransactError}
use Rattle.vf_transact.specs.declared.error.TransactError.TheVariants as errors
use Rattle.vf_transact.specs.declared.words.PlanWords.{PlanWords}

-- WORDS. Their numbers and the password are in their ranges.
abbrev pub is_activity_wanted : Option ℕ → Bool
is_activity_wanted None = true
is_activity_wanted (Some activity) = is_activity activity

abbrev pub are_words : PlanWords → Bool
are_words words =
    is_within 1 3 words.kind && is_within 1 MOST_EVERY words.every && is_short words.password && is_activity_wanted words.activity
    && nat_le words.tries 100

abbrev pub way_of : PlanWords → Way
way_of words = if words.put then Put else Get

-- The connections that are tried: without an activity one.
abbrev pub connections_by : Option ℕ → (tries : ℕ) → ℕ
connections_by None tries = 1
connections_by (Some activity) tries = min (tries + 1) 4294967295

abbrev pub connections_of : PlanWords → ℕ
connections_of words = connections_by words.activity words.tries

-- WHICH TASK. A task that is kept is taken up where it is of the same file, of the same kind and the same way.
abbrev pub is_same_way : Way → Way → Bool
is_same_way Get Get = true
is_same_way Put Put = true
is_same_way way other = false

abbrev pub is_of : PlanWords → kept.Plan → Bool
is_of words plan = is_same_way plan.way (way_of words) && nat_eq plan.kind words.kind && pointwise nat_eq plan.file words.name

-- with this diagnostic, whose other numbers are 0
abbrev pub refused : (number : ℕ) → TransactError
refused number = errors.Task (Refused (record { number = number; first = pos 0; second = pos 0 }))

-- A new task is kept beside fifteen others at most (35).
abbrev pub taken_up_under : PlanWords → (tasks : ℕ) → Option Task → Result (Option Task) TransactError
taken_up_under words tasks (Some task) = if is_of words task.plan then Ok (Some task) else Err errors.InUse
taken_up_under words tasks None = if nat_le MOST_TASKS tasks then Err (refused 35) else Ok None

abbrev pub taken_up_by : PlanWords → Tables → Option ℕ → Result (Option Task) TransactError
taken_up_by words tables None = Ok None
taken_up_by words tables (Some activity) = taken_up_under words (length tables.tasks) (task_of activity tables)

-- the task that is kept, if one is; or why none is taken up
abbrev pub taken_up : PlanWords → Tables → Result (Option Task) TransactError
taken_up words tables = taken_up_by words tables words.activity

-- WHAT IS TO BE DONE, where a put has these elements.
abbrev pub task_by : (put : Bool) → PlanWords → List Element → tasks.Task
task_by true words elements = ways.Put words.name words.kind words.every elements
task_by false words elements = ways.Get words.name words.kind words.every

abbrev pub plan_of : PlanWords → List Element → Plan
plan_of words elements =
    record { task = task_by words.put words elements; identity = words.identity; password = words.password; activity = words.activity }

-- The elements of a new put are those of its input, which is refused where it passes a limit (22, 23).
abbrev pub elements_or : Result (List Element) ℕ → Result (List Element) TransactError
elements_or (Ok elements) = Ok elements
elements_or (Err number) = Err (refused number)

abbrev pub elements_for : PlanWords → (input : List ℕ) → Result (List Element) TransactError
elements_for words input = if words.put then elements_or (cut words.kind input) else Ok []

-- ANSWERS. By these something but the task itself ends the call: a fault of the disk, of the input or of the output, no more room
-- on the disk, a disk without a store, or want of memory.
abbrev pub interrupts : TransactError → Bool
interrupts (errors.Task error) = false
interrupts (errors.Broken connections) = false
interrupts errors.InUse = false
interrupts errors.InputFault = true
interrupts errors.OutputFault = true
interrupts (errors.Store error) = true
interrupts errors.NoMemory = true

-- what was meant is answered, unless something else ended the call
abbrev pub Answers : {T : Type 0} → Result T TransactError → Result T TransactError → Type 0
Answers meant (Ok value) = meant ≡ Ok value
Answers meant (Err error) = (meant ≡ Err error) ⊎ (interrupts error ≡ true)

-- the input failed where its count rose; without a fault that stays, and it never falls
abbrev pub ReadsByCause : {T : Type 0} → ℕ → ℕ → Result T TransactError → Type 0
ReadsByCause old new (Err errors.InputFault) = HasRisen old new
ReadsByCause old new (Err errors.NoMemory) = NeverFalls old new
ReadsByCause old new result = new ≡ old

-- Which errors come of what: of the input and its limits, of the store that keeps a task, before the first connection, and from it on.
abbrev pub of_input : TransactError → Bool
of_input (errors.Task error) = true
of_input errors.InputFault = true
of_input errors.NoMemory = true
of_input error = false

abbrev pub of_store : TransactError → Bool
of_store (errors.Store error) = true
of_store errors.NoMemory = true
of_store error = false

abbrev pub before_connections : TransactError → Bool
before_connections (errors.Broken connections) = false
before_connections errors.OutputFault = false
before_connections error = true

abbrev pub of_connections : TransactError → Bool
of_connections errors.InUse = false
of_connections errors.InputFault = false
of_connections error = true

abbrev pub IsAmong : {T : Type 0} → (TransactError → Bool) → Result T TransactError → Type 0
IsAmong among (Ok value) = Unit {0}
IsAmong among (Err error) = among error ≡ true

-- HOW IT IS KEPT. A new task with an activity: its row, in state new, and of a put its elements in one piece.
abbrev pub staging : (activity : ℕ) → tasks.Task → List Change
staging activity (ways.Put name kind every elements) = StageTask activity 0 elements ∷ []
staging activity (ways.Get name kind every) = []

abbrev pub keeping_under : Plan → Option ℕ → List Change
keeping_under plan None = []
keeping_under plan (Some activity) = PutTask (row_of (assignment_of plan None) activity new_progress) ∷ staging activity plan.task

abbrev pub keeping : Plan → List Change
keeping plan = keeping_under plan plan.activity

-- how the task of an activity is kept
abbrev pub kept_in : Option ℕ → Tables → Option Task
kept_in None tables = None
kept_in (Some activity) tables = task_of activity tables

-- A TASK THAT IS TAKEN UP: its plan, and how it was kept when the call began
pub record TakenUp : Type 0 where
  pub plan : Plan
  pub kept : Option Task

abbrev pub taken_up_new : PlanWords → Result (List Element) TransactError → Result TakenUp TransactError
taken_up_new words (Ok elements) = Ok (record { plan = plan_of words elements; kept = None })
taken_up_new words (Err error) = Err error

abbrev pub taken_up_with : PlanWords → (input : List ℕ) → Result (Option Task) TransactError → Result TakenUp TransactError
taken_up_with words input (Err error) = Err error
taken_up_with words input (Ok (Some task)) = Ok (record { plan = plan_of words []; kept = Some task })
taken_up_with words input (Ok None) = taken_up_new words (elements_for words input)

-- by the tables and the input, which a new put alone reads
abbrev pub taken_up_of : PlanWords → Tables → (input : List ℕ) → Result TakenUp TransactError
taken_up_of words tables input = taken_up_with words input (taken_up words tables)

-- the octets of the strings that a put sends; of a get none
abbrev pub octets_sent : TakenUp → ℕ
octets_sent begun = octets_of_unit (values_of (given_of begun.plan begun.kept))

-- what the code keeps of it: of the task as it was kept, whether it was
pub record IsTakenUp (taken : TakenUp) (begun : Begun) : Type 0 where
  pub plan : begun.plan ≡ taken.plan
  pub is_kept : begun.is_kept ≡ is_some taken.kept
  pub octets : begun.octets ≡ min (octets_sent taken) 18446744073709551615

-- a plan, with its task as these tables keep it
abbrev pub taken_with : Plan → Tables → TakenUp
taken_with plan tables = record { plan = plan; kept = kept_in plan.activity tables }

-- The task is taken up, or it is told why none is.
abbrev pub TakesUp : Result TakenUp TransactError → Tables → Result Begun TransactError → Type 0
TakesUp meant tables (Ok begun) = (meant ≡ Ok (taken_with begun.plan tables)) × IsTakenUp (taken_with begun.plan tables) begun
TakesUp meant tables (Err error) = (meant ≡ Err error) ⊎ (interrupts error ≡ true)

-- a new task, whose elements are these
abbrev pub BeginsNew : PlanWords → Result (List Element) TransactError → Result Begun TransactError → Type 0
BeginsNew words meant (Ok begun) = (elements : List Element) × (meant ≡ Ok elements) × IsTakenUp (record { plan = plan_of words elements; kept = None }) begun
BeginsNew words meant (Err error) = (meant ≡ Err error) ⊎ (interrupts error ≡ true)

-- the plan of a new task, whose elements are within a file
pub record IsPlanned (words : PlanWords) (begun : Begun) : Type 0 where
  pub elements : List Element
  pub plan : begun.plan ≡ plan_of words elements
  pub within : is_within_file elements ≡ true
