-- Which tables are valid (profile): those that a filestore may keep. What each regime and each task has kept agrees
-- with the files and with each other.
pub use Rattle.vf_tables.specs.Sums.{octets_of_files, octets_staged, elements_staged}
use Rattle.std.specs.Prelude.{ℕ, ◌+◌, ◌-◌, Bool, true, false, ◌&&◌, ◌||◌, not, nat_eq, nat_le, nat_lt, bit_and, List, [], ◌∷◌, length, find, Result, Ok, Err, is_none, if◌then◌else◌}
use Rattle.std.specs.Cmp.Lexicographic.{pointwise}
use Rattle.std.specs.Int.{bit_at}
use Rattle.std.specs.List.{list_all, zip}
use Rattle.std.specs.Option.{option_map_or}
use Rattle.vf_attr.specs.declared.file.File.{File}
use Rattle.vf_base.specs.declared.access.Constraint.{Constraint}
use Rattle.vf_base.specs.declared.access.Constraint.TheVariants.{Unstructured, SequentialFlat}
use Rattle.vf_base.specs.declared.access.Context.{Context}
use Rattle.vf_base.specs.declared.access.FaduId.{FaduId}
use Rattle.vf_base.specs.declared.access.FaduId.TheVariants.{Begin, End, First, Next, Previous}
use Rattle.vf_base.specs.declared.action.Control.{Control}
use Rattle.vf_base.specs.declared.element.Element.{Element}
use Rattle.vf_base.specs.declared.limits.TheConstants.{MOST_STRING_OCTETS}
use Rattle.vf_doctype.specs.Checks.{fault}
use Rattle.vf_doctype.specs.DocumentTypes.{constraint_of, doc_type}
use Rattle.vf_doctype.specs.declared.doc_type.DocType.{DocType}
use Rattle.vf_tree.specs.Contexts.{shown}
use Rattle.vf_tree.specs.FileTree.{FileTree, octets_of}
use Rattle.vf_tree.specs.TreeRefusal.{TreeRefusal}
use Rattle.vf_tree.specs.declared.limits.TheConstants.{MOST_FILE_OCTETS, MOST_FILE_PARTS}
use Rattle.vf_locks.specs.Clash.{clash, is_use}
use Rattle.vf_tables.specs.declared.docket.Direction.{Direction}
use Rattle.vf_tables.specs.declared.docket.Direction.TheVariants.{Idle, Read, Write}
use Rattle.vf_tables.specs.declared.docket.Docket.{Docket}
use Rattle.vf_tables.specs.declared.docket.Operation.{Operation}
use Rattle.vf_tables.specs.declared.docket.Operation.TheVariants.{Insert, Replace, Extend}
use Rattle.vf_tables.specs.declared.docket.Regime.{Regime}
use Rattle.vf_tables.specs.declared.limits.TheConstants.{MOST_DOCKETS, MOST_FILES, MOST_FILESTORE_OCTETS, MOST_SURVIVING_ELEMENTS, MOST_SURVIVING_OCTETS, MOST_TASKS, MOST_TERMS, MOST_USERS}
use Rattle.vf_tables.specs.declared.tables.Tables.{Tables}
use Rattle.vf_tables.specs.declared.task.Phase.{Phase}
use Rattle.vf_tables.specs.declared.task.Phase.TheVariants as phases
use Rattle.vf_tables.specs.declared.task.Task.{Task}
use Rattle.vf_tables.specs.declared.task.Way.{Way}
use Rattle.vf_tables.specs.declared.task.Way.TheVariants.{Get, Put}
use Rattle.vf_tables.specs.declared.user.User.{User}
use Rattle.vf_tables.specs.Entries.{is_user, is_file, is_docket, is_task}
use Rattle.vf_tables.specs.Fitting.{is_constraint}

-- no two of these are of one sort
abbrev pub all_differ : {A : Type 0} → (A → A → Bool) → List A → Bool
all_differ same [] = true
all_differ same (entry ∷ entries) = list_all (λ other. not (same entry other)) entries && all_differ same entries

-- FILES. The contents are a document type, the file is a tree of its constraint set, and each string is such as it
-- takes.
abbrev pub is_file_of : File → DocType → Bool
is_file_of file doc =
    is_constraint (constraint_of doc.kind) file.tree.constraint
    && list_all (λ (unit : List Element). list_all (λ element. is_none (fault doc element)) unit) file.tree.units

abbrev pub is_valid_file : File → Bool
is_valid_file file = nat_le (length file.terms) MOST_TERMS && option_map_or (is_file_of file) (doc_type file.contents) false

-- REGIMES. The actions that a constraint set has in a mode (ISO 8571-2; profile): read 1, insert 2, replace 4,
-- extend 8, erase 16.
abbrev pub modes : Constraint → ℕ
modes Unstructured = 29
modes SequentialFlat = 19

-- each bit of the part is one of the set
abbrev pub includes : (set part : ℕ) → Bool
includes set part = nat_eq (bit_and part set) part

-- an action of the set has such a control
abbrev pub is_controlled : (set : ℕ) → ℕ × Control → Bool
is_controlled set pair = nat_eq (bit_at set pair.0) 0 || is_use pair.1

-- each opened action has such a control, and so has each requested one of 5 to 7
abbrev pub are_controlled : (opened requested : ℕ) → List Control → Bool
are_controlled opened requested controls =
    list_all (is_controlled opened) (zip (0 ∷ 1 ∷ 2 ∷ 3 ∷ 4 ∷ []) controls)
    && list_all (λ (pair : ℕ × Control). nat_lt pair.0 5 || is_controlled requested pair) (zip (0 ∷ 1 ∷ 2 ∷ 3 ∷ 4 ∷ 5 ∷ 6 ∷ 7 ∷ []) controls)

-- the action that an operation of a write is
abbrev pub action_of : Operation → ℕ
action_of Insert = 2
action_of Replace = 4
action_of Extend = 8

-- the identities that each operation of a write takes
abbrev pub is_written : Operation → FaduId → Bool
is_written Insert End = true
is_written Replace Begin = true
is_written Replace First = true
is_written Extend Begin = true
is_written Extend First = true
is_written _ _ = false

-- a position from which a read of this FADU may have come to the one where it stands
abbrev pub came_from : FaduId → ℕ → ℕ
came_from Next position = position - 1
came_from Previous position = position + 1
came_from _ position = position

abbrev pub comes_to : ℕ → Result (List Element × ℕ) TreeRefusal → Bool
comes_to position (Ok answer) = nat_eq answer.1 position
comes_to position (Err refusal) = false

-- what is read of the file as it stands is the whole of it or the unit at the position
abbrev pub is_shown : FileTree → (position : ℕ) → FaduId → Context → Bool
is_shown tree position fadu context = comes_to position (shown tree (came_from fadu position) fadu context)

-- a read that goes on is of the mode, and of a version that the file has or had
abbrev pub is_read : File → Regime → Context → Bool
is_read file regime context =
    includes regime.mode.value 1
    && (nat_lt regime.version file.version || (nat_eq regime.version file.version && is_shown file.tree regime.position regime.fadu context))

-- a write that goes on is of the mode, and at a FADU at which its operation is done
abbrev pub is_write : Regime → Operation → Bool
is_write regime operation = includes regime.mode.value (action_of operation) && is_written operation regime.fadu

-- a transfer under way that isn't refused
abbrev pub is_transfer : File → Regime → Direction → Bool
is_transfer file regime Idle = true
is_transfer file regime (Read context) = is_read file regime context
is_transfer file regime (Write operation) = is_write regime operation

abbrev pub is_regime_on : Regime → File → Bool
is_regime_on regime file =
    includes regime.requested.value regime.mode.value && includes (modes file.tree.constraint) regime.mode.value
    && are_controlled regime.mode.value regime.requested.value regime.controls.each
    && (not (nat_eq regime.refused 0) || is_transfer file regime regime.direction)

-- a write has a staged piece for each checkpoint up to its point, and no other regime has any
abbrev pub pieces_of : Regime → Direction → ℕ
pieces_of regime (Write operation) = regime.point
pieces_of regime (Read context) = 0
pieces_of regime Idle = 0

abbrev pub is_valid_docket : List File → Docket → Bool
is_valid_docket files docket =
    option_map_or (is_regime_on docket.regime) (find (is_file docket.regime.file) files) false
    && nat_eq (length docket.staged) (pieces_of docket.regime docket.regime.direction)
    && nat_le (octets_staged docket.staged) MOST_SURVIVING_OCTETS && nat_le (elements_staged docket.staged) MOST_SURVIVING_ELEMENTS

-- the two are on one file, and one excludes what the other does there
abbrev pub exclude : Docket → Docket → Bool
exclude docket other =
    pointwise nat_eq docket.regime.file other.regime.file
    && not (list_all (λ (pair : Control × Control). not (clash pair.0 pair.1)) (zip docket.regime.controls.each other.regime.controls.each))

-- TASKS. A get has a piece for each checkpoint up to its point, and one more once it is whole; a put has one piece.
abbrev pub is_over : Phase → Bool
is_over phases.New = false
is_over phases.Open = false
is_over phases.Whole = true
is_over phases.Concluded = true

abbrev pub pieces_for : Way → (point : ℕ) → Phase → ℕ
pieces_for Get point phase = if is_over phase then point + 1 else point
pieces_for Put point phase = 1

-- what a task has is within a file
abbrev pub is_valid_task : Task → Bool
is_valid_task task =
    nat_eq (length task.staged) (pieces_for task.plan.way task.plan.point task.plan.phase)
    && list_all (λ (piece : List Element). list_all (λ element. nat_le (octets_of element) MOST_STRING_OCTETS) piece) task.staged
    && nat_le (octets_staged task.staged) MOST_FILE_OCTETS && nat_le (elements_staged task.staged) MOST_FILE_PARTS

-- ALL. No two entries have one key.
abbrev pub have_keys : Tables → Bool
have_keys tables =
    all_differ (λ (user : User). is_user user.identity) tables.users
    && all_differ (λ (file : File). is_file file.name) tables.files
    && all_differ (λ (docket : Docket). is_docket docket.regime.identity docket.regime.activity) tables.dockets
    && all_differ (λ (task : Task). is_task task.plan.activity) tables.tasks

-- no list is longer than the profile has it, and all strings are within the filestore
abbrev pub are_within : Tables → Bool
are_within tables =
    nat_le (length tables.users) MOST_USERS && nat_le (length tables.files) MOST_FILES
    && nat_le (length tables.dockets) MOST_DOCKETS && nat_le (length tables.tasks) MOST_TASKS
    && nat_le (octets_of_files tables.files) MOST_FILESTORE_OCTETS

abbrev pub is_valid : Tables → Bool
is_valid tables =
    have_keys tables && are_within tables
    && list_all is_valid_file tables.files
    && list_all (is_valid_docket tables.files) tables.dockets && all_differ exclude tables.dockets
    && list_all is_valid_task tables.tasks
