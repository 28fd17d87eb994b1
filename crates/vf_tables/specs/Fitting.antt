-- Which changes fit tables (profile): each field is in its range, and the entry that the change names stands.
use Rattle.std.specs.Prelude.{ℕ, ◌+◌, Bool, true, false, ◌&&◌, ◌||◌, nat_eq, nat_le, List, [], ◌∷◌, length, Option, Some, None, is_some, is_none}
use Rattle.std.specs.Cmp.Lexicographic.{pointwise}
use Rattle.std.specs.List.{list_all}
use Rattle.std.specs.Option.{option_map_or}
use Rattle.vf_attr.specs.declared.file.File.{File}
use Rattle.vf_base.specs.declared.access.Constraint.{Constraint}
use Rattle.vf_base.specs.declared.access.Constraint.TheVariants.{Unstructured, SequentialFlat}
use Rattle.vf_base.specs.declared.access.FaduId.{FaduId}
use Rattle.vf_base.specs.declared.access.FaduId.TheVariants.{Begin, End, First, Last, Current, Next, Previous, Number}
use Rattle.vf_base.specs.declared.contents.Contents.{Contents}
use Rattle.vf_base.specs.declared.element.Element.{Element}
use Rattle.vf_base.specs.declared.element.Element.TheVariants.{Descriptor, Enter, Exit, Text, Binary}
use Rattle.vf_base.specs.declared.term.Term.{Term}
use Rattle.vf_doctype.specs.DocumentTypes.{constraint_of, is_class, kind_of}
use Rattle.vf_doctype.specs.declared.doc_type.Kind.{Kind}
use Rattle.vf_doctype.specs.declared.doc_type.Kind.TheVariants.{Ftam1, Ftam2, Ftam3}
use Rattle.vf_tables.specs.declared.change.Change.{Change}
use Rattle.vf_tables.specs.declared.change.Change.TheVariants.{PutUser, PutFile, PutAttributes, DropFile, PutDocket, Stage, CutStage, DropDocket, PutTask, StageTask, CutTask, DropTask}
use Rattle.vf_tables.specs.declared.docket.Docket.{Docket}
use Rattle.vf_tables.specs.declared.docket.Regime.{Regime}
use Rattle.vf_tables.specs.declared.limits.TheConstants.{MOST_ACTIVITY, MOST_EVERY, MOST_PASSWORD_OCTETS, MOST_POINT, MOST_TRANSFERS}
use Rattle.vf_tables.specs.declared.tables.Tables.{Tables}
use Rattle.vf_tables.specs.declared.task.Plan.{Plan}
use Rattle.vf_tables.specs.declared.task.Task.{Task}
use Rattle.vf_tables.specs.declared.task.Way.{Way}
use Rattle.vf_tables.specs.declared.task.Way.TheVariants.{Get, Put}
use Rattle.vf_tables.specs.Entries.{docket_of, file_of, task_of}
use Rattle.vf_tables.specs.Changes.{after}

abbrev pub is_within : (least most number : ℕ) → Bool
is_within least most number = nat_le least number && nat_le number most

abbrev pub is_activity : ℕ → Bool
is_activity activity = is_within 1 MOST_ACTIVITY activity

-- a password that is there has at most 255 octets
abbrev pub is_short : Option (List ℕ) → Bool
is_short None = true
is_short (Some password) = nat_le (length password) MOST_PASSWORD_OCTETS

-- a text of one of the character string types; any other element
abbrev pub is_sayable : Element → Bool
is_sayable (Text class octets) = is_class class
is_sayable (Binary octets) = true
is_sayable (Descriptor name filled) = true
is_sayable Enter = true
is_sayable Exit = true

-- a string of a file of this document type: a text of its class, or binary
abbrev pub is_string_of : Kind → (class : ℕ) → Element → Bool
is_string_of Ftam1 class (Text other octets) = nat_eq other class
is_string_of Ftam2 class (Text other octets) = nat_eq other class
is_string_of Ftam3 class (Binary octets) = true
is_string_of _ class _ = false

abbrev pub is_constraint : Constraint → Constraint → Bool
is_constraint Unstructured Unstructured = true
is_constraint SequentialFlat SequentialFlat = true
is_constraint _ _ = false

-- the units are a tree of the constraint set of this document type, of strings such as it has
abbrev pub are_units_of : Kind → File → Bool
are_units_of kind file =
    is_constraint (constraint_of kind) file.tree.constraint
    && list_all (λ (unit : List Element). list_all (is_string_of kind file.contents.class) unit) file.tree.units

abbrev pub are_short : List Term → Bool
are_short terms = list_all (λ (term : Term). is_short term.password) terms

-- the contents are of FTAM-1, FTAM-2 or FTAM-3
abbrev pub has_kind : Contents → Bool
has_kind contents = is_some (kind_of contents.kind)

abbrev pub is_numbered : FaduId → Bool
is_numbered (Number number) = nat_le 1 number
is_numbered Begin = true
is_numbered End = true
is_numbered First = true
is_numbered Last = true
is_numbered Current = true
is_numbered Next = true
is_numbered Previous = true

abbrev pub is_regime : Regime → Bool
is_regime regime = is_activity regime.activity && is_short regime.password && is_within 1 (MOST_TRANSFERS + 1) regime.number && is_numbered regime.fadu

abbrev pub is_plan : Plan → Bool
is_plan plan =
    is_activity plan.activity && is_within 1 3 plan.kind && is_within 1 MOST_EVERY plan.every && is_within 1 MOST_TRANSFERS plan.number
    && nat_le plan.point MOST_POINT

-- each field is in its range
abbrev pub is_in_range : Change → Bool
is_in_range (PutUser user) = is_short user.password
is_in_range (PutFile file) = are_short file.terms && option_map_or (λ kind. are_units_of kind file) (kind_of file.contents.kind) false
is_in_range (PutAttributes old name attributes) = are_short attributes.terms && has_kind attributes.contents
is_in_range (DropFile name) = true
is_in_range (PutDocket regime) = is_regime regime
is_in_range (Stage identity activity first last elements) = is_activity activity && list_all is_sayable elements
is_in_range (CutStage identity activity point) = is_activity activity
is_in_range (DropDocket identity activity) = is_activity activity
is_in_range (PutTask plan) = is_plan plan
is_in_range (StageTask activity point elements) = is_activity activity && list_all is_sayable elements
is_in_range (CutTask activity point) = is_activity activity
is_in_range (DropTask activity) = is_activity activity

-- a piece of a docket stands between the last checkpoint that is staged and the next one
abbrev pub takes_piece : (first last : ℕ) → Docket → Bool
takes_piece first last docket = nat_eq first (length docket.staged) && nat_eq last (first + 1)

-- a piece of a get ends at the next checkpoint; the one of a put has point 0
abbrev pub is_point_of : Way → (point pieces : ℕ) → Bool
is_point_of Get point pieces = nat_eq point (pieces + 1)
is_point_of Put point pieces = nat_eq point 0

abbrev pub takes_task_piece : ℕ → Task → Bool
takes_task_piece point task = is_point_of task.plan.way point (length task.staged)

-- what the change names stands, and a file's new name is no other file's
abbrev pub stands_in : Tables → Change → Bool
stands_in tables (PutUser user) = true
stands_in tables (PutFile file) = true
stands_in tables (PutAttributes old name attributes) = is_some (file_of old tables) && (pointwise nat_eq old name || is_none (file_of name tables))
stands_in tables (DropFile name) = is_some (file_of name tables)
stands_in tables (PutDocket regime) = true
stands_in tables (Stage identity activity first last elements) = option_map_or (takes_piece first last) (docket_of identity activity tables) false
stands_in tables (CutStage identity activity point) = is_some (docket_of identity activity tables)
stands_in tables (DropDocket identity activity) = is_some (docket_of identity activity tables)
stands_in tables (PutTask plan) = true
stands_in tables (StageTask activity point elements) = option_map_or (takes_task_piece point) (task_of activity tables) false
stands_in tables (CutTask activity point) = is_some (task_of activity tables)
stands_in tables (DropTask activity) = is_some (task_of activity tables)

abbrev pub fits : Tables → Change → Bool
fits tables change = is_in_range change && stands_in tables change

-- each fits the tables before it
abbrev pub all_fit : Tables → List Change → Bool
all_fit tables [] = true
all_fit tables (change ∷ changes) = fits tables change && all_fit (after tables change) changes
