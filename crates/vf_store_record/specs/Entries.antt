-- The rows of a record (profile): what is kept of a user, of a file, of a recoverable regime and of a task.
use Rattle.std.specs.Prelude.{ℕ, ◌==◌, Bool, nat_eq, List, [], ◌∷◌, Option, Some, None, if◌then◌else◌}
use Rattle.std.specs.Option.{option_map}
use Rattle.std.specs.Str.{bytes_eq}
use Rattle.vf_attr.specs.declared.attributes.Attributes.{Attributes}
use Rattle.vf_attr.specs.declared.stamp.Stamp.{Stamp}
use Rattle.vf_base.specs.declared.access.Context.{Context}
use Rattle.vf_base.specs.declared.access.Context.TheVariants.{HA, FA, UA, US}
use Rattle.vf_base.specs.declared.access.FaduId.{FaduId}
use Rattle.vf_base.specs.declared.action.Actions.{Actions}
use Rattle.vf_base.specs.declared.action.Controls.{Controls}
use Rattle.vf_base.specs.declared.contents.Contents.{Contents}
use Rattle.vf_base.specs.declared.element.Element.{Element}
use Rattle.vf_base.specs.declared.element.Element.TheVariants.{Descriptor, Enter, Exit, Text, Binary}
use Rattle.vf_base.specs.declared.term.Term.{Term}
use Rattle.vf_doctype.specs.DocumentTypes.{entry, is_class}
use Rattle.vf_tables.specs.declared.docket.Direction.{Direction}
use Rattle.vf_tables.specs.declared.docket.Direction.TheVariants.{Idle, Read, Write}
use Rattle.vf_tables.specs.declared.docket.Operation.{Operation}
use Rattle.vf_tables.specs.declared.docket.Operation.TheVariants.{Insert, Replace, Extend}
use Rattle.vf_tables.specs.declared.docket.Regime.{Regime}
use Rattle.vf_tables.specs.declared.task.Phase.{Phase}
use Rattle.vf_tables.specs.declared.task.Phase.TheVariants as phases
use Rattle.vf_tables.specs.declared.task.Plan.{Plan}
use Rattle.vf_tables.specs.declared.task.Way.{Way}
use Rattle.vf_tables.specs.declared.task.Way.TheVariants.{Get, Put}
use Rattle.vf_tables.specs.declared.user.User.{User}
use Rattle.vf_store_record.specs.declared.files.Settings.{Settings}
use Rattle.vf_store_record.specs.declared.files.Stamps.{Stamps}
use Rattle.vf_store_record.specs.declared.plans.Course.{Course}
use Rattle.vf_store_record.specs.declared.plans.Purpose.{Purpose}
use Rattle.vf_store_record.specs.declared.regimes.Ownership.{Ownership}
use Rattle.vf_store_record.specs.declared.regimes.Permission.{Permission}
use Rattle.vf_store_record.specs.declared.regimes.Progress.{Progress}
use Rattle.vf_store_record.specs.declared.regimes.Standing.{Standing}
use Rattle.vf_store_record.specs.declared.regimes.Transfer.{Transfer}
use Rattle.vf_store_record.specs.Formats.{Format, ◌>>=◌, octet, both, made, shaped, listed}
use Rattle.vf_store_record.specs.Fields.{actions, controls, fadu, name, optional_name, number16, number32, optional_stamp, optional_text, stamp, string, terms, truth}

-- USERS
abbrev pub user_from : List ℕ × Option (List ℕ) → User
user_from row = record { identity = row.0; password = row.1 }

abbrev pub user_parts : User → List ℕ × Option (List ℕ)
user_parts value = (value.identity, value.password)

unfoldable pub user : Format User
user = shaped user_from user_parts (both name optional_text)

-- FILES. The number of the document type stands for its object identifier.
abbrev pub kind_named : ℕ → Option (List ℕ)
kind_named number =
    if number == 1 then Some (entry 1) else if number == 2 then Some (entry 2) else if number == 3 then Some (entry 3) else None

abbrev pub kind_number : List ℕ → ℕ
kind_number arcs = if bytes_eq arcs (entry 1) then 1 else if bytes_eq arcs (entry 2) then 2 else 3

unfoldable pub kind : Format (List ℕ)
kind = made kind_named kind_number octet

abbrev pub contents_from : List ℕ × (ℕ × (ℕ × ℕ)) → Contents
contents_from row = record { kind = row.0; class = row.1.0; longest = row.1.1.0; significance = row.1.1.1 }

abbrev pub contents_parts : Contents → List ℕ × (ℕ × (ℕ × ℕ))
contents_parts value = (value.kind, (value.class, (value.longest, value.significance)))

unfoldable pub contents : Format Contents
contents = shaped contents_from contents_parts (both kind (both octet (both number32 octet)))

-- what is set at the creation or by a change of attributes
abbrev pub settings_from : Actions × (Contents × List Term) → Settings
settings_from row = record { permitted = row.0; contents = row.1.0; terms = row.1.1 }

abbrev pub settings_parts : Settings → Actions × (Contents × List Term)
settings_parts value = (value.permitted, (value.contents, value.terms))

unfoldable pub settings : Format Settings
settings = shaped settings_from settings_parts (both actions (both contents terms))

-- who did what to the file, and when: created, modified, read, changed
abbrev pub stamps_from : Stamp × (Option Stamp × (Option Stamp × Option Stamp)) → Stamps
stamps_from row = record { created = row.0; modified = row.1.0; read = row.1.1.0; changed = row.1.1.1 }

abbrev pub stamps_parts : Stamps → Stamp × (Option Stamp × (Option Stamp × Option Stamp))
stamps_parts value = (value.created, (value.modified, (value.read, value.changed)))

unfoldable pub stamps : Format Stamps
stamps = shaped stamps_from stamps_parts (both stamp (both optional_stamp (both optional_stamp optional_stamp)))

-- all of it, with the version
abbrev pub attributes_from : Settings × (Stamps × ℕ) → Attributes
attributes_from row = record {
  permitted = row.0.permitted;
  contents = row.0.contents;
  terms = row.0.terms;
  created = row.1.0.created;
  modified = row.1.0.modified;
  read = row.1.0.read;
  changed = row.1.0.changed;
  version = row.1.1;
}

abbrev pub attributes_parts : Attributes → Settings × (Stamps × ℕ)
attributes_parts value = (
  record { permitted = value.permitted; contents = value.contents; terms = value.terms },
  (record { created = value.created; modified = value.modified; read = value.read; changed = value.changed }, value.version),
)

unfoldable pub attributes : Format Attributes
attributes = shaped attributes_from attributes_parts (both settings (both stamps number32))

-- A string of a file stands without its kind: it is binary in FTAM-3, and else a text of the file's class.
abbrev pub string_of : Contents → List ℕ → Element
string_of given octets = if nat_eq (kind_number given.kind) 3 then Binary octets else Text given.class octets

abbrev pub octets_of : Element → List ℕ
octets_of (Text class octets) = octets
octets_of (Binary octets) = octets
octets_of (Descriptor called filled) = []
octets_of Enter = []
octets_of Exit = []

unfoldable pub string_in : Contents → Format Element
string_in given = shaped (string_of given) octets_of string

unfoldable pub unit_in : Contents → Format (List Element)
unit_in given = listed (string_in given)

unfoldable pub units_in : Contents → Format (List (List Element))
units_in given = listed (unit_in given)

-- ELEMENTS. After the octet of its kind a descriptor has its name, where it has one, and whether it is filled; a text
-- or a binary its string.
unfoldable pub descriptor : Format (Option (List ℕ) × Bool)
descriptor = both optional_name truth

abbrev pub element_spelled : Element → List ℕ
element_spelled (Descriptor called filled) = 0 ∷ descriptor.spell (called, filled)
element_spelled Enter = 1 ∷ []
element_spelled Exit = 2 ∷ []
element_spelled (Text class octets) = class ∷ string.spell octets
element_spelled (Binary octets) = 4 ∷ string.spell octets

abbrev pub descriptor_of : Option (List ℕ) × Bool → Element
descriptor_of fields = Descriptor fields.0 fields.1

-- an element that is made of what is read
abbrev pub element_as : {A : Type 0} → (A → Element) → Option (A × List ℕ) → Option (Element × List ℕ)
element_as make found = found >>= λ value. Some (make value.0, value.1)

abbrev pub element_after : (number : ℕ) → List ℕ → Option (Element × List ℕ)
element_after number rest =
    if number == 0 then element_as descriptor_of (descriptor.read rest)
    else if number == 1 then Some (Enter, rest)
    else if number == 2 then Some (Exit, rest)
    else if number == 4 then element_as Binary (string.read rest)
    else if is_class number then element_as (Text number) (string.read rest)
    else None

unfoldable pub element : Format Element
element = record { spell = element_spelled; read = λ octets. octet.read octets >>= λ found. element_after found.0 found.1 }

unfoldable pub elements : Format (List Element)
elements = listed element

-- REGIMES
abbrev pub direction_number : Direction → ℕ
direction_number Idle = 0
direction_number (Read context) = 1
direction_number (Write operation) = 2

abbrev pub context_number : Context → ℕ
context_number HA = 0
context_number FA = 1
context_number UA = 2
context_number US = 3

abbrev pub operation_number : Operation → ℕ
operation_number Insert = 1
operation_number Replace = 2
operation_number Extend = 3

-- the octet for the operation of a write or the context of a read, and 0 where there is none
abbrev pub method_number : Direction → ℕ
method_number Idle = 0
method_number (Read context) = context_number context
method_number (Write operation) = operation_number operation

abbrev pub reading_of : ℕ → Option Direction
reading_of method =
    if method == 0 then Some (Read HA) else if method == 1 then Some (Read FA) else if method == 2 then Some (Read UA)
    else if method == 3 then Some (Read US) else None

abbrev pub writing_of : ℕ → Option Direction
writing_of method =
    if method == 1 then Some (Write Insert) else if method == 2 then Some (Write Replace) else if method == 3 then Some (Write Extend) else None

abbrev pub direction_of : (direction method : ℕ) → Option Direction
direction_of direction method =
    if direction == 0 then (if method == 0 then Some Idle else None)
    else if direction == 1 then reading_of method
    else if direction == 2 then writing_of method
    else None

-- the transfer under way: its direction, its FADU, and its operation or context
abbrev pub transfer_from : FaduId → Direction → Transfer
transfer_from unit direction = record { direction = direction; fadu = unit }

abbrev pub transfer_of : ℕ × (FaduId × ℕ) → Option Transfer
transfer_of row = option_map (transfer_from row.1.0) (direction_of row.0 row.1.1)

abbrev pub transfer_parts : Transfer → ℕ × (FaduId × ℕ)
transfer_parts value = (direction_number value.direction, (value.fadu, method_number value.direction))

unfoldable pub transfer : Format Transfer
transfer = made transfer_of transfer_parts (both octet (both fadu octet))

-- whose the regime is, and of which file
abbrev pub ownership_from : List ℕ × (ℕ × List ℕ) → Ownership
ownership_from row = record { identity = row.0; activity = row.1.0; file = row.1.1 }

abbrev pub ownership_parts : Ownership → List ℕ × (ℕ × List ℕ)
ownership_parts value = (value.identity, (value.activity, value.file))

unfoldable pub ownership : Format Ownership
ownership = shaped ownership_from ownership_parts (both name (both number32 name))

-- what was requested and opened
abbrev pub permission_from : Actions × (Controls × (Actions × Option (List ℕ))) → Permission
permission_from row = record { requested = row.0; controls = row.1.0; mode = row.1.1.0; password = row.1.1.1 }

abbrev pub permission_parts : Permission → Actions × (Controls × (Actions × Option (List ℕ)))
permission_parts value = (value.requested, (value.controls, (value.mode, value.password)))

unfoldable pub permission : Format Permission
permission = shaped permission_from permission_parts (both actions (both controls (both actions optional_text)))

-- what stands between transfers: the position, the number of the transfer, the outcome of the one before, the window
abbrev pub progress_from : ℕ × (ℕ × (ℕ × ℕ)) → Progress
progress_from row = record { position = row.0; number = row.1.0; last = row.1.1.0; window = row.1.1.1 }

abbrev pub progress_parts : Progress → ℕ × (ℕ × (ℕ × ℕ))
progress_parts value = (value.position, (value.number, (value.last, value.window)))

unfoldable pub progress : Format Progress
progress = shaped progress_from progress_parts (both number32 (both number32 (both number16 number16)))

-- how the transfer under way stands: why it is refused, its point, whether its data have ended, the version that it reads
abbrev pub standing_from : ℕ × (ℕ × (Bool × ℕ)) → Standing
standing_from row = record { refused = row.0; point = row.1.0; ended = row.1.1.0; version = row.1.1.1 }

abbrev pub standing_parts : Standing → ℕ × (ℕ × (Bool × ℕ))
standing_parts value = (value.refused, (value.point, (value.ended, value.version)))

unfoldable pub standing : Format Standing
standing = shaped standing_from standing_parts (both number16 (both number32 (both truth number32)))

-- all of it, in this order
abbrev pub regime_from : Ownership × (Permission × (Progress × (Transfer × Standing))) → Regime
regime_from row = record {
  identity = row.0.identity;
  activity = row.0.activity;
  file = row.0.file;
  requested = row.1.0.requested;
  controls = row.1.0.controls;
  mode = row.1.0.mode;
  password = row.1.0.password;
  position = row.1.1.0.position;
  number = row.1.1.0.number;
  last = row.1.1.0.last;
  window = row.1.1.0.window;
  direction = row.1.1.1.0.direction;
  fadu = row.1.1.1.0.fadu;
  refused = row.1.1.1.1.refused;
  point = row.1.1.1.1.point;
  ended = row.1.1.1.1.ended;
  version = row.1.1.1.1.version;
}

abbrev pub regime_parts : Regime → Ownership × (Permission × (Progress × (Transfer × Standing)))
regime_parts value = (
  record { identity = value.identity; activity = value.activity; file = value.file },
  (
    record { requested = value.requested; controls = value.controls; mode = value.mode; password = value.password },
    (
      record { position = value.position; number = value.number; last = value.last; window = value.window },
      (
        record { direction = value.direction; fadu = value.fadu },
        record { refused = value.refused; point = value.point; ended = value.ended; version = value.version },
      ),
    ),
  ),
)

unfoldable pub regime : Format Regime
regime = shaped regime_from regime_parts (both ownership (both permission (both progress (both transfer standing))))

-- TASKS
abbrev pub way_of : ℕ → Option Way
way_of value = if value == 1 then Some Get else if value == 2 then Some Put else None

abbrev pub way_number : Way → ℕ
way_number Get = 1
way_number Put = 2

unfoldable pub way : Format Way
way = made way_of way_number octet

abbrev pub phase_of : ℕ → Option Phase
phase_of value =
    if value == 0 then Some phases.New else if value == 1 then Some phases.Open else if value == 2 then Some phases.Whole
    else if value == 3 then Some phases.Concluded else None

abbrev pub phase_number : Phase → ℕ
phase_number phases.New = 0
phase_number phases.Open = 1
phase_number phases.Whole = 2
phase_number phases.Concluded = 3

unfoldable pub phase : Format Phase
phase = made phase_of phase_number octet

-- what the task is to do
abbrev pub purpose_from : ℕ × (Way × (ℕ × ℕ)) → Purpose
purpose_from row = record { activity = row.0; way = row.1.0; kind = row.1.1.0; every = row.1.1.1 }

abbrev pub purpose_parts : Purpose → ℕ × (Way × (ℕ × ℕ))
purpose_parts value = (value.activity, (value.way, (value.kind, value.every)))

unfoldable pub purpose : Format Purpose
purpose = shaped purpose_from purpose_parts (both number32 (both way (both octet number32)))

-- how far it has come
abbrev pub course_from : ℕ × (ℕ × (Phase × ℕ)) → Course
course_from row = record { number = row.0; point = row.1.0; phase = row.1.1.0; outcome = row.1.1.1 }

abbrev pub course_parts : Course → ℕ × (ℕ × (Phase × ℕ))
course_parts value = (value.number, (value.point, (value.phase, value.outcome)))

unfoldable pub course : Format Course
course = shaped course_from course_parts (both number32 (both number32 (both phase number16)))

-- all of it: the purpose, the file, the identity, the course
abbrev pub plan_from : Purpose × (List ℕ × (List ℕ × Course)) → Plan
plan_from row = record {
  activity = row.0.activity;
  way = row.0.way;
  kind = row.0.kind;
  every = row.0.every;
  file = row.1.0;
  identity = row.1.1.0;
  number = row.1.1.1.number;
  point = row.1.1.1.point;
  phase = row.1.1.1.phase;
  outcome = row.1.1.1.outcome;
}

abbrev pub plan_parts : Plan → Purpose × (List ℕ × (List ℕ × Course))
plan_parts value = (
  record { activity = value.activity; way = value.way; kind = value.kind; every = value.every },
  (
    value.file,
    (
      value.identity,
      record { number = value.number; point = value.point; phase = value.phase; outcome = value.outcome },
    ),
  ),
)

unfoldable pub plan : Format Plan
plan = shaped plan_from plan_parts (both purpose (both name (both name course)))
