-- The changes by which a store goes from what it kept before a message to what it keeps after it (profile). Of the twelve
-- kinds a message makes seven: it makes no user and no task, and none goes.
use Rattle.std.specs.Prelude.{ℕ, ◌+◌, Bool, true, false, not, ◌&&◌, List, [], ◌∷◌, ◌++◌, drop, find, flat_map, length, map, if◌then◌else◌, nat_eq, nat_lt}
use Rattle.std.specs.Cmp.Lexicographic.{pointwise}
use Rattle.std.specs.Str.{bytes_eq}
use Rattle.vf_attr.specs.Attributes.{are_same_attributes, attributes_of}
use Rattle.vf_attr.specs.declared.file.File.{File}
use Rattle.vf_base.specs.declared.access.Context.{Context}
use Rattle.vf_base.specs.declared.access.Context.TheVariants.{HA, FA, UA, US}
use Rattle.vf_base.specs.declared.access.FaduId.{FaduId}
use Rattle.vf_base.specs.declared.access.FaduId.TheVariants.{Begin, End, First, Last, Current, Next, Previous, Number}
use Rattle.vf_base.specs.declared.action.Control.{Control}
use Rattle.vf_base.specs.declared.action.Control.TheVariants.{NotRequired, Shared, Exclusive, NoAccess}
use Rattle.vf_base.specs.declared.element.Element.{Element}
use Rattle.vf_tables.specs.Changes.{after, staged_in}
use Rattle.vf_tables.specs.Entries.{is_docket}
use Rattle.vf_tables.specs.Fitting.{stands_in}
use Rattle.vf_tables.specs.Snapshot.{stages_after}
use Rattle.vf_tables.specs.declared.change.Change.{Change}
use Rattle.vf_tables.specs.declared.change.Change.TheVariants.{PutFile, PutAttributes, DropFile, PutDocket, CutStage, DropDocket}
use Rattle.vf_tables.specs.declared.docket.Direction.{Direction}
use Rattle.vf_tables.specs.declared.docket.Direction.TheVariants.{Idle, Read, Write}
use Rattle.vf_tables.specs.declared.docket.Docket.{Docket}
use Rattle.vf_tables.specs.declared.docket.Operation.{Operation}
use Rattle.vf_tables.specs.declared.docket.Operation.TheVariants.{Insert, Replace, Extend}
use Rattle.vf_tables.specs.declared.docket.Regime.{Regime}
use Rattle.vf_tables.specs.declared.tables.Tables.{Tables}
use Rattle.vf_tree.specs.Same.{are_same_units, is_same_name, is_same_unit}

-- FILES
abbrev pub is_same_file : File → File → Bool
is_same_file one other =
    bytes_eq one.name other.name && are_same_units one.tree.units other.tree.units && are_same_attributes (attributes_of one) (attributes_of other)

-- a file with other contents is put whole; else its attributes are, also under another name
abbrev pub change_of : File → File → Change
change_of before after =
    if are_same_units before.tree.units after.tree.units then PutAttributes before.name after.name (attributes_of after) else PutFile after

-- A message adds a file after the others, takes one away, or changes one in its place. So of two that differ the one
-- before is gone where fewer files stand after it.
abbrev pub file_changes : List File → List File → List Change
file_changes [] later = map PutFile later
file_changes (before ∷ files) [] = DropFile before.name ∷ file_changes files []
file_changes (before ∷ files) (after ∷ later) =
    if is_same_file before after then file_changes files later
    else if nat_lt (length later) (length files) then DropFile before.name ∷ file_changes files (after ∷ later)
    else change_of before after ∷ file_changes files later

-- DOCKETS, of opens that stand too. Whether two have the same fields:
abbrev pub is_same_fadu : FaduId → FaduId → Bool
is_same_fadu Begin Begin = true
is_same_fadu End End = true
is_same_fadu First First = true
is_same_fadu Last Last = true
is_same_fadu Current Current = true
is_same_fadu Next Next = true
is_same_fadu Previous Previous = true
is_same_fadu (Number number) (Number other) = nat_eq number other
is_same_fadu _ _ = false

abbrev pub is_same_context : Context → Context → Bool
is_same_context HA HA = true
is_same_context FA FA = true
is_same_context UA UA = true
is_same_context US US = true
is_same_context _ _ = false

abbrev pub is_same_operation : Operation → Operation → Bool
is_same_operation Insert Insert = true
is_same_operation Replace Replace = true
is_same_operation Extend Extend = true
is_same_operation _ _ = false

abbrev pub is_same_direction : Direction → Direction → Bool
is_same_direction Idle Idle = true
is_same_direction (Read context) (Read other) = is_same_context context other
is_same_direction (Write operation) (Write other) = is_same_operation operation other
is_same_direction _ _ = false

abbrev pub is_same_control : Control → Control → Bool
is_same_control NotRequired NotRequired = true
is_same_control Shared Shared = true
is_same_control Exclusive Exclusive = true
is_same_control NoAccess NoAccess = true
is_same_control _ _ = false

-- of one open: its initiator and its activity
abbrev pub is_same_open : Docket → Docket → Bool
is_same_open one other = is_docket one.regime.identity one.regime.activity other

-- the fields of the open, and those of the transfer in it
abbrev pub is_same_setting : Regime → Regime → Bool
is_same_setting one other =
    bytes_eq one.identity other.identity && nat_eq one.activity other.activity && bytes_eq one.file other.file
    && nat_eq one.requested.value other.requested.value && pointwise is_same_control one.controls.each other.controls.each
    && nat_eq one.mode.value other.mode.value && is_same_name one.password other.password && nat_eq one.window other.window

abbrev pub is_same_transfer : Regime → Regime → Bool
is_same_transfer one other =
    nat_eq one.position other.position && nat_eq one.number other.number && nat_eq one.last other.last
    && is_same_direction one.direction other.direction && is_same_fadu one.fadu other.fadu
    && nat_eq one.refused other.refused && nat_eq one.point other.point
    && (if one.ended then other.ended else not other.ended) && nat_eq one.version other.version

abbrev pub is_same_regime : Regime → Regime → Bool
is_same_regime one other = is_same_setting one other && is_same_transfer one other

-- A docket keeps its identity and its activity.
abbrev pub docket_changes : List Docket → List Docket → List Change
docket_changes [] later = map (λ (docket : Docket). PutDocket docket.regime) later
docket_changes (before ∷ dockets) [] = DropDocket before.regime.identity before.regime.activity ∷ docket_changes dockets []
docket_changes (before ∷ dockets) (after ∷ later) =
    if is_same_regime before.regime after.regime then docket_changes dockets later
    else if is_same_open before after then PutDocket after.regime ∷ docket_changes dockets later
    else DropDocket before.regime.identity before.regime.activity ∷ docket_changes dockets (after ∷ later)

-- PIECES. How many both begin with:
abbrev pub common : List (List Element) → List (List Element) → ℕ
common [] others = 0
common (piece ∷ pieces) [] = 0
common (piece ∷ pieces) (other ∷ others) = if is_same_unit piece other then 1 + common pieces others else 0

-- a cut to the last common point where fewer stand, then the others
abbrev pub piece_changes : Regime → (before after : List (List Element)) → List Change
piece_changes regime before after =
    let both = common before after in
    (if nat_lt both (length before) then CutStage regime.identity regime.activity both ∷ [] else [])
    ++ stages_after regime.identity regime.activity both (drop both after)

abbrev pub all_piece_changes : List Docket → List Docket → List Change
all_piece_changes dockets later =
    flat_map (λ (docket : Docket). piece_changes docket.regime (staged_in (find (is_same_open docket) dockets)) docket.staged) later

-- files, then dockets, then their pieces
abbrev pub delta : Tables → Tables → List Change
delta before after =
    file_changes before.files after.files ++ (docket_changes before.dockets after.dockets ++ all_piece_changes before.dockets after.dockets)

-- what each change names stands in the tables before it
abbrev pub all_stand : Tables → List Change → Bool
all_stand tables [] = true
all_stand tables (change ∷ changes) = stands_in tables change && all_stand (after tables change) changes
