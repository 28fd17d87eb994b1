-- The record of changes (profile): their number, and for each the octet of its kind and the fields of its row.
use Rattle.std.specs.Prelude.{ℕ, ◌==◌, Bool, true, ◌&&◌, ◌++◌, nat_eq, nat_le, List, ◌∷◌, length, Option, Some, None, if◌then◌else◌}
use Rattle.vf_attr.specs.Attributes.{attributes_of}
use Rattle.vf_attr.specs.declared.attributes.Attributes.{Attributes}
use Rattle.vf_attr.specs.declared.file.File.{File}
use Rattle.vf_base.specs.declared.access.Constraint.{Constraint}
use Rattle.vf_base.specs.declared.access.Constraint.TheVariants.{Unstructured, SequentialFlat}
use Rattle.vf_base.specs.declared.contents.Contents.{Contents}
use Rattle.vf_base.specs.declared.element.Element.{Element}
use Rattle.vf_tables.specs.declared.change.Change.{Change}
use Rattle.vf_tables.specs.declared.change.Change.TheVariants.{PutUser, PutFile, PutAttributes, DropFile, PutDocket, Stage, CutStage, DropDocket, PutTask, StageTask, CutTask, DropTask}
use Rattle.vf_tree.specs.FileTree.{octets_in, parts_in}
use Rattle.vf_tree.specs.declared.limits.TheConstants.{MOST_FILE_OCTETS, MOST_FILE_PARTS}
use Rattle.vf_store_record.specs.declared.changes.Docketed.{Docketed}
use Rattle.vf_store_record.specs.declared.changes.Piece.{Piece}
use Rattle.vf_store_record.specs.Formats.{Format, ◌>>=◌, octet, both, shaped, listed}
use Rattle.vf_store_record.specs.Fields.{name, number32}
use Rattle.vf_store_record.specs.Entries.{attributes, elements, kind_number, plan, regime, units_in, user}

-- the constraint set of a file of this contents type
abbrev pub constraint_for : Contents → Constraint
constraint_for contents = if nat_eq (kind_number contents.kind) 2 then SequentialFlat else Unstructured

abbrev pub has_shape : Constraint → List (List Element) → Bool
has_shape Unstructured units = nat_eq (length units) 1
has_shape SequentialFlat units = true

-- the units are a tree of the constraint set, within the limits of a file
abbrev pub is_tree : Constraint → List (List Element) → Bool
is_tree constraint units = has_shape constraint units && nat_le (octets_in units) MOST_FILE_OCTETS && nat_le (parts_in units) MOST_FILE_PARTS

abbrev pub file_from : List ℕ → Attributes → List (List Element) → File
file_from called told units = record {
  name = called;
  permitted = told.permitted;
  contents = told.contents;
  terms = told.terms;
  created = told.created;
  modified = told.modified;
  read = told.read;
  changed = told.changed;
  version = told.version;
  tree = record { constraint = constraint_for told.contents; units = units };
}

-- the units of a tree that a file of this contents type may have
abbrev pub tree_read : Contents → List ℕ → Option (List (List Element) × List ℕ)
tree_read contents octets = (units_in contents).read octets >>= λ units. if is_tree (constraint_for contents) units.0 then Some units else None

-- a file: its name, its attributes, and its units as lists of strings
abbrev pub file_read : List ℕ → Option (File × List ℕ)
file_read octets =
    (both name attributes).read octets >>= λ head. tree_read head.0.1.contents head.1
    >>= λ units. Some (file_from head.0.0 head.0.1 units.0, units.1)

abbrev pub file_spelled : File → List ℕ
file_spelled given = name.spell given.name ++ (attributes.spell (attributes_of given) ++ (units_in given.contents).spell given.tree.units)

unfoldable pub file : Format File
file = record { spell = file_spelled; read = file_read }

-- the identity and the activity of a docket
abbrev pub docketed_from : List ℕ × ℕ → Docketed
docketed_from row = record { identity = row.0; activity = row.1 }

abbrev pub docketed_parts : Docketed → List ℕ × ℕ
docketed_parts value = (value.identity, value.activity)

unfoldable pub docketed : Format Docketed
docketed = shaped docketed_from docketed_parts (both name number32)

-- a piece: the points of its ends, and its elements
abbrev pub piece_from : ℕ × (ℕ × List Element) → Piece
piece_from row = record { first = row.0; last = row.1.0; elements = row.1.1 }

abbrev pub piece_parts : Piece → ℕ × (ℕ × List Element)
piece_parts value = (value.first, (value.last, value.elements))

unfoldable pub piece : Format Piece
piece = shaped piece_from piece_parts (both number32 (both number32 elements))

unfoldable pub renaming : Format (List ℕ × (List ℕ × Attributes))
renaming = both name (both name attributes)

unfoldable pub staging : Format (Docketed × Piece)
staging = both docketed piece

unfoldable pub cutting : Format (Docketed × ℕ)
cutting = both docketed number32

unfoldable pub task_staging : Format (ℕ × (ℕ × List Element))
task_staging = both number32 (both number32 elements)

unfoldable pub task_cutting : Format (ℕ × ℕ)
task_cutting = both number32 number32

abbrev pub change_spelled : Change → List ℕ
change_spelled (PutUser value) = 1 ∷ user.spell value
change_spelled (PutFile value) = 2 ∷ file.spell value
change_spelled (PutAttributes old new value) = 3 ∷ renaming.spell (old, (new, value))
change_spelled (DropFile old) = 4 ∷ name.spell old
change_spelled (PutDocket value) = 5 ∷ regime.spell value
change_spelled (Stage identity activity first last values) =
    6 ∷ staging.spell (record { identity = identity; activity = activity }, record { first = first; last = last; elements = values })
change_spelled (CutStage identity activity point) = 7 ∷ cutting.spell (record { identity = identity; activity = activity }, point)
change_spelled (DropDocket identity activity) = 8 ∷ docketed.spell (record { identity = identity; activity = activity })
change_spelled (PutTask value) = 9 ∷ plan.spell value
change_spelled (StageTask activity point values) = 10 ∷ task_staging.spell (activity, (point, values))
change_spelled (CutTask activity point) = 11 ∷ task_cutting.spell (activity, point)
change_spelled (DropTask activity) = 12 ∷ number32.spell activity

-- a change that is made of what is read
abbrev pub read_as : {A : Type 0} → (A → Change) → Option (A × List ℕ) → Option (Change × List ℕ)
read_as make found = found >>= λ value. Some (make value.0, value.1)

abbrev pub change_after : ℕ → List ℕ → Option (Change × List ℕ)
change_after kind rest =
    if kind == 1 then read_as PutUser (user.read rest)
    else if kind == 2 then read_as PutFile (file.read rest)
    else if kind == 3 then read_as (λ (found : List ℕ × (List ℕ × Attributes)). PutAttributes found.0 found.1.0 found.1.1) (renaming.read rest)
    else if kind == 4 then read_as DropFile (name.read rest)
    else if kind == 5 then read_as PutDocket (regime.read rest)
    else if kind == 6 then read_as (λ (found : Docketed × Piece). Stage found.0.identity found.0.activity found.1.first found.1.last found.1.elements) (staging.read rest)
    else if kind == 7 then read_as (λ (found : Docketed × ℕ). CutStage found.0.identity found.0.activity found.1) (cutting.read rest)
    else if kind == 8 then read_as (λ (found : Docketed). DropDocket found.identity found.activity) (docketed.read rest)
    else if kind == 9 then read_as PutTask (plan.read rest)
    else if kind == 10 then read_as (λ (found : ℕ × (ℕ × List Element)). StageTask found.0 found.1.0 found.1.1) (task_staging.read rest)
    else if kind == 11 then read_as (λ (found : ℕ × ℕ). CutTask found.0 found.1) (task_cutting.read rest)
    else if kind == 12 then read_as DropTask (number32.read rest)
    else None

unfoldable pub change : Format Change
change = record { spell = change_spelled; read = λ octets. octet.read octets >>= λ found. change_after found.0 found.1 }

unfoldable pub changes : Format (List Change)
changes = listed change

-- the record of changes
abbrev pub record_of : List Change → List ℕ
record_of listed_changes = changes.spell listed_changes

abbrev pub if_all : Option (List Change × List ℕ) → Option (List Change)
if_all None = None
if_all (Some found) = if nat_eq (length found.1) 0 then Some found.0 else None

-- the changes of which octets are the record; none where they are no record
abbrev pub changes_of : List ℕ → Option (List Change)
changes_of octets = if_all (changes.read octets)
