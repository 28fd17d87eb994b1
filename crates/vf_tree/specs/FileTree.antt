-- A file as a tree of FADUs (ISO 8571-2, file model), as far as the constraint sets of this profile reach: a root
-- with a list of data units below it.
use Rattle.std.specs.Prelude.{◌≡◌, ℕ, ◌+◌, ◌≤◌, ⊤, List, [], ◌∷◌, ◌++◌, length}
use Rattle.std.specs.List.{sum_by}
use Rattle.vf_base.specs.declared.access.Constraint.{Constraint}
use Rattle.vf_base.specs.declared.access.Constraint.TheVariants.{Unstructured, SequentialFlat}
use Rattle.vf_base.specs.declared.element.Element.{Element}
use Rattle.vf_base.specs.declared.element.Element.TheVariants.{Text, Binary}
use Rattle.vf_tree.specs.declared.limits.TheConstants.{MOST_FILE_OCTETS, MOST_FILE_PARTS}

-- a data unit: its strings, in order
abbrev pub DataUnit : Type 0
DataUnit = List Element

pub record FileTree : Type 0 where
  pub constraint : Constraint
  pub units : List DataUnit

-- an unstructured file is one data unit; a sequential flat file has any number
abbrev pub IsShaped : Constraint → List DataUnit → Type 0
IsShaped Unstructured units = length units ≡ 1
IsShaped SequentialFlat units = ⊤

abbrev pub HasShape : FileTree → Type 0
HasShape tree = IsShaped tree.constraint tree.units

-- a new file
abbrev pub new_file : Constraint → FileTree
new_file Unstructured = record { constraint = Unstructured; units = [] ∷ [] }
new_file SequentialFlat = record { constraint = SequentialFlat; units = [] }

-- the strings of all units, one after another
abbrev pub strings : List DataUnit → List Element
strings [] = []
strings (unit ∷ units) = unit ++ strings units

-- the octets of a string
abbrev pub octets_of : Element → ℕ
octets_of (Text class octets) = length octets
octets_of (Binary octets) = length octets
octets_of _ = 0

abbrev pub octets_of_unit : DataUnit → ℕ
octets_of_unit unit = sum_by octets_of unit

-- the octets of all strings
abbrev pub octets_in : List DataUnit → ℕ
octets_in units = sum_by octets_of_unit units

-- a unit and its strings
abbrev pub parts_of_unit : DataUnit → ℕ
parts_of_unit unit = length unit + 1

-- the strings and the units together
abbrev pub parts_in : List DataUnit → ℕ
parts_in units = sum_by parts_of_unit units

-- the limits of a file (profile)
abbrev pub IsWithinFile : List DataUnit → Type 0
IsWithinFile units = (octets_in units ≤ MOST_FILE_OCTETS) × (parts_in units ≤ MOST_FILE_PARTS)

abbrev pub IsFile : FileTree → Type 0
IsFile tree = HasShape tree × IsWithinFile tree.units
