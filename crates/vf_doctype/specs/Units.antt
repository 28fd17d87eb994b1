-- How the data elements of a transfer make data units (ISO 8571-2, document types): in an unstructured file all are
-- one unit, in a sequential one each descriptor begins a unit.
use Rattle.std.specs.Prelude.{◌≡◌, Bool, true, false, ◌||◌, List, [], ◌∷◌, Option, Some, None, Result, Ok, Err, IsOk, if◌then◌else◌}
use Rattle.vf_base.specs.declared.access.Constraint.{Constraint}
use Rattle.vf_base.specs.declared.access.Constraint.TheVariants.{Unstructured, SequentialFlat}
use Rattle.vf_base.specs.declared.element.Element.{Element}
use Rattle.vf_base.specs.declared.element.Element.TheVariants.{Descriptor, Enter, Exit, Text, Binary}
use Rattle.vf_doctype.specs.declared.doc_type.DocType.{DocType}
use Rattle.vf_doctype.specs.declared.errors.DocError.{DocError}
use Rattle.vf_doctype.specs.declared.errors.DocError.TheVariants.{BadElement, NoMemory}
use Rattle.vf_doctype.specs.Checks.{fault}
use Rattle.vf_doctype.specs.DocumentTypes.{constraint_of}

abbrev pub is_descriptor : Element → Bool
is_descriptor (Descriptor name filled) = true
is_descriptor _ = false

-- whether an element has a unit to go into: every one of an unstructured file, a descriptor, and what stands after
-- a descriptor
abbrev pub starts_open : Constraint → Bool
starts_open Unstructured = true
starts_open SequentialFlat = false

-- the fault of an element that stands in a unit, or in none
abbrev pub fault_at : DocType → (is_open : Bool) → Element → Option DocError
fault_at doc is_open element =
    if is_open || is_descriptor element then fault doc element else Some BadElement

abbrev pub or_else : Option DocError → Option DocError → Option DocError
or_else (Some error) later = Some error
or_else None later = later

-- the first fault decides
abbrev pub first_fault : DocType → (is_open : Bool) → List Element → Option DocError
first_fault doc is_open [] = None
first_fault doc is_open (element ∷ elements) =
    or_else (fault_at doc is_open element) (first_fault doc (is_open || is_descriptor element) elements)

-- elements in groups: what stands before the first descriptor, and what stands after each descriptor
abbrev pub grouped : List Element → List Element × List (List Element)
grouped [] = ([], [])
grouped (Descriptor name filled ∷ elements) = let rest = grouped elements in ([], rest.0 ∷ rest.1)
grouped (Enter ∷ elements) = let rest = grouped elements in (Enter ∷ rest.0, rest.1)
grouped (Exit ∷ elements) = let rest = grouped elements in (Exit ∷ rest.0, rest.1)
grouped (Text class octets ∷ elements) = let rest = grouped elements in (Text class octets ∷ rest.0, rest.1)
grouped (Binary octets ∷ elements) = let rest = grouped elements in (Binary octets ∷ rest.0, rest.1)

-- the data units of elements that have no fault; before the first descriptor there is then nothing
abbrev pub units_of : Constraint → List Element → List (List Element)
units_of Unstructured elements = elements ∷ []
units_of SequentialFlat elements = (grouped elements).1

abbrev pub unless : {A : Type 0} → Option DocError → A → Result A DocError
unless (Some error) value = Err error
unless None value = Ok value

abbrev pub units : DocType → List Element → Result (List (List Element)) DocError
units doc elements =
    let constraint = constraint_of doc.kind in
    unless (first_fault doc (starts_open constraint) elements) (units_of constraint elements)

-- Where a call answers an error, the definition answers the same one. Memory may be wanting, but only where the
-- definition refuses nothing.
abbrev pub Refuses : {A : Type 0} → Result A DocError → DocError → Type 0
Refuses answer NoMemory = IsOk answer
Refuses answer error = answer ≡ Err error
