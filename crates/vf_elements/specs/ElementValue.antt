-- The one value of each data element (ISO 8571-2; defaults left out, strings without segments).
use Rattle.std.specs.Prelude.{ℕ, Bool, true, false, List, [], ◌∷◌, Option, None, Some, IsTrue}
use Rattle.vf_base.specs.Name.{is_name}
use Rattle.vf_base.specs.declared.element.Element.{Element}
use Rattle.vf_base.specs.declared.element.Element.TheVariants.{Descriptor, Enter, Exit, Text, Binary}
use Rattle.vf_ber.specs.Tree.{Tree, plain, built, Trees, none, more}
use Rattle.vf_elements.specs.Elements.{Means, application, is_text, octet_string}
use Rattle.vf_pdu_fields.specs.Meaning.{context, universal}

-- a descriptor's data unit is its own where nothing is said of it
abbrev pub filled_part : Bool → Trees
filled_part true = none
filled_part false = more (plain (context 1) (0 ∷ [])) none

abbrev pub descriptor_parts : Option (List ℕ) → Bool → Trees
descriptor_parts None filled = filled_part filled
descriptor_parts (Some name) filled = more (plain (context 0) name) (filled_part filled)

abbrev pub value : Element → Tree
value (Descriptor name filled) = built (application 0) (descriptor_parts name filled)
value Enter = plain (application 1) []
value Exit = plain (application 2) []
value (Text class octets) = plain (universal class) octets
value (Binary octets) = plain (universal octet_string) octets

-- where there is a name, it is one
abbrev pub IsNamed : Option (List ℕ) → Type 0
IsNamed None = Unit {0}
IsNamed (Some name) = IsTrue (is_name name)

-- a text of a class that this profile has
abbrev pub IsWritable : Element → Type 0
IsWritable (Descriptor name filled) = IsNamed name
IsWritable Enter = Unit {0}
IsWritable Exit = Unit {0}
IsWritable (Text class octets) = IsTrue (is_text class)
IsWritable (Binary octets) = Unit {0}

-- the value of an element means it
abbrev pub ValueMeans : Type 0
ValueMeans = (element : Element) → IsWritable element → Means (value element) element
