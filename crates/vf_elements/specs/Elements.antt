-- Which data element a value means (ISO 8571-2, data elements, in the string types of ISO 8824; the tags of descriptor,
-- enter and exit are profile).
use Rattle.std.specs.Prelude.{◌≡◌, ℕ, Bool, true, ◌||◌, nat_eq, List, [], ◌∷◌, Some, IsTrue}
use Rattle.vf_base.specs.declared.element.Element.{Element}
use Rattle.vf_base.specs.declared.element.Element.TheVariants.{Descriptor, Enter, Exit, Text, Binary}
use Rattle.vf_ber.specs.Primitive.{octets_of}
use Rattle.vf_ber.specs.Tree.{Tag, Tree, plain, built, Trees, root}
use Rattle.vf_pdu_fields.specs.Content.{Truth, Slot, slots}
use Rattle.vf_pdu_fields.specs.Meaning.{Holds, all_fit, universal}
use Rattle.vf_pdu_fields.specs.Rows.{Boolean, Text as TextForm, optional, default, one, Row, row, a}
use Rattle.vf_pdu_fields.specs.Slots.{maybe_octets}

abbrev pub application : ℕ → Tag
application number = record { class = 1; number = number }

-- IA5 22, graphic 25, visible 26, general 27: the universal classes of character strings
abbrev pub is_text : ℕ → Bool
is_text class = nat_eq class 22 || nat_eq class 25 || nat_eq class 26 || nat_eq class 27

-- the universal class OCTET STRING
abbrev pub octet_string : ℕ
octet_string = 4

-- The fields of a descriptor: the name of a FADU, and whether it has a data unit of its own.
abbrev pub descriptor : Row
descriptor = row (
    a 0 (one TextForm) optional ∷
    a 1 (one Boolean) (default (Truth true)) ∷ [])

abbrev pub descriptor_slots : Element → List Slot
descriptor_slots (Descriptor name filled) = maybe_octets name ∷ Some (Truth filled) ∷ []
descriptor_slots _ = []

-- the value has a descriptor's parts, with these fields, in range
pub record IsDescriptor (tree : Tree) (element : Element) : Type 0 where
  pub parts : Trees
  pub built_of : tree ≡ built (application 0) parts
  pub has : Holds descriptor parts (slots (descriptor_slots element))
  pub in_range : IsTrue (all_fit descriptor (slots (descriptor_slots element)))

-- The octets of a string may come in segments, each an OCTET STRING.
abbrev pub Means : Tree → Element → Type 0
Means tree (Descriptor name filled) = IsDescriptor tree (Descriptor name filled)
Means tree Enter = tree ≡ plain (application 1) []
Means tree Exit = tree ≡ plain (application 2) []
Means tree (Text class octets) = IsTrue (is_text class) × (root tree ≡ universal class) × (octets_of tree ≡ Some octets)
Means tree (Binary octets) = (root tree ≡ universal octet_string) × (octets_of tree ≡ Some octets)
