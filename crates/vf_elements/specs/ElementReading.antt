-- The data element that a value means, or its fault, as it is found.
use Rattle.std.specs.Prelude.{ℕ, Bool, false, ◌&&◌, nat_eq, List, [], ◌∷◌, Option, None, Some, Result, Ok, Err, if◌then◌else◌}
use Rattle.vf_base.specs.declared.element.Element.{Element}
use Rattle.vf_base.specs.declared.element.Element.TheVariants.{Descriptor, Enter, Exit, Text, Binary}
use Rattle.vf_ber.specs.Primitive.{octets_in}
use Rattle.vf_ber.specs.Tree.{Tag, Tree, plain, built, Trees}
use Rattle.vf_elements.specs.ElementFaults.{is_descriptor, is_empty, is_mark, is_string, wrong_segment}
use Rattle.vf_elements.specs.Elements.{descriptor, octet_string}
use Rattle.vf_pdu_fields.specs.Content.{Truth, Octets, Slot}
use Rattle.vf_pdu_fields.specs.Fault.{Fault, Unknown}
use Rattle.vf_pdu_fields.specs.Reading.{reading}

-- a string by its tag
abbrev pub string_as : Tag → List ℕ → Element
string_as tag octets = if nat_eq tag.number octet_string then Binary octets else Text tag.number octets

abbrev pub mark_as : Tag → Element
mark_as tag = if nat_eq tag.number 1 then Enter else Exit

abbrev pub octets_of_slot : Slot → Option (List ℕ)
octets_of_slot (Some (Octets octets)) = Some octets
octets_of_slot _ = None

abbrev pub truth_of_slot : Slot → Bool
truth_of_slot (Some (Truth truth)) = truth
truth_of_slot _ = false

abbrev pub descriptor_as : List Slot → Element
descriptor_as (name ∷ filled ∷ []) = Descriptor (octets_of_slot name) (truth_of_slot filled)
descriptor_as _ = Enter

abbrev pub descriptor_from : Result (List Slot) Fault → Result Element Fault
descriptor_from (Ok slots) = Ok (descriptor_as slots)
descriptor_from (Err fault) = Err fault

abbrev pub told_by : Tag → Option Fault → Result Element Fault
told_by tag (Some fault) = Err fault
told_by tag None = Err (Unknown tag)

abbrev pub string_from : Tag → Trees → Option (List ℕ) → Result Element Fault
string_from tag parts (Some octets) = Ok (string_as tag octets)
string_from tag parts None = told_by tag (wrong_segment 0 parts)

abbrev pub element_in : Tree → Result Element Fault
element_in (plain tag octets) =
    if is_string tag then Ok (string_as tag octets)
    else if is_mark tag && is_empty octets then Ok (mark_as tag)
    else Err (Unknown tag)
element_in (built tag parts) =
    if is_string tag then string_from tag parts (octets_in parts)
    else if is_descriptor tag then descriptor_from (reading descriptor parts)
    else Err (Unknown tag)
