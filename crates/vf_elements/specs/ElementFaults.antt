-- The fault of a value that means no data element (profile).
use Rattle.std.specs.Prelude.{ℕ, ◌+◌, Bool, true, false, ◌&&◌, ◌||◌, nat_eq, List, [], ◌∷◌, Option, None, Some, is_some, if◌then◌else◌}
use Rattle.vf_ber.specs.Primitive.{is_octet_string, octets_of}
use Rattle.vf_ber.specs.Tree.{Tag, Tree, plain, built, Trees, none, more, root}
use Rattle.vf_elements.specs.Elements.{descriptor, is_text, octet_string}
use Rattle.vf_pdu_fields.specs.Fault.{Fault, Unknown, Field}
use Rattle.vf_pdu_fields.specs.Faults.{fault_in}

-- the tag of a text or of a binary
abbrev pub is_string : Tag → Bool
is_string tag = nat_eq tag.class 0 && (nat_eq tag.number octet_string || is_text tag.number)

-- an OCTET STRING, itself in segments or not
abbrev pub is_segment : Tree → Bool
is_segment part = is_octet_string (root part) && is_some (octets_of part)

-- the first part that is no segment
abbrev pub wrong_segment : ℕ → Trees → Option Fault
wrong_segment place none = None
wrong_segment place (more part parts) = if is_segment part then wrong_segment (place + 1) parts else Some (Field place)

abbrev pub is_empty : List ℕ → Bool
is_empty [] = true
is_empty (octet ∷ octets) = false

-- the tag of an enter or an exit
abbrev pub is_mark : Tag → Bool
is_mark tag = nat_eq tag.class 1 && (nat_eq tag.number 1 || nat_eq tag.number 2)

abbrev pub is_descriptor : Tag → Bool
is_descriptor tag = nat_eq tag.class 1 && nat_eq tag.number 0

-- Enter and exit are primitive and empty, and a descriptor is constructed; another value of such a tag is unknown.
abbrev pub element_fault : Tree → Option Fault
element_fault (plain tag octets) = if is_string tag || (is_mark tag && is_empty octets) then None else Some (Unknown tag)
element_fault (built tag parts) =
    if is_string tag then wrong_segment 0 parts
    else if is_descriptor tag then fault_in descriptor parts
    else Some (Unknown tag)
