-- The fault of a value that means no PDU (profile): it is none, or its parts have a fault by the row of its number.
use Rattle.std.specs.Prelude.{◌&&◌, nat_eq, nat_le, Option, Some, if◌then◌else◌}
use Rattle.vf_ber.specs.Tree.{Tree, plain, built}
use Rattle.vf_pdu_fields.specs.Fault.{Fault, Unknown}
use Rattle.vf_pdu_fields.specs.Faults.{fault_in}
use Rattle.vf_pdu.specs.PduRows.{row_of}

-- there are 41 PDUs
abbrev pub fault : Tree → Option Fault
fault (plain tag octets) = Some (Unknown tag)
fault (built tag parts) =
    if nat_eq tag.class 2 && nat_le tag.number 40 then fault_in (row_of tag.number) parts else Some (Unknown tag)
