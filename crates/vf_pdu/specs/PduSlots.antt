-- The fields of each PDU as the contents of its row.
use Rattle.std.specs.Prelude.{nat_le, List, if◌then◌else◌}
use Rattle.vf_pdu_fields.specs.Content.{Slot}
use Rattle.vf_pdu.specs.PduAccess.{access_slots}
use Rattle.vf_pdu.specs.PduAssociation.{association_slots}
use Rattle.vf_pdu.specs.PduAttribute.{attribute_slots}
use Rattle.vf_pdu.specs.PduGroup.{group_slots}
use Rattle.vf_pdu.specs.PduNumbers.{number_of}
use Rattle.vf_pdu.specs.PduSelection.{selection_slots}
use Rattle.vf_pdu.specs.PduTransfer.{transfer_slots}
use Rattle.vf_pdu.specs.declared.pdu.Pdu.{Pdu}

-- by the groups of messages
abbrev pub slots_of : Pdu → List Slot
slots_of pdu =
    if nat_le (number_of pdu) 5 then association_slots pdu
    else if nat_le (number_of pdu) 13 then selection_slots pdu
    else if nat_le (number_of pdu) 21 then attribute_slots pdu
    else if nat_le (number_of pdu) 27 then group_slots pdu
    else if nat_le (number_of pdu) 33 then access_slots pdu
    else transfer_slots pdu
