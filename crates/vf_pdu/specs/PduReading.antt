-- The PDU that a value means, or its fault, as it is found: where its parts have no fault by the row of its number, what
-- they have makes the PDU.
use Rattle.std.specs.Prelude.{ℕ, ◌&&◌, nat_eq, nat_le, List, Result, Ok, Err, if◌then◌else◌}
use Rattle.vf_ber.specs.Tree.{Tree, plain, built}
use Rattle.vf_pdu_fields.specs.Content.{Slot}
use Rattle.vf_pdu_fields.specs.Fault.{Fault, Unknown}
use Rattle.vf_pdu_fields.specs.Reading.{reading}
use Rattle.vf_pdu.specs.PduComputed.{pdu_of}
use Rattle.vf_pdu.specs.PduRows.{row_of}
use Rattle.vf_pdu.specs.declared.pdu.Pdu.{Pdu}

abbrev pub found_by : ℕ → Result (List Slot) Fault → Result Pdu Fault
found_by number (Ok slots) = Ok (pdu_of number slots)
found_by number (Err fault) = Err fault

abbrev pub pdu_in : Tree → Result Pdu Fault
pdu_in (plain tag octets) = Err (Unknown tag)
pdu_in (built tag parts) =
    if nat_eq tag.class 2 && nat_le tag.number 40 then found_by tag.number (reading (row_of tag.number) parts) else Err (Unknown tag)
