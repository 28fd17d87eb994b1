-- Which PDU a value means, as it is computed (ISO 8571-4): the PDU of its number, with the fields that its parts have by
-- its row, where they have no fault.
use Rattle.std.specs.Prelude.{ℕ, ◌&&◌, nat_eq, nat_le, List, Option, Some, None, Result, Ok, Err, if◌then◌else◌}
use Rattle.vf_ber.specs.Tree.{Tree, plain, built}
use Rattle.vf_pdu_fields.specs.Content.{Slot}
use Rattle.vf_pdu_fields.specs.Fault.{Fault}
use Rattle.vf_pdu_fields.specs.Reading.{reading}
use Rattle.vf_pdu.specs.PduEntry.{Entry}
use Rattle.vf_pdu.specs.PduRows.{entry_of, row_of}
use Rattle.vf_pdu.specs.declared.pdu.Pdu.{Pdu}

abbrev pub pdu_of : ℕ → List Slot → Pdu
pdu_of number all = let found : Entry = entry_of number in found.made all

abbrev pub pdu_from : ℕ → Result (List Slot) Fault → Option Pdu
pdu_from number (Ok slots) = Some (pdu_of number slots)
pdu_from number (Err fault) = None

abbrev pub meaning : Tree → Option Pdu
meaning (plain tag octets) = None
meaning (built tag parts) =
    if nat_eq tag.class 2 && nat_le tag.number 40 then pdu_from tag.number (reading (row_of tag.number) parts) else None
