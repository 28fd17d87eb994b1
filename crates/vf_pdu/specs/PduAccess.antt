-- The PDUs of access to the contents (ISO 8571-4; the fields are this profile's): the row of each, its fields as
-- contents of the row, and the PDU that such fields make.
use Rattle.std.specs.Prelude.{List, [], ◌∷◌}
use Rattle.vf_pdu_fields.specs.Contained.{context_in, fadu_in, operation_in, slot_in}
use Rattle.vf_pdu_fields.specs.Content.{Slot}
use Rattle.vf_pdu_fields.specs.Rows.{required, optional, Row, row, a, int, or, fadu}
use Rattle.vf_pdu_fields.specs.Slots.{context_slot, fadu_slot, num, operation_slot}
use Rattle.vf_pdu_parameters.specs.Parameters.{diagnostic}
use Rattle.vf_pdu_parameters.specs.ParameterSlots.{maybe_diagnostic}
use Rattle.vf_pdu.specs.PduEntry.{Entry, answer, answered, entry, number_at}
use Rattle.vf_pdu.specs.declared.pdu.Pdu.{Pdu}
use Rattle.vf_pdu.specs.declared.pdu.Pdu.TheVariants.{LocateRequest, LocateResponse, EraseRequest, EraseResponse, ReadRequest, WriteRequest}

abbrev pub locate_request : Row
locate_request = row (a 0 fadu required ∷ [])

abbrev pub locate_response : Row
locate_response = row (
    a 0 diagnostic optional ∷
    a 1 (int 0 4294967295) (or 0) ∷ [])

abbrev pub erase_request : Row
erase_request = row (a 0 fadu (or 0) ∷ [])

abbrev pub read_request : Row
read_request = row (
    a 0 fadu (or 0) ∷
    a 1 (int 0 3) (or 2) ∷ [])

abbrev pub write_request : Row
write_request = row (
    a 0 (int 1 3) required ∷
    a 1 fadu (or 0) ∷ [])

-- the fields of each, as the contents of its row
abbrev pub access_slots : Pdu → List Slot
access_slots (LocateRequest fadu) = fadu_slot fadu ∷ []
access_slots (LocateResponse diagnostic position) = maybe_diagnostic diagnostic ∷ num position ∷ []
access_slots (EraseRequest fadu) = fadu_slot fadu ∷ []
access_slots (EraseResponse diagnostic) = maybe_diagnostic diagnostic ∷ []
access_slots (ReadRequest fadu context) = fadu_slot fadu ∷ context_slot context ∷ []
access_slots (WriteRequest operation fadu) = operation_slot operation ∷ fadu_slot fadu ∷ []
access_slots _ = []

-- the entries of numbers 28 to 33
abbrev pub access_entries : List Entry
access_entries =
    entry locate_request (λ all. LocateRequest (fadu_in (slot_in 0 all))) ∷
    entry locate_response (λ all. LocateResponse (answered all) (number_at 1 all)) ∷
    entry erase_request (λ all. EraseRequest (fadu_in (slot_in 0 all))) ∷
    entry answer (λ all. EraseResponse (answered all)) ∷
    entry read_request (λ all. ReadRequest (fadu_in (slot_in 0 all)) (context_in (slot_in 1 all))) ∷
    entry write_request (λ all. WriteRequest (operation_in (slot_in 0 all)) (fadu_in (slot_in 1 all))) ∷ []
