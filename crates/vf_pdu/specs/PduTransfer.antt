-- The PDUs of transfers and restarts (ISO 8571-4; the fields are this profile's): the row of each, its fields as
-- contents of the row, and the PDU that such fields make.
use Rattle.std.specs.Prelude.{List, [], ◌∷◌}
use Rattle.vf_pdu_fields.specs.Content.{Slot}
use Rattle.vf_pdu_fields.specs.Rows.{Row, row, a, or, point}
use Rattle.vf_pdu_fields.specs.Slots.{num}
use Rattle.vf_pdu_parameters.specs.Parameters.{diagnostic}
use Rattle.vf_pdu_parameters.specs.ParameterSlots.{maybe_diagnostic}
use Rattle.vf_pdu.specs.PduEntry.{Entry, answer, answered, bare, entry, number_at}
use Rattle.vf_pdu.specs.declared.pdu.Pdu.{Pdu}
use Rattle.vf_pdu.specs.declared.pdu.Pdu.TheVariants.{DataEnd, TransferEndRequest, TransferEndResponse, CancelRequest, CancelResponse, RestartRequest, RestartResponse}

-- a restart and its response
abbrev pub restart : Row
restart = row (a 0 point (or 0) ∷ [])

-- the fields of each, as the contents of its row
abbrev pub transfer_slots : Pdu → List Slot
transfer_slots (DataEnd diagnostic) = maybe_diagnostic diagnostic ∷ []
transfer_slots TransferEndRequest = []
transfer_slots (TransferEndResponse diagnostic) = maybe_diagnostic diagnostic ∷ []
transfer_slots (CancelRequest diagnostic) = maybe_diagnostic diagnostic ∷ []
transfer_slots CancelResponse = []
transfer_slots (RestartRequest point) = num point ∷ []
transfer_slots (RestartResponse point) = num point ∷ []
transfer_slots _ = []

-- the entries of numbers 34 to 40
abbrev pub transfer_entries : List Entry
transfer_entries =
    entry answer (λ all. DataEnd (answered all)) ∷
    entry bare (λ all. TransferEndRequest) ∷
    entry answer (λ all. TransferEndResponse (answered all)) ∷
    entry answer (λ all. CancelRequest (answered all)) ∷
    entry bare (λ all. CancelResponse) ∷
    entry restart (λ all. RestartRequest (number_at 0 all)) ∷
    entry restart (λ all. RestartResponse (number_at 0 all)) ∷ []
