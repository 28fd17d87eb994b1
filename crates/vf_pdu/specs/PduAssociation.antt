-- The PDUs of associations and aborts (ISO 8571-4; the fields are this profile's): the row of each, its fields as
-- contents of the row, and the PDU that such fields make.
use Rattle.std.specs.Prelude.{List, [], ◌∷◌}
use Rattle.vf_pdu_fields.specs.declared.limits.TheConstants.{MOST_PLACE}
use Rattle.vf_pdu_fields.specs.Content.{Slot}
use Rattle.vf_pdu_fields.specs.Rows.{Text, String, required, optional, one, Row, row, a, int, or}
use Rattle.vf_pdu_fields.specs.Slots.{maybe_octets, num}
use Rattle.vf_pdu_parameters.specs.Parameters.{diagnostic}
use Rattle.vf_pdu_parameters.specs.ParameterSlots.{maybe_diagnostic}
use Rattle.vf_pdu.specs.PduEntry.{Entry, answered, bare, entry, number_at, octets_at}
use Rattle.vf_pdu.specs.declared.pdu.Pdu.{Pdu}
use Rattle.vf_pdu.specs.declared.pdu.Pdu.TheVariants.{InitializeRequest, InitializeResponse, TerminateRequest, TerminateResponse, UserAbort, ProviderAbort}

abbrev pub initialize_request : Row
initialize_request = row (
    a 0 (int 0 65535) required ∷
    a 1 (one Text) optional ∷
    a 2 (one String) optional ∷
    a 3 (int 1 65535) (or 1) ∷ [])

abbrev pub initialize_response : Row
initialize_response = row (
    a 0 diagnostic optional ∷
    a 1 (int 0 65535) (or 0) ∷
    a 2 (int 1 65535) (or 1) ∷ [])

abbrev pub user_abort : Row
user_abort = row (a 0 (int 0 65535) (or 0) ∷ [])

abbrev pub provider_abort : Row
provider_abort = row (
    a 0 (int 0 65535) required ∷
    a 1 (int 0 MOST_PLACE) (or 0) ∷ [])

-- the fields of each, as the contents of its row
abbrev pub association_slots : Pdu → List Slot
association_slots (InitializeRequest units identity password window) = num units ∷ maybe_octets identity ∷ maybe_octets password ∷ num window ∷ []
association_slots (InitializeResponse diagnostic units window) = maybe_diagnostic diagnostic ∷ num units ∷ num window ∷ []
association_slots TerminateRequest = []
association_slots TerminateResponse = []
association_slots (UserAbort number) = num number ∷ []
association_slots (ProviderAbort number place) = num number ∷ num place ∷ []
association_slots _ = []

-- the entries of numbers 0 to 5
abbrev pub association_entries : List Entry
association_entries =
    entry initialize_request (λ all. InitializeRequest (number_at 0 all) (octets_at 1 all) (octets_at 2 all) (number_at 3 all)) ∷
    entry initialize_response (λ all. InitializeResponse (answered all) (number_at 1 all) (number_at 2 all)) ∷
    entry bare (λ all. TerminateRequest) ∷
    entry bare (λ all. TerminateResponse) ∷
    entry user_abort (λ all. UserAbort (number_at 0 all)) ∷
    entry provider_abort (λ all. ProviderAbort (number_at 0 all) (number_at 1 all)) ∷ []
