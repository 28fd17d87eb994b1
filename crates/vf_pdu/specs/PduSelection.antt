-- The PDUs of selections (ISO 8571-4; the fields are this profile's): the row of each, its fields as
-- contents of the row, and the PDU that such fields make.
use Rattle.std.specs.Prelude.{List, [], ◌∷◌, Some}
use Rattle.std.specs.Option.{option_map}
use Rattle.vf_pdu_fields.specs.Contained.{actions_in, attribute_controls_in, octets_in, slot_in, there}
use Rattle.vf_pdu_fields.specs.Content.{Octets, Slot}
use Rattle.vf_pdu_fields.specs.Rows.{Text, String, Controls, required, optional, one, Row, row, a, int, or}
use Rattle.vf_pdu_fields.specs.Slots.{attribute_controls, maybe_octets, num}
use Rattle.vf_pdu_parameters.specs.ContainedParameters.{contents_in, terms_in}
use Rattle.vf_pdu_parameters.specs.Parameters.{contents, diagnostic, no_terms, terms}
use Rattle.vf_pdu_parameters.specs.ParameterSlots.{contents_content, maybe_diagnostic, terms_content}
use Rattle.vf_pdu.specs.PduEntry.{Entry, answer, answered, bare, entry, number_at, octets_at}
use Rattle.vf_pdu.specs.declared.pdu.Pdu.{Pdu}
use Rattle.vf_pdu.specs.declared.pdu.Pdu.TheVariants.{SelectRequest, SelectResponse, DeselectRequest, DeselectResponse, CreateRequest, CreateResponse, DeleteRequest, DeleteResponse}

abbrev pub select_request : Row
select_request = row (
    a 0 (one Text) required ∷
    a 1 (int 0 255) (or 0) ∷
    a 2 (one (Controls 3)) optional ∷
    a 3 (one String) optional ∷ [])

abbrev pub create_request : Row
create_request = row (
    a 0 (int 0 1) (or 0) ∷
    a 1 (one Text) required ∷
    a 2 contents required ∷
    a 3 (int 0 255) (or 255) ∷
    a 4 terms no_terms ∷
    a 5 (int 0 255) (or 0) ∷
    a 6 (one (Controls 3)) optional ∷
    a 7 (one String) optional ∷ [])

-- the fields of each, as the contents of its row
abbrev pub selection_slots : Pdu → List Slot
selection_slots (SelectRequest name requested controls password) =
    Some (Octets name) ∷ num requested.value ∷ option_map attribute_controls controls ∷ maybe_octets password ∷ []
selection_slots (SelectResponse diagnostic) = maybe_diagnostic diagnostic ∷ []
selection_slots DeselectRequest = []
selection_slots (DeselectResponse diagnostic) = maybe_diagnostic diagnostic ∷ []
selection_slots (CreateRequest over name contents permitted terms requested controls password) =
    num over ∷ Some (Octets name) ∷ Some (contents_content contents) ∷ num permitted.value ∷ Some (terms_content terms)
    ∷ num requested.value ∷ option_map attribute_controls controls ∷ maybe_octets password ∷ []
selection_slots (CreateResponse diagnostic) = maybe_diagnostic diagnostic ∷ []
selection_slots DeleteRequest = []
selection_slots (DeleteResponse diagnostic) = maybe_diagnostic diagnostic ∷ []
selection_slots _ = []

-- the entries of numbers 6 to 13
abbrev pub selection_entries : List Entry
selection_entries =
    entry select_request (λ all. SelectRequest (octets_in (there (slot_in 0 all))) (actions_in (there (slot_in 1 all))) (option_map attribute_controls_in (slot_in 2 all)) (octets_at 3 all)) ∷
    entry answer (λ all. SelectResponse (answered all)) ∷
    entry bare (λ all. DeselectRequest) ∷
    entry answer (λ all. DeselectResponse (answered all)) ∷
    entry create_request (λ all. CreateRequest (number_at 0 all) (octets_in (there (slot_in 1 all))) (contents_in (there (slot_in 2 all))) (actions_in (there (slot_in 3 all)))
    (terms_in (there (slot_in 4 all))) (actions_in (there (slot_in 5 all))) (option_map attribute_controls_in (slot_in 6 all)) (octets_at 7 all)) ∷
    entry answer (λ all. CreateResponse (answered all)) ∷
    entry bare (λ all. DeleteRequest) ∷
    entry answer (λ all. DeleteResponse (answered all)) ∷ []
