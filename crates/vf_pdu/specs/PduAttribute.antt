-- The PDUs of attributes and opens (ISO 8571-4; the fields are this profile's): the row of each, its fields as
-- contents of the row, and the PDU that such fields make.
use Rattle.std.specs.Prelude.{List, [], ◌∷◌}
use Rattle.std.specs.Option.{option_map}
use Rattle.vf_pdu_fields.specs.Contained.{actions_in, content_controls_in, number_in, slot_in}
use Rattle.vf_pdu_fields.specs.Content.{Slot}
use Rattle.vf_pdu_fields.specs.Rows.{Text, Controls, required, optional, one, Row, row, a, int, or, activity}
use Rattle.vf_pdu_fields.specs.Slots.{content_controls, maybe_actions, maybe_num, maybe_octets, num}
use Rattle.vf_pdu_parameters.specs.ContainedParameters.{attributes_in, contents_in, terms_in}
use Rattle.vf_pdu_parameters.specs.Parameters.{attributes, contents, diagnostic, terms}
use Rattle.vf_pdu_parameters.specs.ParameterSlots.{maybe_attributes, maybe_contents, maybe_diagnostic, maybe_terms}
use Rattle.vf_pdu.specs.PduEntry.{Entry, answer, answered, bare, entry, number_at, octets_at}
use Rattle.vf_pdu.specs.declared.pdu.Pdu.{Pdu}
use Rattle.vf_pdu.specs.declared.pdu.Pdu.TheVariants.{ReadAttribRequest, ReadAttribResponse, ChangeAttribRequest, ChangeAttribResponse, OpenRequest, OpenResponse, CloseRequest, CloseResponse}

abbrev pub read_attrib_request : Row
read_attrib_request = row (a 0 (int 0 65535) required ∷ [])

abbrev pub read_attrib_response : Row
read_attrib_response = row (
    a 0 diagnostic optional ∷
    a 1 attributes optional ∷ [])

abbrev pub change_attrib_request : Row
change_attrib_request = row (
    a 0 (one Text) optional ∷
    a 1 (int 0 255) optional ∷
    a 2 terms optional ∷
    a 3 (int 0 65535) (or 0) ∷ [])

abbrev pub open_request : Row
open_request = row (
    a 0 (int 0 31) required ∷
    a 1 contents optional ∷
    a 2 (one (Controls 5)) optional ∷
    a 3 activity optional ∷ [])

abbrev pub open_response : Row
open_response = row (
    a 0 diagnostic optional ∷
    a 1 contents optional ∷ [])

-- the fields of each, as the contents of its row
abbrev pub attribute_slots : Pdu → List Slot
attribute_slots (ReadAttribRequest names) = num names ∷ []
attribute_slots (ReadAttribResponse diagnostic attributes) = maybe_diagnostic diagnostic ∷ maybe_attributes attributes ∷ []
attribute_slots (ChangeAttribRequest name permitted terms others) =
    maybe_octets name ∷ maybe_actions permitted ∷ maybe_terms terms ∷ num others ∷ []
attribute_slots (ChangeAttribResponse diagnostic) = maybe_diagnostic diagnostic ∷ []
attribute_slots (OpenRequest mode contents controls activity) =
    num mode ∷ maybe_contents contents ∷ option_map content_controls controls ∷ maybe_num activity ∷ []
attribute_slots (OpenResponse diagnostic contents) = maybe_diagnostic diagnostic ∷ maybe_contents contents ∷ []
attribute_slots CloseRequest = []
attribute_slots (CloseResponse diagnostic) = maybe_diagnostic diagnostic ∷ []
attribute_slots _ = []

-- the entries of numbers 14 to 21
abbrev pub attribute_entries : List Entry
attribute_entries =
    entry read_attrib_request (λ all. ReadAttribRequest (number_at 0 all)) ∷
    entry read_attrib_response (λ all. ReadAttribResponse (answered all) (option_map attributes_in (slot_in 1 all))) ∷
    entry change_attrib_request (λ all. ChangeAttribRequest (octets_at 0 all) (option_map actions_in (slot_in 1 all)) (option_map terms_in (slot_in 2 all)) (number_at 3 all)) ∷
    entry answer (λ all. ChangeAttribResponse (answered all)) ∷
    entry open_request (λ all. OpenRequest (number_at 0 all) (option_map contents_in (slot_in 1 all)) (option_map content_controls_in (slot_in 2 all)) (option_map number_in (slot_in 3 all))) ∷
    entry open_response (λ all. OpenResponse (answered all) (option_map contents_in (slot_in 1 all))) ∷
    entry bare (λ all. CloseRequest) ∷
    entry answer (λ all. CloseResponse (answered all)) ∷ []
