-- The PDUs of groups and recovery (ISO 8571-4; the fields are this profile's): the row of each, its fields as
-- contents of the row, and the PDU that such fields make.
use Rattle.std.specs.Prelude.{◌+◌, false, List, [], ◌∷◌, Some}
use Rattle.std.specs.Option.{option_map}
use Rattle.vf_pdu_fields.specs.declared.limits.TheConstants.{MOST_POINT}
use Rattle.vf_pdu_fields.specs.Contained.{number_in, slot_in, there, truth_in}
use Rattle.vf_pdu_fields.specs.Content.{Slot, Truth}
use Rattle.vf_pdu_fields.specs.Rows.{Boolean, required, optional, default, one, Row, row, a, int, or, activity, point}
use Rattle.vf_pdu_fields.specs.Slots.{maybe_num, num}
use Rattle.vf_pdu_parameters.specs.Parameters.{diagnostic}
use Rattle.vf_pdu_parameters.specs.ParameterSlots.{maybe_diagnostic}
use Rattle.vf_pdu.specs.PduEntry.{Entry, answered, bare, entry, number_at}
use Rattle.vf_pdu.specs.declared.pdu.Pdu.{Pdu}
use Rattle.vf_pdu.specs.declared.pdu.Pdu.TheVariants.{BeginGroupRequest, BeginGroupResponse, EndGroupRequest, EndGroupResponse, RecoverRequest, RecoverResponse}

abbrev pub begin_group_request : Row
begin_group_request = row (a 0 (int 1 16) required ∷ [])

abbrev pub recover_request : Row
recover_request = row (
    a 0 activity required ∷
    a 1 (int 1 MOST_POINT) required ∷
    a 2 point (or 0) ∷ [])

abbrev pub recover_response : Row
recover_response = row (
    a 0 diagnostic optional ∷
    a 1 (int 1 (MOST_POINT + 1)) optional ∷
    a 2 point (or 0) ∷
    a 3 (one Boolean) (default (Truth false)) ∷
    a 4 (int 0 65535) (or 0) ∷ [])

-- the fields of each, as the contents of its row
abbrev pub group_slots : Pdu → List Slot
group_slots (BeginGroupRequest threshold) = num threshold ∷ []
group_slots BeginGroupResponse = []
group_slots EndGroupRequest = []
group_slots EndGroupResponse = []
group_slots (RecoverRequest activity number point) = num activity ∷ num number ∷ num point ∷ []
group_slots (RecoverResponse diagnostic number point moving last) =
    maybe_diagnostic diagnostic ∷ maybe_num number ∷ num point ∷ Some (Truth moving) ∷ num last ∷ []
group_slots _ = []

-- the entries of numbers 22 to 27
abbrev pub group_entries : List Entry
group_entries =
    entry begin_group_request (λ all. BeginGroupRequest (number_at 0 all)) ∷
    entry bare (λ all. BeginGroupResponse) ∷
    entry bare (λ all. EndGroupRequest) ∷
    entry bare (λ all. EndGroupResponse) ∷
    entry recover_request (λ all. RecoverRequest (number_at 0 all) (number_at 1 all) (number_at 2 all)) ∷
    entry recover_response (λ all. RecoverResponse (answered all) (option_map number_in (slot_in 1 all)) (number_at 2 all) (truth_in (there (slot_in 3 all))) (number_at 4 all)) ∷ []
