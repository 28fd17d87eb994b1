-- Groups: below the threshold nothing is performed, and each good item says so.
use Rattle.std.specs.Prelude.{◌≡◌, ℕ, List, [], ◌∷◌, ◌++◌, replicate, None, Some}
use Rattle.vf_elements.specs.declared.message.Message.TheVariants as messages
use Rattle.vf_elements.specs.declared.message.Said.TheVariants as answers
use Rattle.vf_pdu.specs.declared.pdu.Pdu.TheVariants.{InitializeResponse, SelectResponse, CreateResponse, ReadAttribRequest, ReadAttribResponse, OpenResponse, CloseRequest, CloseResponse, DeselectRequest, DeselectResponse, BeginGroupRequest, BeginGroupResponse, EndGroupRequest, EndGroupResponse}
use Rattle.vf_filestore.specs.Runs.{Event, beginning}
use Rattle.vf_filestore.specs.Samples.{a, b, binary_file, create, diagnostic, ftam_3, heard_on, initialize, left_by, on, open_for, replies, select}

-- create, read an attribute and open; the open asks for what the create didn't
abbrev pub three_items : (threshold : ℕ) → List Event
three_items threshold = on 1 (
    initialize 47
    ∷ messages.Pdu (BeginGroupRequest threshold)
    ∷ messages.Pdu (create b ftam_3 32)
    ∷ messages.Pdu (ReadAttribRequest 1)
    ∷ open_for 1
    ∷ messages.Pdu EndGroupRequest ∷ [])

-- close, deselect and a second deselect, which no regime takes any more
abbrev pub out_of_place : List Event
out_of_place = on 1 (
    initialize 47
    ∷ select a 1
    ∷ open_for 1
    ∷ messages.Pdu (BeginGroupRequest 2)
    ∷ messages.Pdu CloseRequest
    ∷ messages.Pdu DeselectRequest
    ∷ messages.Pdu DeselectRequest
    ∷ messages.Pdu EndGroupRequest ∷ [])

-- so many items, and a select after the group
abbrev pub items : (number : ℕ) → List Event
items number = on 1 (
    initialize 47 ∷ messages.Pdu (BeginGroupRequest 1) ∷ (replicate number (messages.Pdu DeselectRequest) ++ messages.Pdu EndGroupRequest ∷ []))

pub record RowsOfGroups : Type 0 where
  pub below_threshold : heard_on 1 (three_items 3) (beginning [] []) ≡ replies (
      InitializeResponse None 47 1 ∷ BeginGroupResponse ∷ CreateResponse (diagnostic 30)
      ∷ ReadAttribResponse (diagnostic 30) None ∷ OpenResponse (diagnostic 13) None ∷ EndGroupResponse ∷ [])
  pub leaves_no_file : left_by (three_items 3) (beginning [] []) ≡ []
  pub at_threshold : left_by (three_items 2) (beginning [] []) ≡ binary_file b 1 [] ∷ []
  pub refused_by_stage : heard_on 1 out_of_place (beginning [] (binary_file a 1 [] ∷ [])) ≡ replies (
      InitializeResponse None 47 1 ∷ SelectResponse None ∷ OpenResponse None (Some ftam_3)
      ∷ BeginGroupResponse ∷ CloseResponse None ∷ DeselectResponse None ∷ DeselectResponse (diagnostic 37) ∷ EndGroupResponse ∷ [])
  pub no_items : heard_on 1 (items 0) (beginning [] []) ≡ replies (
      InitializeResponse None 47 1 ∷ BeginGroupResponse ∷ EndGroupResponse ∷ [])
  pub seventeen_items : heard_on 1 (items 17) (beginning [] []) ≡
      answers.Pdu (InitializeResponse None 47 1) ∷ answers.Abort 102 0 ∷ []
