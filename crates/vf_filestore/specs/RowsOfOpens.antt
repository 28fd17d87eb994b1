-- Selections, creations and opens: what refuses them, and which refusal goes first.
use Rattle.std.specs.Prelude.{◌≡◌, ℕ, List, [], ◌∷◌, ◌++◌, drop, flat_map, Option, None, Some}
use Rattle.std.specs.List.{range_with_len}
use Rattle.vf_base.specs.declared.action.Control.{Control}
use Rattle.vf_base.specs.declared.action.Control.TheVariants.{NotRequired, Shared, Exclusive, NoAccess}
use Rattle.vf_base.specs.declared.contents.Contents.{Contents}
use Rattle.vf_elements.specs.declared.message.Message.{Message}
use Rattle.vf_elements.specs.declared.message.Message.TheVariants as messages
use Rattle.vf_elements.specs.declared.message.Said.{Said}
use Rattle.vf_pdu.specs.declared.pdu.Pdu.TheVariants.{SelectRequest, SelectResponse, CreateRequest, CreateResponse, OpenRequest, OpenResponse}
use Rattle.vf_filestore.specs.Runs.{Event, beginning}
use Rattle.vf_filestore.specs.Samples.{a, b, binary_file, contents_type, create, diagnostic, ftam_2, ftam_3, heard_on, initialize, left_by, on, open_for, recoverable, replies, select, set}
use Rattle.vf_filestore.specs.State.{State}

abbrev pub with_a : State
with_a = beginning [] (binary_file a 1 [] ∷ [])

-- what is said to these messages once the association stands
abbrev pub answered : (units : ℕ) → List Message → List Said
answered units later = drop 1 (heard_on 1 (on 1 (initialize units ∷ later)) with_a)

abbrev pub create_over : Message
create_over = messages.Pdu (CreateRequest 1 a (contents_type 9) (set 0) [] (set 1) None None)

abbrev pub select_with : (requested : ℕ) → Control → Message
select_with requested control = messages.Pdu (SelectRequest a (set requested)
    (Some (record { read_attribute = control; change_attribute = NotRequired; delete = NotRequired })) None)

abbrev pub open_with : (mode : ℕ) → Option Contents → Control → Message
open_with mode contents control = messages.Pdu (OpenRequest mode contents
    (Some (record { read = control; insert = Shared; replace = Shared; extend = Shared; erase = Shared })) None)

-- so many links, each with a recoverable open of an activity of its link's number
abbrev pub recoverable_opens : (number : ℕ) → List Event
recoverable_opens number = flat_map (λ link. on link (initialize 255 ∷ select a 1 ∷ recoverable 1 link ∷ [])) (range_with_len 1 number)

-- another one after them
abbrev pub one_more : (activity : ℕ) → List Said
one_more activity = drop 2 (heard_on 17
    (recoverable_opens 16 ++ on 17 (initialize 255 ∷ select a 1 ∷ recoverable 1 activity ∷ [])) with_a)

pub record RowsOfOpens : Type 0 where
  pub unknown : answered 255 (select b 1 ∷ []) ≡ replies (SelectResponse (diagnostic 11) ∷ [])
  pub exists : answered 255 (messages.Pdu (create a ftam_3 1) ∷ []) ≡ replies (CreateResponse (diagnostic 12) ∷ [])
  pub over : answered 255 (create_over ∷ open_for 1 ∷ []) ≡ replies (CreateResponse None ∷ OpenResponse None (Some ftam_3) ∷ [])
  pub over_changes_nothing : left_by (on 1 (initialize 255 ∷ create_over ∷ [])) with_a ≡ binary_file a 1 [] ∷ []
  pub no_document_type : answered 255 (messages.Pdu (create b (contents_type 9) 1) ∷ []) ≡ replies (CreateResponse (diagnostic 17) ∷ [])
  pub unit_before_name : answered 1 (messages.Pdu (create a ftam_3 1) ∷ []) ≡ replies (CreateResponse (diagnostic 33) ∷ [])
  pub control_of_selection : answered 255 (select_with 32 NoAccess ∷ select_with 32 Exclusive ∷ []) ≡
      replies (SelectResponse (diagnostic 13) ∷ SelectResponse None ∷ [])
  pub control_not_asked_for : answered 255 (select_with 1 NoAccess ∷ []) ≡ replies (SelectResponse None ∷ [])
  pub mode_beyond_request : answered 255 (select a 1 ∷ open_for 5 ∷ []) ≡ replies (SelectResponse None ∷ OpenResponse (diagnostic 13) None ∷ [])
  pub control_of_open : answered 255 (select a 1 ∷ open_with 1 None NoAccess ∷ []) ≡
      replies (SelectResponse None ∷ OpenResponse (diagnostic 13) None ∷ [])
  pub other_contents : answered 255 (select a 1 ∷ open_with 1 (Some ftam_2) Shared ∷ []) ≡
      replies (SelectResponse None ∷ OpenResponse (diagnostic 17) None ∷ [])
  pub request_before_contents : answered 255 (select a 1 ∷ open_with 5 (Some ftam_2) Shared ∷ []) ≡
      replies (SelectResponse None ∷ OpenResponse (diagnostic 13) None ∷ [])
  pub outside_constraint_set : answered 255 (select a 2 ∷ open_with 2 (Some ftam_3) NotRequired ∷ []) ≡
      replies (SelectResponse None ∷ OpenResponse (diagnostic 18) None ∷ [])
  pub contents_before_constraint_set : answered 255 (select a 2 ∷ open_with 2 (Some ftam_2) NotRequired ∷ []) ≡
      replies (SelectResponse None ∷ OpenResponse (diagnostic 17) None ∷ [])
  pub without_recovery_unit : answered 63 (select a 1 ∷ recoverable 1 7 ∷ []) ≡
      replies (SelectResponse None ∷ OpenResponse (diagnostic 33) None ∷ [])
  pub seventeenth_docket : one_more 17 ≡ replies (OpenResponse (diagnostic 35) None ∷ [])
  pub in_use_before_too_many : one_more 3 ≡ replies (OpenResponse (diagnostic 28) None ∷ [])
