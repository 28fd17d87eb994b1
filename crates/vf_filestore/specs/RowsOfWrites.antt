-- Writes: which of the values count, and where the contents change.
use Rattle.std.specs.Prelude.{◌≡◌, ℕ, true, List, [], ◌∷◌, ◌++◌, Option, None, Some}
use Rattle.vf_attr.specs.declared.file.File.{File}
use Rattle.vf_base.specs.declared.access.FaduId.TheVariants.{Begin, End, Previous, Current, Next, Number}
use Rattle.vf_base.specs.declared.diagnostic.Diagnostic.{Diagnostic}
use Rattle.vf_base.specs.declared.element.Element.{Element}
use Rattle.vf_base.specs.declared.element.Element.TheVariants.{Descriptor, Text}
use Rattle.vf_elements.specs.declared.message.Message.{Message}
use Rattle.vf_elements.specs.declared.message.Message.TheVariants as messages
use Rattle.vf_elements.specs.declared.message.Said.{Said}
use Rattle.vf_elements.specs.declared.message.Said.TheVariants as answers
use Rattle.vf_pdu.specs.declared.pdu.Pdu.TheVariants.{InitializeResponse, SelectResponse, OpenResponse, LocateRequest, LocateResponse, EraseRequest, WriteRequest, DataEnd, TransferEndRequest, TransferEndResponse, CancelRequest, RestartResponse}
use Rattle.vf_pdu_fields.specs.declared.operation.WriteOperation.TheVariants.{Insert, Replace}
use Rattle.vf_filestore.specs.Performed.{Wrote, performed_in_all}
use Rattle.vf_filestore.specs.Runs.{beginning}
use Rattle.vf_filestore.specs.Samples.{a, binary_file, diagnostic, ftam_2, ftam_3, heard_on, history_on, initialize, left_by, modified, octet, on, open_for, replace, replies, select, text_file, value, with_version}
use Rattle.vf_filestore.specs.State.{State}

abbrev pub with_a : State
with_a = beginning [] (binary_file a 1 [] ∷ [])

-- these messages in an open for this action
abbrev pub opened_for : (units mode : ℕ) → List Message → List Message
opened_for units mode later = initialize units ∷ select a mode ∷ open_for mode ∷ later

abbrev pub answered : (units mode : ℕ) → List Message → List Said
answered units mode later = heard_on 1 (on 1 (opened_for units mode later)) with_a

abbrev pub after : List Message → List File
after later = left_by (on 1 (opened_for 255 4 later)) with_a

abbrev pub data_end : Option Diagnostic → Message
data_end diagnostic = messages.Pdu (DataEnd diagnostic)

abbrev pub transfer_end : Message
transfer_end = messages.Pdu TransferEndRequest

abbrev pub cancel : Message
cancel = messages.Pdu (CancelRequest None)

abbrev pub restarted : List Message
restarted =
    replace ∷ value 1 ∷ value 2 ∷ messages.Check ∷ value 3 ∷ value 4 ∷ messages.Check ∷ value 5 ∷ messages.Restart 1
    ∷ value 9 ∷ data_end None ∷ transfer_end ∷ []

-- what every such run hears first
abbrev pub begun : (units : ℕ) → List Said → List Said
begun units later = answers.Pdu (InitializeResponse None units 1) ∷ answers.Pdu (SelectResponse None) ∷ answers.Pdu (OpenResponse None (Some ftam_3)) ∷ later

abbrev pub written : List Element → List File
written values = modified (binary_file a 2 values) ∷ []

-- a file of two records, of which the second is put there by this message
abbrev pub text : ℕ → Element
text octet = Text 25 (octet ∷ [])

abbrev pub records : State
records = beginning [] (text_file a ((text 65 ∷ []) ∷ []) ∷ [])

abbrev pub inserting : List Message
inserting =
    initialize 15 ∷ select a 19 ∷ open_for 19
    ∷ messages.Pdu (WriteRequest Insert End) ∷ messages.Element (Descriptor None true) ∷ messages.Element (text 66)
    ∷ data_end None ∷ transfer_end ∷ []

abbrev pub locate_all : List Message
locate_all =
    messages.Pdu (LocateRequest Current) ∷ messages.Pdu (LocateRequest Previous) ∷ messages.Pdu (LocateRequest End)
    ∷ messages.Pdu (LocateRequest Next) ∷ messages.Pdu (LocateRequest (Number 2)) ∷ []

pub record RowsOfWrites : Type 0 where
  pub restart_is_answered : answered 255 4 restarted ≡ begun 255 (
      answers.Acknowledge 1 ∷ answers.Acknowledge 2 ∷ answers.Pdu (RestartResponse 1) ∷ answers.Pdu (TransferEndResponse None) ∷ [])
  pub restart_drops_values : after restarted ≡ written (octet 1 ∷ octet 2 ∷ octet 9 ∷ [])
  pub performs_once : performed_in_all (history_on 1 (on 1 (opened_for 255 4 restarted)) with_a) ≡
      record { regime = 2; file = a; operation = Wrote Replace Begin (octet 1 ∷ octet 2 ∷ octet 9 ∷ []) } ∷ []
  pub cancel_keeps_front : after (replace ∷ value 1 ∷ messages.Check ∷ value 2 ∷ cancel ∷ []) ≡ written (octet 1 ∷ [])
  pub cancel_without_check : after (replace ∷ value 1 ∷ value 2 ∷ cancel ∷ []) ≡ binary_file a 1 [] ∷ []
  pub given_up : answered 255 4 (replace ∷ value 1 ∷ data_end (diagnostic 32) ∷ transfer_end ∷ []) ≡
      begun 255 (answers.Pdu (TransferEndResponse (diagnostic 32)) ∷ [])
  pub bad_element : answered 255 4 (replace ∷ messages.Element (text 65) ∷ data_end None ∷ transfer_end ∷ []) ≡
      begun 255 (answers.Pdu (TransferEndResponse (diagnostic 21)) ∷ [])
  pub refused_request : answered 255 1 (replace ∷ value 1 ∷ data_end None ∷ transfer_end ∷ []) ≡
      begun 255 (answers.Pdu (TransferEndResponse (diagnostic 13)) ∷ [])
  pub unknown_point : answered 255 4 (replace ∷ value 1 ∷ messages.Restart 1 ∷ []) ≡ begun 255 (answers.Abort 102 0 ∷ [])
  pub check_without_unit : answered 15 4 (replace ∷ value 1 ∷ messages.Check ∷ []) ≡ begun 15 (answers.Abort 102 0 ∷ [])
  pub insert_sets_position : heard_on 1 (on 1 (inserting ++ locate_all)) records ≡ replies (
      InitializeResponse None 15 1 ∷ SelectResponse None ∷ OpenResponse None (Some ftam_2) ∷ TransferEndResponse None
      ∷ LocateResponse (diagnostic 19) 0 ∷ LocateResponse None 2 ∷ LocateResponse None 3
      ∷ LocateResponse (diagnostic 19) 0 ∷ LocateResponse None 2 ∷ [])
  pub erase_makes_version : left_by (on 1 (initialize 15 ∷ select a 16 ∷ open_for 16 ∷ messages.Pdu (EraseRequest Begin) ∷ [])) records ≡
      modified (with_version 2 (text_file a [])) ∷ []
