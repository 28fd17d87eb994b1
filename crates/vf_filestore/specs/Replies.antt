-- What is said to a message (ISO 8571-4, the responses; F-READ, F-WRITE and F-DATA have none).
use Rattle.std.specs.Prelude.{ℕ, ◌+◌, pos, true, false, ◌==◌, List, [], ◌∷◌, map, min, Option, None, Some, if◌then◌else◌, bit_and, option_map}
use Rattle.vf_attr.specs.declared.file.File.{File}
use Rattle.vf_attr.specs.declared.stamp.Stamp as file_stamps
use Rattle.vf_base.specs.Moment.{moment_text}
use Rattle.vf_base.specs.declared.contents.Contents.{Contents}
use Rattle.vf_base.specs.declared.diagnostic.Diagnostic.{Diagnostic}
use Rattle.vf_base.specs.declared.term.Term.{Term}
use Rattle.vf_elements.specs.declared.message.Message.{Message}
use Rattle.vf_elements.specs.declared.message.Message.TheVariants as messages
use Rattle.vf_elements.specs.declared.message.Said.{Said}
use Rattle.vf_elements.specs.declared.message.Said.TheVariants as answers
use Rattle.vf_pdu.specs.declared.pdu.Pdu.{Pdu}
use Rattle.vf_pdu.specs.declared.pdu.Pdu.TheVariants.{InitializeRequest, InitializeResponse, SelectRequest, SelectResponse, DeselectRequest, DeselectResponse, CreateRequest, CreateResponse, DeleteRequest, DeleteResponse, ReadAttribRequest, ReadAttribResponse, ChangeAttribRequest, ChangeAttribResponse, OpenRequest, OpenResponse, CloseRequest, CloseResponse, RecoverRequest, RecoverResponse, LocateRequest, LocateResponse, EraseRequest, EraseResponse, TransferEndRequest, TransferEndResponse, CancelRequest, CancelResponse, RestartRequest, RestartResponse}
use Rattle.vf_pdu_parameters.specs.declared.file_attributes.Attributes.{Attributes}
use Rattle.vf_pdu_parameters.specs.declared.file_attributes.Grant.{Grant}
use Rattle.vf_pdu_parameters.specs.declared.file_attributes.Stamp.{Stamp}
use Rattle.vf_tables.specs.Sums.{octets_of_file}
use Rattle.vf_filestore.specs.Aborts.{Setting}
use Rattle.vf_filestore.specs.Ending.{transfer_ending}
use Rattle.vf_filestore.specs.History.{Given, Placed, Resumed, History, done, last}
use Rattle.vf_filestore.specs.Limits.{most_window}
use Rattle.vf_filestore.specs.State.{Docket, State, StandingParty, docket_of, identity_of, selected_file}
use Rattle.vf_filestore.specs.Transfers.{last_check}
use Rattle.vf_filestore.specs.Units.{agreed_units}

abbrev pub agreed_window : (asked : ℕ) → ℕ
agreed_window asked = min asked most_window

-- an attribute that is asked for, by its number
abbrev pub asked_for : {A : Type 0} → (names number : ℕ) → A → Option A
asked_for names number value = if bit_and names number == number then Some value else None

abbrev pub asked_option : {A : Type 0} → (names number : ℕ) → Option A → Option A
asked_option names number None = None
asked_option names number (Some value) = asked_for names number value

-- terms are shown without their passwords
abbrev pub grant_of : Term → Grant
grant_of term = record { identity = term.identity; actions = term.actions }

abbrev pub stamp_text : file_stamps.Stamp → Stamp
stamp_text stamp = record { date = moment_text stamp.moment; identity = stamp.identity }

-- the attributes of a file that are asked for and there
abbrev pub attributes_of : (names : ℕ) → File → Attributes
attributes_of names file = record {
  name = asked_for names 1 file.name;
  permitted = asked_for names 2 (pos file.permitted.value);
  contents = asked_for names 4 file.contents;
  terms = asked_for names 8 (map grant_of file.terms);
  created = asked_for names 16 (stamp_text file.created);
  modified = asked_option names 32 (option_map stamp_text file.modified);
  read = asked_option names 64 (option_map stamp_text file.read);
  changed = asked_option names 128 (option_map stamp_text file.changed);
  size = asked_for names 256 (pos (octets_of_file file));
}

abbrev pub located_at : Given → ℕ
located_at (Placed position) = position
located_at _ = 0

abbrev pub contents_of : File → Contents
contents_of file = file.contents

-- A recovery tells the transfer that goes on, with the point after which it does; else the number of the next one, and
-- how the last one ended.
abbrev pub recovery : History → Given → Pdu
recovery history (Resumed true point) = RecoverResponse None (Some (done history + 1)) point true 0
recovery history _ = RecoverResponse None (Some (done history + 1)) 0 false (last history)

abbrev pub recovery_of : Option Docket → Given → Pdu
recovery_of None given = recovery [] given
recovery_of (Some docket) given = recovery docket.history given

abbrev pub reply : Pdu → List Said
reply pdu = answers.Pdu pdu ∷ []

-- to a request that is granted
abbrev pub request_replies : State → StandingParty → Setting → Given → Pdu → List Said
request_replies state party setting given (InitializeRequest units identity password window) =
    reply (InitializeResponse None (agreed_units setting.sync units) (agreed_window window))
request_replies state party setting given (SelectRequest name requested controls password) = reply (SelectResponse None)
request_replies state party setting given DeselectRequest = reply (DeselectResponse None)
request_replies state party setting given (CreateRequest over name contents permitted terms requested controls password) =
    reply (CreateResponse None)
request_replies state party setting given DeleteRequest = reply (DeleteResponse None)
request_replies state party setting given (ReadAttribRequest names) =
    reply (ReadAttribResponse None (option_map (attributes_of names) (selected_file state party.history)))
request_replies state party setting given (ChangeAttribRequest name permitted terms others) = reply (ChangeAttribResponse None)
request_replies state party setting given (OpenRequest mode contents controls activity) =
    reply (OpenResponse None (option_map contents_of (selected_file state party.history)))
request_replies state party setting given CloseRequest = reply (CloseResponse None)
request_replies state party setting given (RecoverRequest activity number point) =
    reply (recovery_of (docket_of (identity_of party) activity state.dockets) given)
request_replies state party setting given (LocateRequest fadu) = reply (LocateResponse None (located_at given))
request_replies state party setting given (EraseRequest fadu) = reply (EraseResponse None)
request_replies state party setting given TransferEndRequest =
    reply (TransferEndResponse (transfer_ending state party setting.moment).refused)
request_replies state party setting given (CancelRequest diagnostic) = reply CancelResponse
request_replies state party setting given (RestartRequest point) = reply (RestartResponse point)
request_replies state party setting given _ = []

-- To a message that is granted; a check is acknowledged at once (ISO 8571-4, F-CHECK).
abbrev pub replies : State → StandingParty → Setting → Given → Message → List Said
replies state party setting given (messages.Pdu request) = request_replies state party setting given request
replies state party setting given (messages.Element element) = []
replies state party setting given messages.Check = answers.Acknowledge (last_check party.history + 1) ∷ []
replies state party setting given (messages.Acknowledge point) = []
replies state party setting given (messages.Restart point) = reply (RestartResponse point)
replies state party setting given messages.Break = []

-- to a request that a diagnostic refuses: its own response
abbrev pub refusal_of_request : Diagnostic → Pdu → List Said
refusal_of_request diagnostic (InitializeRequest units identity password window) = reply (InitializeResponse (Some diagnostic) 0 1)
refusal_of_request diagnostic (SelectRequest name requested controls password) = reply (SelectResponse (Some diagnostic))
refusal_of_request diagnostic DeselectRequest = reply (DeselectResponse (Some diagnostic))
refusal_of_request diagnostic (CreateRequest over name contents permitted terms requested controls password) =
    reply (CreateResponse (Some diagnostic))
refusal_of_request diagnostic DeleteRequest = reply (DeleteResponse (Some diagnostic))
refusal_of_request diagnostic (ReadAttribRequest names) = reply (ReadAttribResponse (Some diagnostic) None)
refusal_of_request diagnostic (ChangeAttribRequest name permitted terms others) = reply (ChangeAttribResponse (Some diagnostic))
refusal_of_request diagnostic (OpenRequest mode contents controls activity) = reply (OpenResponse (Some diagnostic) None)
refusal_of_request diagnostic CloseRequest = reply (CloseResponse (Some diagnostic))
refusal_of_request diagnostic (RecoverRequest activity number point) = reply (RecoverResponse (Some diagnostic) None 0 false 0)
refusal_of_request diagnostic (LocateRequest fadu) = reply (LocateResponse (Some diagnostic) 0)
refusal_of_request diagnostic (EraseRequest fadu) = reply (EraseResponse (Some diagnostic))
refusal_of_request diagnostic _ = []

-- nothing but a request is refused by a diagnostic
abbrev pub refusal : Diagnostic → Message → List Said
refusal diagnostic (messages.Pdu request) = refusal_of_request diagnostic request
refusal diagnostic _ = []
