-- What a message comes to in a state (ISO 8571-3; profile): the first row that applies.
use Rattle.std.specs.Prelude.{ℕ, not, ◌&&◌, List, ◌∷◌, length, Option, None, Some, if◌then◌else◌, nat_le, unwrap_or}
use Rattle.vf_attr.specs.declared.file.File.{File}
use Rattle.vf_base.specs.declared.access.FaduId.{FaduId}
use Rattle.vf_base.specs.declared.action.Actions.{Actions}
use Rattle.vf_base.specs.declared.contents.Contents.{Contents}
use Rattle.vf_base.specs.declared.diagnostic.Diagnostic.{Diagnostic}
use Rattle.vf_elements.specs.Stages.{takes}
use Rattle.vf_elements.specs.declared.message.Message.{Message}
use Rattle.vf_elements.specs.declared.message.Message.TheVariants as messages
use Rattle.vf_pdu.specs.declared.pdu.Pdu.{Pdu}
use Rattle.vf_pdu.specs.declared.pdu.Pdu.TheVariants.{InitializeRequest, TerminateRequest, UserAbort, ProviderAbort, SelectRequest, DeselectRequest, CreateRequest, DeleteRequest, ReadAttribRequest, ChangeAttribRequest, OpenRequest, CloseRequest, BeginGroupRequest, EndGroupRequest, RecoverRequest, LocateRequest, EraseRequest, ReadRequest, WriteRequest, DataEnd, TransferEndRequest, CancelRequest, RestartRequest}
use Rattle.vf_pdu_fields.specs.declared.controls.AttributeControls.{AttributeControls}
use Rattle.vf_pdu_fields.specs.declared.controls.ContentControls.{ContentControls}
use Rattle.vf_tree.specs.Acts.{does, Locates, Erases}
use Rattle.vf_filestore.specs.Aborts.{Setting, aborts, first_abort}
use Rattle.vf_filestore.specs.Controls.{attribute_controls, content_controls}
use Rattle.vf_filestore.specs.Diagnostics.{Row, first_row, plain, name_unknown, wrong_regime, wrong_state}
use Rattle.vf_filestore.specs.Ending.{cancel_ending, stamp_of, transfer_ending}
use Rattle.vf_filestore.specs.Files.{file_named}
use Rattle.vf_filestore.specs.History.{Given, Nothing, Made, Selection, guest, position, regime, selection}
use Rattle.vf_filestore.specs.Holders.{held_files}
use Rattle.vf_filestore.specs.Limits.{most_items}
use Rattle.vf_filestore.specs.Opening.{Opened, activity_rows, erase_rows, locate_rows, open_rows, placed, read_given, write_given}
use Rattle.vf_filestore.specs.Recovering.{is_read_in, recover_rows, resumed}
use Rattle.vf_filestore.specs.Selecting.{Wanted, change_attrib_rows, create_rows, delete_rows, initialize_rows, read_attrib_rows, rows_on, select_rows}
use Rattle.vf_filestore.specs.Stage.{Group, pending, regime_stage, stage}
use Rattle.vf_filestore.specs.State.{Docket, State, StandingParty, docket_of, identity_of, mode_in, selected_file, units_of}
use Rattle.vf_filestore.specs.Units.{enhanced_management, file_access, limited_management, recovery_unit, unit_row}
use Rattle.vf_filestore.specs.declared.creation.NewFile.{NewFile}

pub data Decision : Type 0 where
  -- the provider's abort, and the party is gone
  Aborts : (number : ℕ) → Decision
  -- the response has the diagnostic, and nothing else comes of the message
  Refuses : Diagnostic → Decision
  -- the response is said, and an entry joins the history; so it is with a transfer that is refused
  Grants : Given → Decision
  -- a group begins, or has an item more, of which nothing comes before its end
  Waits : Decision
  -- the group is done
  Groups : Group → Decision
  -- the response ends the association
  Ends : Decision
  -- the party is gone without an answer
  Leaves : Decision

abbrev pub granted_unless : Row → Given → Decision
granted_unless (Some diagnostic) given = Refuses diagnostic
granted_unless None given = Grants given

-- the first row that applies, or this is given
abbrev pub decided : List Row → Given → Decision
decided rows given = granted_unless (first_row rows) given

-- who asks for a file
abbrev pub wanted_by : StandingParty → Actions → Option AttributeControls → Option (List ℕ) → Wanted
wanted_by party requested controls password = record {
  link = party.link;
  identity = identity_of party;
  password = password;
  requested = requested;
  controls = attribute_controls requested controls;
}

abbrev pub made_unless : Option File → Given
made_unless None = Made
made_unless (Some file) = Nothing

abbrev pub create_decision : State → StandingParty → (moment over : ℕ) → Wanted → NewFile → Decision
create_decision state party moment over wanted new =
    decided (unit_row (units_of party) limited_management ∷ create_rows (held_files state) wanted over (stamp_of party moment) new)
    (made_unless (file_named new.name state.files))

abbrev pub opened_by : StandingParty → Selection → (mode : Actions) → Option Contents → Option ContentControls → Option ℕ → Opened
opened_by party selection mode contents controls activity = record {
  link = party.link;
  identity = identity_of party;
  selection = selection;
  mode = mode;
  contents = contents;
  controls = content_controls mode controls;
  activity = activity;
}

-- the functional units that an open needs
abbrev pub units_for : Option ℕ → ℕ
units_for None = 0
units_for (Some activity) = recovery_unit

-- the rows of an open in a state
abbrev pub opening_rows : State → Opened → File → List Row
opening_rows state asked = open_rows (held_files state) (activity_rows state asked.identity asked.activity) asked

abbrev pub open_decision : State → StandingParty → (mode : Actions) → Option Contents → Option ContentControls → Option ℕ → Option Selection → Decision
open_decision state party mode contents controls activity None = Aborts wrong_state
open_decision state party mode contents controls activity (Some selection) =
    decided (unit_row (units_of party) (units_for activity) ∷ rows_on (selected_file state party.history) (opening_rows state (opened_by party selection mode contents controls activity)))
    Nothing

abbrev pub locate_decision : StandingParty → FaduId → Option File → Decision
locate_decision party fadu None = Refuses (plain name_unknown)
locate_decision party fadu (Some file) =
    decided (unit_row (units_of party) file_access ∷ locate_rows file (position party.history) fadu)
    (placed (does file.tree (position party.history) (Locates fadu)))

abbrev pub erase_decision : StandingParty → FaduId → Option File → Decision
erase_decision party fadu None = Refuses (plain name_unknown)
erase_decision party fadu (Some file) =
    decided (unit_row (units_of party) file_access ∷ erase_rows file (mode_in (regime party.history)) (position party.history) fadu)
    (placed (does file.tree (position party.history) (Erases fadu)))

-- a read goes on only where the responder may send
abbrev pub unless_without_token : Setting → Option Docket → Decision → Decision
unless_without_token setting docket (Grants given) =
    if is_read_in docket && not setting.token then Aborts wrong_state else Grants given
unless_without_token setting docket decision = decision

abbrev pub recover_decision : State → StandingParty → Setting → (number point : ℕ) → Option Docket → Decision
recover_decision state party setting number point docket =
    unless_without_token setting docket
    (decided (unit_row (units_of party) recovery_unit ∷ recover_rows state docket number) (resumed docket point))

-- What a request comes to that its stage takes and that no abort refuses. The functional units that it needs are
-- looked at first.
abbrev pub request_decision : State → StandingParty → Setting → Pdu → Decision
request_decision state party setting (InitializeRequest units identity password window) =
    decided (initialize_rows state.users (unwrap_or identity guest) password) Nothing
request_decision state party setting TerminateRequest = Ends
request_decision state party setting (UserAbort number) = Leaves
request_decision state party setting (ProviderAbort number place) = Leaves
request_decision state party setting (SelectRequest name requested controls password) =
    decided (select_rows (held_files state) (wanted_by party requested controls password) name) Nothing
request_decision state party setting (CreateRequest over name contents permitted terms requested controls password) =
    create_decision state party setting.moment over (wanted_by party requested controls password)
    (record { name = name; contents = contents; permitted = permitted; terms = terms })
request_decision state party setting DeselectRequest = Grants Nothing
request_decision state party setting DeleteRequest =
    decided (unit_row (units_of party) limited_management ∷ delete_rows (held_files state) party.link (selection party.history)) Nothing
request_decision state party setting (ReadAttribRequest names) =
    decided (unit_row (units_of party) limited_management ∷ read_attrib_rows (selection party.history) names) Nothing
request_decision state party setting (ChangeAttribRequest name permitted terms others) =
    decided (unit_row (units_of party) enhanced_management ∷ change_attrib_rows (held_files state) party.link (selection party.history) name others) Nothing
request_decision state party setting (OpenRequest mode contents controls activity) =
    open_decision state party (record { value = mode }) contents controls activity (selection party.history)
request_decision state party setting CloseRequest = Grants Nothing
request_decision state party setting (RecoverRequest activity number point) =
    recover_decision state party setting number point (docket_of (identity_of party) activity state.dockets)
request_decision state party setting (LocateRequest fadu) = locate_decision party fadu (selected_file state party.history)
request_decision state party setting (EraseRequest fadu) = erase_decision party fadu (selected_file state party.history)
request_decision state party setting (ReadRequest fadu context) =
    Grants (read_given (selected_file state party.history) (units_of party) (mode_in (regime party.history)) (position party.history) fadu context)
request_decision state party setting (WriteRequest operation fadu) =
    Grants (write_given (selected_file state party.history) (units_of party) (mode_in (regime party.history)) (position party.history) operation fadu)
request_decision state party setting (DataEnd diagnostic) = Grants Nothing
request_decision state party setting TransferEndRequest = Grants (transfer_ending state party setting.moment).given
request_decision state party setting (CancelRequest diagnostic) = Grants (cancel_ending state party setting.moment).given
request_decision state party setting (RestartRequest point) = Grants Nothing
request_decision state party setting (BeginGroupRequest threshold) = Waits
-- the end of a group that nobody began, and responses: no stage takes them
request_decision state party setting _ = Aborts wrong_state

abbrev pub message_decision : State → StandingParty → Setting → Message → Decision
message_decision state party setting (messages.Pdu request) = request_decision state party setting request
message_decision state party setting messages.Break = Leaves
message_decision state party setting (messages.Element element) = Grants Nothing
message_decision state party setting messages.Check = Grants Nothing
message_decision state party setting (messages.Acknowledge point) = Grants Nothing
message_decision state party setting (messages.Restart point) = Grants Nothing

-- the group is full
abbrev pub item_decision : Group → Decision
item_decision group = if nat_le most_items (length group.items) then Aborts wrong_state else Waits

-- within a group: its end, an abort, or an item more
abbrev pub grouped_request : Group → Pdu → Decision
grouped_request group EndGroupRequest = Groups group
grouped_request group (UserAbort number) = Leaves
grouped_request group (ProviderAbort number place) = Leaves
grouped_request group item = item_decision group

abbrev pub grouped_decision : Group → Message → Decision
grouped_decision group (messages.Pdu request) = grouped_request group request
grouped_decision group messages.Break = Leaves
-- which no stage of a group takes
grouped_decision group _ = Aborts wrong_state

abbrev pub unless_aborted : Option ℕ → Decision → Decision
unless_aborted (Some number) decision = Aborts number
unless_aborted None decision = decision

abbrev pub decision_in : Option Group → State → StandingParty → Setting → Message → Decision
decision_in (Some group) state party setting message = grouped_decision group message
decision_in None state party setting message =
    unless_aborted (first_abort (aborts party setting message)) (message_decision state party setting message)

-- What a message comes to: where its stage takes it, and no abort refuses it, what its rows say.
abbrev pub decision : State → StandingParty → Setting → Message → Decision
decision state party setting message =
    if takes (stage party) message then decision_in (pending party.trace) state party setting message
    else Aborts wrong_state

-- An item of a group on a trial state: the stage is that of the regimes, as if no group were pending.
abbrev pub trial_decision : State → StandingParty → Setting → Pdu → Decision
trial_decision state party setting item =
    if takes (regime_stage party.history) (messages.Pdu item) then request_decision state party setting item
    else Refuses (plain wrong_regime)
