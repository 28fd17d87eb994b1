-- Runs drawn at random, and what another model makes of them. Written by
-- bench/filestore equations 34 3415 1939 2627 8 1392 168 1150 3037 901 1204 1368 2747
use Rattle.std.specs.Prelude.{◌≡◌, [], ◌∷◌, ℕ, ℤ, pos, neg_ℤ, Option, true, false, List, None, Some}
use Rattle.vf_attr.specs.declared.file.File.{File}
use Rattle.vf_attr.specs.declared.stamp.Stamp.{Stamp}
use Rattle.vf_base.specs.declared.access.Constraint.{Constraint}
use Rattle.vf_base.specs.declared.access.Constraint.TheVariants.{Unstructured, SequentialFlat}
use Rattle.vf_base.specs.declared.access.Context.TheVariants.{HA, FA, UA, US}
use Rattle.vf_base.specs.declared.access.FaduId.TheVariants.{Begin, End, First, Next, Number}
use Rattle.vf_base.specs.declared.action.Actions.{Actions}
use Rattle.vf_base.specs.declared.action.Control.{Control}
use Rattle.vf_base.specs.declared.action.Control.TheVariants.{NotRequired, Shared, Exclusive, NoAccess}
use Rattle.vf_base.specs.declared.contents.Contents.{Contents}
use Rattle.vf_base.specs.declared.diagnostic.Diagnostic.{Diagnostic}
use Rattle.vf_base.specs.declared.element.Element.TheVariants.{Descriptor, Enter, Exit, Text}
use Rattle.vf_base.specs.declared.term.Term.{Term}
use Rattle.vf_base.specs.Moment.{moment_text}
use Rattle.vf_elements.specs.declared.message.Message.TheVariants as messages
use Rattle.vf_elements.specs.declared.message.Said.TheVariants as answers
use Rattle.vf_pdu.specs.declared.pdu.Pdu.{Pdu}
use Rattle.vf_pdu.specs.declared.pdu.Pdu.TheVariants.{InitializeRequest, TerminateRequest, UserAbort, ProviderAbort, SelectRequest, DeselectRequest, CreateRequest, DeleteRequest, ReadAttribRequest, ChangeAttribRequest, OpenRequest, CloseRequest, BeginGroupRequest, EndGroupRequest, RecoverRequest, LocateRequest, EraseRequest, ReadRequest, WriteRequest, DataEnd, TransferEndRequest, CancelRequest, RestartRequest, InitializeResponse, TerminateResponse, SelectResponse, DeselectResponse, CreateResponse, DeleteResponse, ReadAttribResponse, ChangeAttribResponse, OpenResponse, CloseResponse, BeginGroupResponse, EndGroupResponse, RecoverResponse, LocateResponse, EraseResponse, TransferEndResponse, CancelResponse, RestartResponse}
use Rattle.vf_pdu_fields.specs.declared.controls.AttributeControls.{AttributeControls}
use Rattle.vf_pdu_fields.specs.declared.controls.ContentControls.{ContentControls}
use Rattle.vf_pdu_fields.specs.declared.operation.WriteOperation.TheVariants.{Insert, Replace, Extend}
use Rattle.vf_pdu_parameters.specs.declared.file_attributes.Attributes.{Attributes}
use Rattle.vf_pdu_parameters.specs.declared.file_attributes.Grant.{Grant}
use Rattle.vf_pdu_parameters.specs.declared.file_attributes.Stamp as shown
use Rattle.vf_tree.specs.FileTree.{DataUnit}
use Rattle.vf_tables.specs.declared.docket.Docket.{Docket}
use Rattle.vf_tables.specs.declared.docket.Regime.{Regime}
use Rattle.vf_tables.specs.declared.user.User.{User}
use Rattle.vf_filestore.specs.Aborts.{Setting}
use Rattle.vf_filestore.specs.Diagnostics.{plain}
use Rattle.vf_filestore.specs.Dockets.{stopped}
use Rattle.vf_filestore.specs.History.{guest}
use Rattle.vf_filestore.specs.Runs.{Event, Arrives, Takes, Faults, Stops, beginning, run}
use Rattle.vf_filestore.specs.Samples.{a, b, ann, bob, at_rest, binary_file, contents_type, in_read, in_write, octet, open_kept, set, text_file}
use Rattle.vf_filestore.specs.State.{State}
use Rattle.vf_filestore.specs.Tables.{tables_of}
use Rattle.vf_filestore.specs.Transition.{Sent, Turn, sent_on}

abbrev pub c : List ℕ
c = 99 ∷ []

abbrev pub password : List ℕ
password = 112 ∷ 119 ∷ []

-- settings at a moment, with the next number in the session
abbrev pub at : (moment serial : ℕ) → Setting
at moment serial = record { moment = moment; serial = serial; token = true; sync = true }

abbrev pub at_without_token : (moment serial : ℕ) → Setting
at_without_token moment serial = record { moment = moment; serial = serial; token = false; sync = true }

abbrev pub at_without_sync : (moment serial : ℕ) → Setting
at_without_sync moment serial = record { moment = moment; serial = serial; token = true; sync = false }

abbrev pub at_without_both : (moment serial : ℕ) → Setting
at_without_both moment serial = record { moment = moment; serial = serial; token = false; sync = false }

abbrev pub asks : (link : ℕ) → Setting → Pdu → Event
asks link setting pdu = Takes link setting (messages.Pdu pdu)

abbrev pub replies : (link : ℕ) → Pdu → Sent
replies link pdu = sent_on link (answers.Pdu pdu)

-- records by their fields
abbrev pub contents_with : (entry class longest significance : ℕ) → Contents
contents_with entry class longest significance =
    record { kind = 1 ∷ 0 ∷ 8571 ∷ 5 ∷ entry ∷ []; class = class; longest = longest; significance = significance }

abbrev pub diagnostic_with : ℕ → (first second : ℤ) → Diagnostic
diagnostic_with number first second = record { number = number; first = first; second = second }

abbrev pub user_of : List ℕ → (password : Option (List ℕ)) → User
user_of identity password = record { identity = identity; password = password }

abbrev pub term_of : Option (List ℕ) → Actions → (password : Option (List ℕ)) → Term
term_of identity actions password = record { identity = identity; actions = actions; password = password }

abbrev pub grant_of : Option (List ℕ) → Actions → Grant
grant_of identity actions = record { identity = identity; actions = actions }

abbrev pub stamp_at : (moment : ℕ) → List ℕ → Stamp
stamp_at moment identity = record { moment = moment; identity = identity }

abbrev pub dated : (moment : ℕ) → List ℕ → shown.Stamp
dated moment identity = record { date = moment_text moment; identity = identity }

abbrev pub attribute_controls : (read change delete : Control) → AttributeControls
attribute_controls read change delete = record { read_attribute = read; change_attribute = change; delete = delete }

abbrev pub content_controls : (read insert replace extend erase : Control) → ContentControls
content_controls read insert replace extend erase =
    record { read = read; insert = insert; replace = replace; extend = extend; erase = erase }

abbrev pub attributes_of : Option (List ℕ) → (permitted : Option ℤ) → Option Contents → Option (List Grant) → (created modified read changed : Option shown.Stamp) → (size : Option ℤ) → Attributes
attributes_of name permitted contents terms created modified read changed size = record {
  name = name;
  permitted = permitted;
  contents = contents;
  terms = terms;
  created = created;
  modified = modified;
  read = read;
  changed = changed;
  size = size;
}

abbrev pub file_of : List ℕ → (permitted : Actions) → Contents → List Term → (created : Stamp) → (modified read changed : Option Stamp) → (version : ℕ) → Constraint → List DataUnit → File
file_of name permitted contents terms created modified read changed version constraint units = record {
  name = name;
  permitted = permitted;
  contents = contents;
  terms = terms;
  created = created;
  modified = modified;
  read = read;
  changed = changed;
  version = version;
  tree = record { constraint = constraint; units = units };
}

abbrev pub docket_of : (identity : List ℕ) (activity : ℕ) (file : List ℕ) (requested : Actions) → List Control → (mode : Actions) → Option (List ℕ) → (position number last : ℕ) → (Regime → Docket) → Docket
docket_of identity activity file requested controls mode password position number last kept =
    kept (open_kept identity activity file requested controls mode password position number last)

abbrev pub beginning_3415 : State
beginning_3415 = beginning [] (binary_file a 1 (octet 0 ∷ octet 1 ∷ octet 2 ∷ octet 3 ∷ octet 4 ∷ octet 5 ∷ octet 6
    ∷ octet 7 ∷ octet 8 ∷ []) ∷ text_file b ((Text 25 (65 ∷ []) ∷ []) ∷ (Text 25 (66 ∷ []) ∷ []) ∷ []) ∷ [])

abbrev pub events_3415 : List Event
events_3415 = Arrives 1 ∷ asks 1 (at 0 999999) (InitializeRequest 15 None None 20)
    ∷ asks 1 (at 0 999999) (RecoverRequest 8 1 2)
    ∷ asks 1 (at_without_token 0 999999) (SelectRequest b (set 31) None None)
    ∷ asks 1 (at 0 999999) (OpenRequest 3 None None (Some 8)) ∷ asks 1 (at 0 999999) (OpenRequest 2 None None None)
    ∷ asks 1 (at 0 999999) (EraseRequest Begin) ∷ asks 1 (at 0 999999) (LocateRequest Next)
    ∷ asks 1 (at 1 999999) (WriteRequest Insert End)
    ∷ asks 1 (at_without_token 1 999999) (SelectRequest b (set 29) None None) ∷ Arrives 2
    ∷ asks 2 (at 1 1) (InitializeRequest 255 None None 2)
    ∷ asks 2 (at 1 1) (CreateRequest 0 a (contents_with 2 26 0 0) (set 255) [] (set 17) None None)
    ∷ asks 2 (at 1 1) (SelectRequest a (set 29) None None) ∷ asks 2 (at 1 1) (ReadAttribRequest 257)
    ∷ asks 2 (at 1 1) (BeginGroupRequest 1)
    ∷ asks 2 (at 1 1) (ChangeAttribRequest (Some b) (Some (set 31)) (Some []) 0) ∷ asks 2 (at 1 1) DeleteRequest
    ∷ asks 2 (at 2 1) (OpenRequest 9 None None (Some 7)) ∷ asks 2 (at 3 1) EndGroupRequest
    ∷ asks 2 (at 4 1) (WriteRequest Replace Begin) ∷ Takes 2 (at 5 2) messages.Check
    ∷ Takes 2 (at 6 2) (messages.Element (octet 3)) ∷ Takes 2 (at_without_token 6 2) (messages.Element (octet 4))
    ∷ Takes 2 (at 6 2) (messages.Element (octet 7)) ∷ Takes 2 (at 6 2) (messages.Element (octet 6))
    ∷ asks 2 (at 7 2) (DataEnd None) ∷ asks 2 (at 7 2) TransferEndRequest ∷ asks 2 (at 7 2) (ReadRequest Begin UA)
    ∷ Takes 2 (at 8 3) (messages.Restart 0) ∷ asks 2 (at 9 3) (CancelRequest None) ∷ Takes 2 (at 9 3) messages.Break
    ∷ Arrives 3 ∷ asks 3 (at_without_token 10 1) (InitializeRequest 255 (Some ann) None 20) ∷ []

abbrev pub run_3415 : Turn
run_3415 = run events_3415 beginning_3415

abbrev pub kept_3415 : List Docket
kept_3415 = docket_of guest 7 a (set 29) (Shared ∷ NotRequired ∷ NotRequired ∷ Shared ∷ NotRequired ∷ NotRequired
    ∷ NotRequired ∷ NotRequired ∷ []) (set 9) None 0 3 32 at_rest ∷ []

abbrev pub beginning_1939 : State
beginning_1939 = beginning [] (binary_file a 1 (octet 0 ∷ octet 1 ∷ octet 2 ∷ octet 3 ∷ octet 4 ∷ octet 5 ∷ octet 6
    ∷ octet 7 ∷ octet 8 ∷ []) ∷ text_file b ((Text 25 (65 ∷ []) ∷ []) ∷ (Text 25 (66 ∷ []) ∷ []) ∷ []) ∷ [])

abbrev pub events_1939 : List Event
events_1939 = Arrives 1 ∷ asks 1 (at_without_token 0 1) (InitializeRequest 255 None None 1)
    ∷ asks 1 (at 0 1) (SelectRequest b (set 224) None None) ∷ asks 1 (at 0 1) (ReadAttribRequest 512)
    ∷ asks 1 (at 0 1) (OpenRequest 2 None None None) ∷ asks 1 (at 0 1) (ReadAttribRequest 3)
    ∷ asks 1 (at 1 1) (ReadAttribRequest 3) ∷ Arrives 2 ∷ asks 2 (at 1 1) (InitializeRequest 255 None None 2)
    ∷ asks 1 (at 2 1) (BeginGroupRequest 1) ∷ asks 1 (at 2 1) (OpenRequest 2 None None (Some 7))
    ∷ asks 1 (at 2 1) DeleteRequest ∷ Arrives 3
    ∷ asks 2 (at 3 1) (CreateRequest 1 b (contents_type 2) (set 255) [] (set 31) None None)
    ∷ asks 3 (at 3 1) (InitializeRequest 255 (Some bob) None 20)
    ∷ asks 3 (at 3 1) (SelectRequest b (set 255) None (Some password)) ∷ asks 1 (at 3 1) DeselectRequest
    ∷ asks 2 (at 3 1) (ReadAttribRequest 511) ∷ asks 3 (at 3 1) (OpenRequest 19 None None (Some 7))
    ∷ asks 3 (at 4 1) (ReadRequest Next US)
    ∷ asks 1 (at 4 1) (ChangeAttribRequest (Some c) None (Some (term_of (Some ann) (set 95) None ∷ [])) 0)
    ∷ asks 2 (at 5 1) (OpenRequest 3 None None (Some 7)) ∷ Takes 3 (at 5 1) messages.Break
    ∷ asks 1 (at 5 1) EndGroupRequest ∷ asks 1 (at 5 1) (RecoverRequest 7 9 0)
    ∷ asks 1 (at 5 1) (RecoverRequest 7 1 0) ∷ Takes 1 (at 5 1) messages.Break ∷ Arrives 4
    ∷ asks 4 (at 5 1) (InitializeRequest 255 (Some ann) (Some password) 1) ∷ asks 4 (at 5 1) (RecoverRequest 7 1 1)
    ∷ asks 4 (at 5 1) (SelectRequest a (set 255) None (Some password)) ∷ asks 4 (at 6 1) DeselectRequest
    ∷ asks 4 (at 6 1) (RecoverRequest 7 1 0)
    ∷ asks 4 (at 6 1) (SelectRequest b (set 1) (Some (attribute_controls Shared Shared Exclusive)) None) ∷ []

abbrev pub run_1939 : Turn
run_1939 = run events_1939 beginning_1939

abbrev pub kept_1939 : List Docket
kept_1939 = docket_of bob 7 b (set 255) (Shared ∷ Shared ∷ NotRequired ∷ NotRequired ∷ Shared ∷ Shared ∷ Shared
    ∷ Shared ∷ []) (set 19) (Some password) 0 1 0 (in_read Next US 20 0 1) ∷ docket_of guest 7 b (set 31) (Shared
    ∷ Shared ∷ NotRequired ∷ NotRequired ∷ NotRequired ∷ NotRequired ∷ NotRequired ∷ NotRequired
    ∷ []) (set 3) None 0 1 0 at_rest ∷ []

abbrev pub beginning_2627 : State
beginning_2627 = beginning (user_of guest None ∷ user_of ann (Some password)
    ∷ []) (file_of a (set 255) (contents_type 3) (term_of (Some ann) (set 255) (Some password)
    ∷ term_of None (set 31) None ∷ []) (stamp_at 0 guest) None None None 1 Unstructured ((octet 0 ∷ []) ∷ [])
    ∷ text_file b [] ∷ [])

abbrev pub events_2627 : List Event
events_2627 = Arrives 1 ∷ asks 1 (at 0 999999) (InitializeRequest 63 None None 1)
    ∷ asks 1 (at 1 999999) (SelectRequest a (set 255) None (Some password))
    ∷ asks 1 (at 2 999999) (SelectRequest c (set 255) None (Some password))
    ∷ asks 1 (at 3 999999) (SelectRequest b (set 255) (Some (attribute_controls Shared Exclusive Exclusive)) (Some password))
    ∷ asks 1 (at 3 999999) (BeginGroupRequest 3) ∷ asks 1 (at 3 999999) (ReadAttribRequest 257)
    ∷ asks 1 (at 3 999999) EndGroupRequest ∷ asks 1 (at 3 999999) (ReadAttribRequest 512)
    ∷ asks 1 (at 4 999999) (ChangeAttribRequest None None (Some (term_of (Some ann) (set 95) None ∷ [])) 1)
    ∷ Arrives 2 ∷ asks 2 (at 5 1) (InitializeRequest 255 (Some ann) (Some password) 1) ∷ Stops ∷ Arrives 3
    ∷ asks 3 (at 5 1) (InitializeRequest 255 (Some bob) (Some password) 1) ∷ Arrives 4
    ∷ asks 4 (at 5 1) (InitializeRequest 255 None None 1) ∷ asks 4 (at 6 1) (SelectRequest b (set 255) None None)
    ∷ asks 4 (at 7 1) (OpenRequest 2 None None (Some 8)) ∷ asks 4 (at 7 1) (WriteRequest Insert End)
    ∷ asks 4 (at 7 1) (DataEnd None) ∷ asks 4 (at 7 1) TransferEndRequest ∷ asks 4 (at 8 1) CloseRequest
    ∷ asks 4 (at 9 1) (OpenRequest 1 (Some (contents_type 3)) None None) ∷ asks 4 (at 9 1) (ReadAttribRequest 257)
    ∷ asks 4 (at 9 1) (BeginGroupRequest 3) ∷ asks 4 (at 9 1) (ChangeAttribRequest None (Some (set 31)) None 0)
    ∷ asks 4 (at 10 1) (ReadAttribRequest 3) ∷ asks 4 (at 11 1) DeleteRequest
    ∷ asks 4 (at 11 1) (OpenRequest 3 None None None) ∷ asks 4 (at 11 1) (OpenRequest 1 None None (Some 8))
    ∷ asks 4 (at 11 1) DeselectRequest ∷ asks 4 (at 12 1) DeleteRequest ∷ asks 4 (at 12 1) EndGroupRequest ∷ []

abbrev pub run_2627 : Turn
run_2627 = run events_2627 beginning_2627

abbrev pub kept_2627 : List Docket
kept_2627 = []

abbrev pub beginning_8 : State
beginning_8 = beginning [] (binary_file a 1 (octet 0 ∷ octet 1 ∷ octet 2 ∷ octet 3 ∷ octet 4 ∷ octet 5 ∷ octet 6
    ∷ octet 7 ∷ octet 8 ∷ octet 9 ∷ octet 10 ∷ octet 11 ∷ octet 12 ∷ octet 13 ∷ octet 14 ∷ octet 15 ∷ octet 16 ∷ [])
    ∷ text_file b [] ∷ [])

abbrev pub events_8 : List Event
events_8 = Arrives 1 ∷ asks 1 (at 0 1) (InitializeRequest 127 None None 20)
    ∷ asks 1 (at 0 1) (SelectRequest a (set 255) None None) ∷ asks 1 (at 1 1) (BeginGroupRequest 3)
    ∷ asks 1 (at 2 1) DeselectRequest ∷ asks 1 (at 3 1) EndGroupRequest
    ∷ asks 1 (at 3 1) (OpenRequest 1 None None (Some 8)) ∷ asks 1 (at 3 1) (OpenRequest 29 None None (Some 7))
    ∷ asks 1 (at 3 1) (ReadAttribRequest 3) ∷ asks 1 (at 3 1) DeleteRequest ∷ Faults 1 101 3 ∷ Arrives 2
    ∷ asks 2 (at 3 1) (InitializeRequest 255 None None 20)
    ∷ asks 2 (at 3 1) (SelectRequest b (set 255) (Some (attribute_controls NotRequired Exclusive NotRequired)) None)
    ∷ asks 2 (at 3 1) (CreateRequest 1 b (contents_with 9 26 0 0) (set 255) [] (set 17) None None)
    ∷ asks 2 (at 4 1) (ChangeAttribRequest (Some b) (Some (set 31)) (Some []) 0)
    ∷ asks 2 (at 5 1) (BeginGroupRequest 2) ∷ asks 2 (at 6 1) (OpenRequest 3 None None (Some 7))
    ∷ asks 2 (at 6 1) (ReadAttribRequest 3) ∷ asks 2 (at 7 1) EndGroupRequest
    ∷ asks 2 (at 7 1) (ChangeAttribRequest None (Some (set 31)) None 0)
    ∷ asks 2 (at 7 1) (OpenRequest 19 None None (Some 7))
    ∷ asks 2 (at 8 1) (OpenRequest 19 None (Some (content_controls Shared Shared NoAccess Shared Shared)) (Some 7))
    ∷ asks 2 (at 9 1) (OpenRequest 1 None (Some (content_controls Exclusive NoAccess NoAccess Shared Exclusive)) (Some 8))
    ∷ asks 2 (at 10 1) (EraseRequest Begin) ∷ asks 2 (at 11 1) (LocateRequest (Number 1))
    ∷ asks 2 (at 11 1) (LocateRequest Begin) ∷ asks 2 (at 11 1) (ReadRequest (Number 1) FA)
    ∷ Takes 2 (at 12 1) (messages.Acknowledge 0) ∷ Arrives 3 ∷ asks 2 (at 12 1) TransferEndRequest
    ∷ asks 3 (at 12 1) (InitializeRequest 255 None None 20) ∷ asks 3 (at 13 1) (SelectRequest b (set 255) None None)
    ∷ asks 3 (at 13 1) (OpenRequest 19 None None None) ∷ []

abbrev pub run_8 : Turn
run_8 = run events_8 beginning_8

abbrev pub kept_8 : List Docket
kept_8 = docket_of guest 8 b (set 17) (Exclusive ∷ NoAccess ∷ NoAccess ∷ Shared ∷ Exclusive ∷ NotRequired
    ∷ NotRequired ∷ NotRequired ∷ []) (set 1) None 0 2 19 at_rest ∷ []

abbrev pub beginning_1392 : State
beginning_1392 = beginning [] (file_of a (set 255) (contents_type 3) (term_of (Some ann) (set 255) (Some password)
    ∷ term_of None (set 31) None ∷ []) (stamp_at 0 guest) None None None 1 Unstructured ([] ∷ [])
    ∷ text_file b ((Text 25 (65 ∷ []) ∷ []) ∷ (Text 25 (66 ∷ []) ∷ []) ∷ []) ∷ [])

abbrev pub events_1392 : List Event
events_1392 = Arrives 1 ∷ Arrives 2 ∷ asks 1 (at_without_token 0 1) (InitializeRequest 255 None None 1)
    ∷ asks 2 (at 0 1) (InitializeRequest 255 (Some ann) (Some password) 2)
    ∷ asks 1 (at_without_token 0 1) (SelectRequest b (set 255) None None) ∷ asks 1 (at 0 1) (BeginGroupRequest 1)
    ∷ asks 1 (at 0 1) (ReadAttribRequest 512) ∷ asks 1 (at 1 1) EndGroupRequest ∷ asks 2 (at 1 1) TerminateRequest
    ∷ asks 1 (at 2 1) (OpenRequest 19 None None (Some 7)) ∷ asks 1 (at 2 1) (EraseRequest First)
    ∷ asks 1 (at 3 1) (WriteRequest Insert End) ∷ Takes 1 (at 3 1) (messages.Element (Descriptor None true))
    ∷ Takes 1 (at 3 2) messages.Check ∷ asks 1 (at 3 2) (RestartRequest 3) ∷ Arrives 3
    ∷ asks 3 (at 4 999999) (InitializeRequest 255 None None 20) ∷ Stops ∷ Arrives 4
    ∷ asks 4 (at 4 1) (InitializeRequest 255 (Some ann) (Some password) 1)
    ∷ asks 4 (at 5 1) (SelectRequest b (set 255) None None) ∷ asks 4 (at 5 1) (OpenRequest 3 None None (Some 7))
    ∷ asks 4 (at 5 1) (ReadRequest Begin HA) ∷ asks 4 (at 5 1) TransferEndRequest ∷ Takes 4 (at 5 1) messages.Break
    ∷ Arrives 5 ∷ asks 5 (at 5 1) (InitializeRequest 255 None None 2)
    ∷ asks 5 (at 5 1) (SelectRequest b (set 255) None None) ∷ asks 5 (at 5 1) (OpenRequest 1 None None (Some 7))
    ∷ asks 5 (at 5 1) (OpenRequest 4 None None (Some 7)) ∷ asks 5 (at 6 1) DeleteRequest
    ∷ asks 5 (at 6 1) DeleteRequest ∷ asks 5 (at 7 1) DeselectRequest ∷ asks 5 (at 7 1) (RecoverRequest 7 1 0) ∷ []

abbrev pub run_1392 : Turn
run_1392 = run events_1392 beginning_1392

abbrev pub kept_1392 : List Docket
kept_1392 = docket_of guest 7 b (set 255) (Shared ∷ Shared ∷ NotRequired ∷ NotRequired ∷ Shared ∷ Shared ∷ Shared
    ∷ Shared ∷ []) (set 19) None 0 1 0 (in_write End Insert 0 0 []) ∷ docket_of ann 7 b (set 255) (Shared ∷ Shared
    ∷ NotRequired ∷ NotRequired ∷ NotRequired ∷ Shared ∷ Shared ∷ Shared ∷ []) (set 3) None 0 2 0 at_rest ∷ []

abbrev pub beginning_168 : State
beginning_168 = beginning (user_of guest None ∷ user_of ann (Some password) ∷ []) (binary_file a 1 (octet 0 ∷ octet 1
    ∷ octet 2 ∷ octet 3 ∷ octet 4 ∷ octet 5 ∷ octet 6 ∷ octet 7 ∷ octet 8 ∷ []) ∷ text_file b ((Text 25 (65 ∷ [])
    ∷ []) ∷ (Text 25 (66 ∷ []) ∷ []) ∷ []) ∷ [])

abbrev pub events_168 : List Event
events_168 = Arrives 1 ∷ asks 1 (at 0 1) (InitializeRequest 255 None None 2) ∷ asks 1 (at 1 1) (ProviderAbort 102 0)
    ∷ Arrives 2 ∷ asks 2 (at 1 999999) (InitializeRequest 255 None None 1)
    ∷ asks 2 (at 1 999999) (SelectRequest a (set 255) None None)
    ∷ asks 2 (at_without_token 1 999999) (ChangeAttribRequest (Some b) (Some (set 31)) None 0)
    ∷ asks 2 (at 1 999999) (ReadAttribRequest 3) ∷ asks 2 (at 1 999999) (OpenRequest 29 None None (Some 7))
    ∷ asks 2 (at 1 999999) (EraseRequest Begin) ∷ asks 2 (at 1 999999) (WriteRequest Extend Begin)
    ∷ Takes 2 (at 1 999999) (messages.Element (octet 5)) ∷ asks 2 (at 2 999999) (DataEnd None)
    ∷ asks 2 (at 2 999999) (CancelRequest None) ∷ asks 2 (at 2 999999) (ReadRequest Begin UA) ∷ Stops ∷ Arrives 3
    ∷ asks 3 (at 3 999999) (InitializeRequest 255 None None 1) ∷ asks 3 (at 3 999999) (RecoverRequest 7 2 0)
    ∷ asks 3 (at 3 999999) TransferEndRequest ∷ Arrives 4 ∷ asks 3 (at 3 999999) (ReadRequest First FA)
    ∷ asks 4 (at 3 1) (InitializeRequest 255 None None 1) ∷ asks 4 (at 3 1) (SelectRequest a (set 255) None None)
    ∷ asks 3 (at_without_token 3 999999) TransferEndRequest ∷ asks 4 (at 4 1) (ReadAttribRequest 257)
    ∷ asks 4 (at 5 1) (OpenRequest 1 (Some (contents_type 3)) None None) ∷ Takes 3 (at 5 999999) messages.Break
    ∷ asks 4 (at 5 1) (WriteRequest Extend Begin) ∷ Takes 4 (at 5 1) messages.Break ∷ Arrives 5
    ∷ asks 5 (at 5 1) (InitializeRequest 255 None None 2) ∷ asks 5 (at 5 1) (RecoverRequest 7 4 0)
    ∷ asks 5 (at 5 1) (WriteRequest Replace Begin) ∷ []

abbrev pub run_168 : Turn
run_168 = run events_168 beginning_168

abbrev pub kept_168 : List Docket
kept_168 = docket_of guest 7 a (set 255) (Shared ∷ NotRequired ∷ Shared ∷ Shared ∷ Shared ∷ Shared ∷ Shared ∷ Shared
    ∷ []) (set 29) None 0 4 20 (in_write Begin Replace 0 0 []) ∷ []

abbrev pub beginning_1150 : State
beginning_1150 = beginning [] (file_of a (set 255) (contents_type 3) (term_of (Some ann) (set 255) (Some password)
    ∷ term_of None (set 31) None ∷ []) (stamp_at 0 guest) None None None 1 Unstructured ([] ∷ []) ∷ text_file b []
    ∷ [])

abbrev pub events_1150 : List Event
events_1150 = Arrives 1 ∷ Arrives 2 ∷ asks 2 (at 1 999999) (InitializeRequest 255 (Some ann) (Some password) 1)
    ∷ asks 1 (at 1 1) (InitializeRequest 255 None None 2) ∷ asks 2 (at 1 999999) (SelectRequest b (set 255) None None)
    ∷ asks 1 (at 2 1) (SelectRequest a (set 255) (Some (attribute_controls NotRequired Shared Shared)) None)
    ∷ asks 2 (at 3 999999) (ChangeAttribRequest (Some a) None None 0)
    ∷ asks 1 (at 4 1) (CreateRequest 0 a (contents_with 3 25 0 1) (set 31) [] (set 255) None None)
    ∷ asks 1 (at 4 1) (BeginGroupRequest 3)
    ∷ asks 1 (at_without_token 4 1) (CreateRequest 1 a (contents_with 2 22 0 0) (set 31) [] (set 31) None None)
    ∷ asks 2 (at 5 999999) (ReadAttribRequest 511) ∷ asks 2 (at 5 999999) (OpenRequest 19 None None (Some 7))
    ∷ asks 1 (at_without_token 5 1) (OpenRequest 29 None None None) ∷ asks 2 (at 5 999999) (WriteRequest Insert End)
    ∷ asks 1 (at 6 1) (OpenRequest 29 None None (Some 7))
    ∷ Takes 2 (at 6 999999) (messages.Element (Descriptor None true))
    ∷ asks 1 (at 6 1) (CreateRequest 1 b (contents_with 2 22 1 0) (set 31) (term_of None (set 255) None
    ∷ []) (set 31) (Some (attribute_controls Shared Exclusive Shared)) None) ∷ Arrives 3
    ∷ asks 1 (at 7 1) (ReadAttribRequest 512) ∷ Takes 2 (at 7 999999) (messages.Element (Text 25 (71 ∷ [])))
    ∷ Takes 2 (at 7 999999) (messages.Element (Descriptor None true))
    ∷ asks 3 (at 7 1) (InitializeRequest 255 (Some bob) (Some password) 2) ∷ asks 1 (at 7 1) EndGroupRequest
    ∷ asks 1 (at 8 1) (SelectRequest a (set 255) None (Some password))
    ∷ asks 1 (at 8 1) (SelectRequest a (set 255) None None)
    ∷ asks 3 (at 9 1) (SelectRequest b (set 31) None (Some password))
    ∷ asks 1 (at_without_token 9 1) (SelectRequest a (set 255) None None) ∷ Takes 2 (at 10 1000000) messages.Check
    ∷ asks 1 (at 10 1) (SelectRequest b (set 224) None None)
    ∷ asks 1 (at 10 1) (OpenRequest 19 None (Some (content_controls Shared NoAccess NotRequired NoAccess Shared)) None)
    ∷ Takes 2 (at 11 1000001) messages.Check ∷ asks 2 (at 12 1000001) (CancelRequest None)
    ∷ asks 1 (at 12 1) (BeginGroupRequest 1) ∷ asks 3 (at 12 1) (ReadAttribRequest 511) ∷ []

abbrev pub run_1150 : Turn
run_1150 = run events_1150 beginning_1150

abbrev pub kept_1150 : List Docket
kept_1150 = docket_of ann 7 b (set 255) (Shared ∷ Shared ∷ NotRequired ∷ NotRequired ∷ Shared ∷ Shared ∷ Shared
    ∷ Shared ∷ []) (set 19) None 0 1 0 (in_write End Insert 0 2 ((Descriptor None true ∷ Text 25 (71 ∷ [])
    ∷ Descriptor None true ∷ []) ∷ [] ∷ [])) ∷ []

abbrev pub beginning_3037 : State
beginning_3037 = beginning (user_of guest None ∷ user_of ann (Some password)
    ∷ []) (file_of a (set 255) (contents_type 3) (term_of (Some ann) (set 255) (Some password)
    ∷ term_of None (set 31) None ∷ []) (stamp_at 0 guest) None None None 1 Unstructured ([] ∷ []) ∷ text_file b []
    ∷ [])

abbrev pub events_3037 : List Event
events_3037 = Arrives 1 ∷ asks 1 (at 1 1) (InitializeRequest 255 (Some bob) None 20) ∷ Arrives 2
    ∷ asks 2 (at_without_sync 1 999999) (InitializeRequest 255 (Some bob) (Some password) 1) ∷ Arrives 3
    ∷ asks 3 (at 1 1) (InitializeRequest 255 (Some ann) None 1) ∷ Arrives 4
    ∷ asks 4 (at 1 999999) (InitializeRequest 3 (Some ann) (Some password) 2)
    ∷ asks 4 (at 1 999999) (CreateRequest 1 a (contents_with 2 22 0 0) (set 255) [] (set 255) None None)
    ∷ asks 4 (at 1 999999) (CreateRequest 0 b (contents_with 9 25 1 0) (set 255) (term_of None (set 255) None
    ∷ []) (set 17) (Some (attribute_controls Exclusive Shared NotRequired)) None)
    ∷ asks 4 (at 1 999999) (SelectRequest a (set 255) None None)
    ∷ asks 4 (at 1 999999) (InitializeRequest 255 None None 1) ∷ Arrives 5
    ∷ asks 5 (at 2 1) (InitializeRequest 255 (Some ann) None 2) ∷ Arrives 6 ∷ Arrives 7
    ∷ asks 6 (at 2 1) (InitializeRequest 15 None None 2) ∷ asks 7 (at 2 1) (InitializeRequest 255 None None 2)
    ∷ asks 7 (at 2 1) (CreateRequest 1 a (contents_with 9 22 0 1) (set 255) [] (set 31) None None)
    ∷ asks 7 (at 2 1) (ChangeAttribRequest (Some b) None None 0) ∷ asks 7 (at 3 1) (OpenRequest 4 None None (Some 7))
    ∷ asks 7 (at 3 1) (ReadRequest Begin UA) ∷ asks 6 (at 3 1) (SelectRequest a (set 255) None None)
    ∷ asks 6 (at 3 1) (CreateRequest 0 c (contents_with 1 26 1 1) (set 255) [] (set 255) None None) ∷ Arrives 8
    ∷ asks 7 (at 3 1) TransferEndRequest ∷ asks 7 (at 3 1) (ReadRequest Begin UA)
    ∷ asks 8 (at 3 1) (InitializeRequest 3 None None 2) ∷ asks 7 (at 4 1) TransferEndRequest
    ∷ asks 7 (at 5 1) (WriteRequest Extend Begin) ∷ asks 8 (at 5 1) (SelectRequest c (set 1) None None)
    ∷ asks 8 (at 5 1) (ReadAttribRequest 511)
    ∷ asks 8 (at 5 1) (OpenRequest 29 (Some (contents_type 3)) (Some (content_controls NotRequired Shared NoAccess NotRequired NoAccess)) (Some 7))
    ∷ asks 8 (at 5 1) (ChangeAttribRequest (Some c) None (Some (term_of (Some ann) (set 95) None ∷ [])) 0) ∷ []

abbrev pub run_3037 : Turn
run_3037 = run events_3037 beginning_3037

abbrev pub kept_3037 : List Docket
kept_3037 = docket_of guest 7 a (set 31) (NotRequired ∷ NotRequired ∷ Shared ∷ NotRequired ∷ NotRequired ∷ NotRequired
    ∷ NotRequired ∷ NotRequired ∷ []) (set 4) None 0 3 13 (in_write Begin Extend 13 0 []) ∷ []

abbrev pub beginning_901 : State
beginning_901 = beginning [] (binary_file a 1 [] ∷ text_file b ((Text 25 (65 ∷ []) ∷ []) ∷ (Text 25 (66 ∷ []) ∷ [])
    ∷ (Text 25 (67 ∷ []) ∷ []) ∷ (Text 25 (68 ∷ []) ∷ []) ∷ (Text 25 (69 ∷ []) ∷ []) ∷ (Text 25 (70 ∷ []) ∷ [])
    ∷ (Text 25 (71 ∷ []) ∷ []) ∷ (Text 25 (72 ∷ []) ∷ []) ∷ (Text 25 (73 ∷ []) ∷ []) ∷ (Text 25 (74 ∷ []) ∷ []) ∷ [])
    ∷ [])

abbrev pub events_901 : List Event
events_901 = Arrives 1 ∷ asks 1 (at 0 1) (InitializeRequest 255 None None 1)
    ∷ asks 1 (at 0 1) (CreateRequest 0 c (contents_with 3 26 0 0) (set 255) (term_of (Some ann) (set 31) (Some password)
    ∷ []) (set 17) (Some (attribute_controls Shared Shared NotRequired)) None)
    ∷ asks 1 (at 0 1) (SelectRequest a (set 19) None None) ∷ asks 1 (at 0 1) (OpenRequest 0 None None (Some 7))
    ∷ asks 1 (at 1 1) (BeginGroupRequest 3) ∷ asks 1 (at 1 1) CloseRequest ∷ asks 1 (at 1 1) EndGroupRequest
    ∷ Arrives 2 ∷ asks 2 (at 2 1) (InitializeRequest 255 (Some ann) None 20)
    ∷ asks 1 (at 3 1) (WriteRequest Replace Begin) ∷ Takes 1 (at 4 2) messages.Check
    ∷ asks 2 (at 4 1) (BeginGroupRequest 2) ∷ Arrives 3
    ∷ asks 3 (at_without_token 5 1) (InitializeRequest 255 (Some ann) (Some password) 20)
    ∷ asks 3 (at 6 1) (SelectRequest a (set 255) None None) ∷ asks 3 (at 6 1) (BeginGroupRequest 1)
    ∷ asks 2 (at 6 1) (SelectRequest b (set 19) None None)
    ∷ asks 3 (at 6 1) (OpenRequest 29 None (Some (content_controls NotRequired NotRequired Shared Exclusive Shared)) None)
    ∷ Takes 1 (at 6 2) (messages.Element (Text 25 (65 ∷ []))) ∷ asks 2 (at 6 1) EndGroupRequest
    ∷ asks 3 (at 6 1) DeselectRequest ∷ asks 2 (at 7 1) (SelectRequest a (set 19) None None)
    ∷ asks 3 (at 7 1) EndGroupRequest ∷ asks 1 (at 7 2) (UserAbort 0) ∷ asks 2 (at 7 1) (BeginGroupRequest 2)
    ∷ asks 2 (at 8 1) (ReadAttribRequest 3) ∷ asks 3 (at 8 1) (BeginGroupRequest 1) ∷ asks 3 (at 8 1) EndGroupRequest
    ∷ asks 3 (at 8 1) (RecoverRequest 7 1 1) ∷ asks 2 (at 9 1) EndGroupRequest ∷ Arrives 4
    ∷ asks 3 (at 9 1) (SelectRequest b (set 255) None None) ∷ asks 2 (at 10 1) (BeginGroupRequest 1) ∷ []

abbrev pub run_901 : Turn
run_901 = run events_901 beginning_901

abbrev pub kept_901 : List Docket
kept_901 = docket_of guest 7 a (set 19) (NotRequired ∷ NotRequired ∷ NotRequired ∷ NotRequired ∷ NotRequired
    ∷ NotRequired ∷ NotRequired ∷ NotRequired ∷ []) (set 0) None 0 1 0 (in_write Begin Replace 13 1 ([] ∷ [])) ∷ []

abbrev pub beginning_1204 : State
beginning_1204 = beginning [] (file_of a (set 255) (contents_type 3) (term_of (Some ann) (set 255) (Some password)
    ∷ term_of None (set 31) None ∷ []) (stamp_at 0 guest) None None None 1 Unstructured ((octet 0 ∷ octet 1 ∷ octet 2
    ∷ octet 3 ∷ octet 4 ∷ octet 5 ∷ octet 6 ∷ octet 7 ∷ octet 8 ∷ []) ∷ []) ∷ text_file b [] ∷ [])

abbrev pub events_1204 : List Event
events_1204 = Arrives 1 ∷ asks 1 (at_without_token 0 999999) (InitializeRequest 255 None None 1)
    ∷ asks 1 (at 1 999999) (CreateRequest 0 a (contents_type 2) (set 255) (term_of (Some ann) (set 31) (Some password)
    ∷ []) (set 255) None None) ∷ Arrives 2 ∷ Arrives 3 ∷ asks 2 (at 1 1) (InitializeRequest 3 None None 1)
    ∷ asks 2 (at 2 1) (SelectRequest b (set 255) None (Some password))
    ∷ asks 1 (at 2 999999) (SelectRequest c (set 255) None None)
    ∷ asks 3 (at 3 999999) (InitializeRequest 255 (Some bob) (Some password) 1)
    ∷ asks 1 (at 3 999999) (SelectRequest a (set 255) None (Some password))
    ∷ asks 1 (at 3 999999) (CreateRequest 0 c (contents_with 3 22 0 1) (set 255) [] (set 255) None None)
    ∷ asks 3 (at 3 999999) (BeginGroupRequest 1) ∷ asks 2 (at 4 1) DeleteRequest
    ∷ asks 1 (at 5 999999) (SelectRequest a (set 1) None (Some password))
    ∷ asks 2 (at_without_token 6 1) (UserAbort 0) ∷ asks 1 (at 7 999999) (OpenRequest 1 None None (Some 7))
    ∷ asks 3 (at 8 999999) EndGroupRequest ∷ asks 3 (at 8 999999) (SelectRequest a (set 255) None None)
    ∷ asks 3 (at 8 999999) (SelectRequest a (set 255) None None)
    ∷ asks 3 (at 8 999999) (SelectRequest b (set 255) None None) ∷ asks 1 (at 9 999999) (ReadRequest Begin UA)
    ∷ Takes 1 (at 10 1000000) (messages.Restart 2) ∷ asks 3 (at 10 999999) (BeginGroupRequest 3)
    ∷ asks 3 (at 11 999999) EndGroupRequest ∷ asks 3 (at 11 999999) (BeginGroupRequest 2)
    ∷ asks 3 (at 12 999999) EndGroupRequest ∷ asks 3 (at 12 999999) (OpenRequest 19 None None (Some 7))
    ∷ asks 3 (at 12 999999) (WriteRequest Insert End) ∷ Takes 3 (at 12 1000000) messages.Check
    ∷ Takes 3 (at 12 1000000) (messages.Element (Descriptor None true)) ∷ Takes 3 (at 12 1000001) messages.Check
    ∷ Takes 3 (at 12 1000002) messages.Check ∷ Takes 3 (at 12 1000002) (messages.Element (Text 25 (72 ∷ [])))
    ∷ asks 3 (at 12 1000002) (DataEnd None) ∷ []

abbrev pub run_1204 : Turn
run_1204 = run events_1204 beginning_1204

abbrev pub kept_1204 : List Docket
kept_1204 = docket_of guest 7 a (set 1) (Shared ∷ NotRequired ∷ NotRequired ∷ NotRequired ∷ NotRequired ∷ NotRequired
    ∷ NotRequired ∷ NotRequired ∷ []) (set 1) (Some password) 0 1 0 (in_read Begin UA 0 0 1)
    ∷ docket_of bob 7 b (set 255) (Shared ∷ Shared ∷ NotRequired ∷ NotRequired ∷ Shared ∷ Shared ∷ Shared ∷ Shared
    ∷ []) (set 19) None 0 1 0 (in_write End Insert 0 3 ([] ∷ (Descriptor None true ∷ []) ∷ [] ∷ [])) ∷ []

abbrev pub beginning_1368 : State
beginning_1368 = beginning [] (binary_file a 1 (octet 0 ∷ []) ∷ text_file b [] ∷ [])

abbrev pub events_1368 : List Event
events_1368 = Arrives 1 ∷ asks 1 (at 0 999999) (InitializeRequest 255 None None 1)
    ∷ asks 1 (at 0 999999) (SelectRequest c (set 224) None (Some password))
    ∷ asks 1 (at 1 999999) (SelectRequest a (set 255) None None) ∷ asks 1 (at 2 999999) DeleteRequest
    ∷ asks 1 (at_without_token 2 999999) (SelectRequest b (set 255) None None)
    ∷ asks 1 (at 3 999999) (OpenRequest 19 None None (Some 7)) ∷ asks 1 (at 3 999999) (WriteRequest Insert End)
    ∷ asks 1 (at 4 999999) (DataEnd (Some (plain 32))) ∷ asks 1 (at 5 999999) TransferEndRequest
    ∷ asks 1 (at 5 999999) (WriteRequest Insert End) ∷ Takes 1 (at 6 999999) (messages.Element (Descriptor None true))
    ∷ Takes 1 (at 7 999999) (messages.Element (Text 25 (71 ∷ []))) ∷ asks 1 (at 8 999999) (DataEnd None)
    ∷ asks 1 (at 9 999999) TransferEndRequest ∷ asks 1 (at 9 999999) (UserAbort 0) ∷ Arrives 2
    ∷ asks 2 (at 9 1) (InitializeRequest 255 None None 20)
    ∷ asks 2 (at 9 1) (SelectRequest b (set 31) (Some (attribute_controls NotRequired Shared Shared)) None)
    ∷ asks 2 (at 10 1) (ReadAttribRequest 3) ∷ asks 2 (at 10 1) (OpenRequest 1 None None (Some 7))
    ∷ asks 2 (at 10 1) (ChangeAttribRequest None None (Some []) 0) ∷ asks 2 (at 11 1) DeselectRequest
    ∷ asks 2 (at 11 1) (RecoverRequest 7 3 3) ∷ asks 2 (at 11 1) (ReadRequest Begin UA)
    ∷ Takes 2 (at 11 1) (messages.Acknowledge 1) ∷ Arrives 3
    ∷ asks 3 (at 12 999999) (InitializeRequest 255 None None 20) ∷ asks 3 (at 12 999999) (RecoverRequest 7 3 0)
    ∷ Takes 3 (at 13 999999) (messages.Acknowledge 0) ∷ asks 3 (at 14 999999) TransferEndRequest
    ∷ asks 3 (at 14 999999) (WriteRequest Insert End) ∷ asks 3 (at 14 999999) (RestartRequest 2) ∷ Arrives 4 ∷ []

abbrev pub run_1368 : Turn
run_1368 = run events_1368 beginning_1368

abbrev pub kept_1368 : List Docket
kept_1368 = docket_of guest 7 b (set 255) (Shared ∷ Shared ∷ NotRequired ∷ NotRequired ∷ Shared ∷ Shared ∷ Shared
    ∷ Shared ∷ []) (set 19) None 0 4 0 (in_write End Insert 0 0 []) ∷ []

abbrev pub beginning_2747 : State
beginning_2747 = beginning [] (binary_file a 1 (octet 0 ∷ octet 1 ∷ octet 2 ∷ octet 3 ∷ octet 4 ∷ octet 5 ∷ octet 6
    ∷ octet 7 ∷ octet 8 ∷ []) ∷ text_file b ((Text 25 (65 ∷ []) ∷ []) ∷ (Text 25 (66 ∷ []) ∷ []) ∷ []) ∷ [])

abbrev pub events_2747 : List Event
events_2747 = Arrives 1 ∷ asks 1 (at 0 1) (InitializeRequest 255 None None 20)
    ∷ asks 1 (at 0 1) (SelectRequest b (set 255) None None) ∷ asks 1 (at 1 1) (OpenRequest 19 None None (Some 8))
    ∷ asks 1 (at_without_token 2 1) (WriteRequest Insert End) ∷ asks 1 (at 2 1) (CancelRequest None)
    ∷ asks 1 (at 2 1) (WriteRequest Replace First) ∷ asks 1 (at 2 1) (DataEnd None)
    ∷ asks 1 (at 2 1) TransferEndRequest ∷ asks 1 (at 2 1) (WriteRequest Insert End) ∷ asks 1 (at 3 1) (DataEnd None)
    ∷ asks 1 (at 3 1) TransferEndRequest ∷ asks 1 (at 3 1) (WriteRequest Insert End) ∷ Faults 1 101 3 ∷ Arrives 2
    ∷ asks 2 (at 3 1) (InitializeRequest 255 None None 20)
    ∷ asks 2 (at 4 1) (CreateRequest 0 a (contents_type 3) (set 31) (term_of None (set 255) None
    ∷ []) (set 255) None None) ∷ asks 2 (at 4 1) (SelectRequest a (set 255) None None)
    ∷ asks 2 (at 4 1) (OpenRequest 5 None None (Some 7)) ∷ asks 2 (at 4 1) (LocateRequest End)
    ∷ asks 2 (at 4 1) (WriteRequest Extend Begin)
    ∷ asks 2 (at 4 1) (InitializeRequest 255 (Some ann) (Some password) 2) ∷ Arrives 3
    ∷ asks 3 (at 5 999999) (InitializeRequest 255 (Some bob) (Some password) 2)
    ∷ asks 3 (at 5 999999) (RecoverRequest 8 9 2) ∷ asks 3 (at 6 999999) (RecoverRequest 7 1 0)
    ∷ asks 3 (at 6 999999) (SelectRequest b (set 255) (Some (attribute_controls Shared Exclusive Exclusive)) None)
    ∷ asks 3 (at 7 999999) (RecoverRequest 8 4 1) ∷ asks 3 (at_without_token 7 999999) (RecoverRequest 8 4 2)
    ∷ asks 3 (at 7 999999) (SelectRequest b (set 255) (Some (attribute_controls Shared Shared Shared)) None)
    ∷ asks 3 (at 7 999999) (OpenRequest 2 None None (Some 7)) ∷ asks 3 (at 7 999999) (WriteRequest Insert End)
    ∷ asks 3 (at 8 999999) (DataEnd None) ∷ asks 3 (at 8 999999) TransferEndRequest ∷ []

abbrev pub run_2747 : Turn
run_2747 = run events_2747 beginning_2747

abbrev pub kept_2747 : List Docket
kept_2747 = docket_of guest 8 b (set 255) (Shared ∷ Shared ∷ NotRequired ∷ NotRequired ∷ Shared ∷ Shared ∷ Shared
    ∷ Shared ∷ []) (set 19) None 3 4 0 (in_write End Insert 0 0 []) ∷ docket_of guest 7 a (set 255) (Shared
    ∷ NotRequired ∷ Shared ∷ NotRequired ∷ NotRequired ∷ Shared ∷ Shared ∷ Shared
    ∷ []) (set 5) None 0 1 0 (in_write Begin Extend 13 0 []) ∷ docket_of bob 7 b (set 255) (NotRequired ∷ Shared
    ∷ NotRequired ∷ NotRequired ∷ NotRequired ∷ Shared ∷ Shared ∷ Shared ∷ []) (set 2) None 3 2 0 at_rest ∷ []

pub record RowsOfRandom : Type 0 where
  pub sent_3415 : run_3415.sent ≡ replies 1 (InitializeResponse None 15 16)
      ∷ replies 1 (RecoverResponse (Some (plain 33)) None 0 false 0) ∷ replies 1 (SelectResponse None)
      ∷ replies 1 (OpenResponse (Some (plain 33)) None) ∷ replies 1 (OpenResponse None (Some (contents_type 2)))
      ∷ replies 1 (EraseResponse (Some (plain 13))) ∷ replies 1 (LocateResponse None 1)
      ∷ sent_on 1 (answers.Abort 102 0) ∷ replies 2 (InitializeResponse None 255 2)
      ∷ replies 2 (CreateResponse (Some (plain 12))) ∷ replies 2 (SelectResponse None)
      ∷ replies 2 (ReadAttribResponse (Some (plain 13)) None) ∷ replies 2 BeginGroupResponse
      ∷ replies 2 (ChangeAttribResponse (Some (plain 13))) ∷ replies 2 (DeleteResponse (Some (plain 13)))
      ∷ replies 2 (OpenResponse None (Some (contents_type 3))) ∷ replies 2 EndGroupResponse
      ∷ sent_on 2 (answers.Acknowledge 1) ∷ replies 2 (TransferEndResponse (Some (plain 13)))
      ∷ sent_on 2 (answers.Element (octet 0)) ∷ sent_on 2 (answers.Element (octet 1))
      ∷ sent_on 2 (answers.Element (octet 2)) ∷ sent_on 2 (answers.Element (octet 3))
      ∷ sent_on 2 (answers.Element (octet 4)) ∷ sent_on 2 (answers.Element (octet 5))
      ∷ sent_on 2 (answers.Element (octet 6)) ∷ sent_on 2 (answers.Element (octet 7)) ∷ sent_on 2 (answers.Check 1)
      ∷ sent_on 2 (answers.Element (octet 8)) ∷ replies 2 (DataEnd None) ∷ replies 2 (RestartResponse 0)
      ∷ sent_on 2 (answers.Element (octet 0)) ∷ sent_on 2 (answers.Element (octet 1))
      ∷ sent_on 2 (answers.Element (octet 2)) ∷ sent_on 2 (answers.Element (octet 3))
      ∷ sent_on 2 (answers.Element (octet 4)) ∷ sent_on 2 (answers.Element (octet 5))
      ∷ sent_on 2 (answers.Element (octet 6)) ∷ sent_on 2 (answers.Element (octet 7)) ∷ sent_on 2 (answers.Check 1)
      ∷ sent_on 2 (answers.Element (octet 8)) ∷ replies 2 (DataEnd None) ∷ replies 2 CancelResponse
      ∷ replies 3 (InitializeResponse None 255 16) ∷ []
  pub files_3415 : run_3415.state.files ≡ file_of a (set 255) (contents_type 3) [] (stamp_at 0 guest) None (Some (stamp_at 9 guest)) None 1 Unstructured ((octet 0
      ∷ octet 1 ∷ octet 2 ∷ octet 3 ∷ octet 4 ∷ octet 5 ∷ octet 6 ∷ octet 7 ∷ octet 8 ∷ []) ∷ [])
      ∷ text_file b ((Text 25 (65 ∷ []) ∷ []) ∷ (Text 25 (66 ∷ []) ∷ []) ∷ []) ∷ []
  pub dockets_3415 : (tables_of run_3415.state).dockets ≡ kept_3415
  pub after_stop_3415 : (tables_of (stopped run_3415.state)).dockets ≡ kept_3415
  pub sent_1939 : run_1939.sent ≡ replies 1 (InitializeResponse None 255 1) ∷ replies 1 (SelectResponse None)
      ∷ replies 1 (ReadAttribResponse (Some (plain 31)) None) ∷ replies 1 (OpenResponse (Some (plain 13)) None)
      ∷ replies 1 (ReadAttribResponse None (Some (attributes_of (Some b) (Some (pos 255)) None None None None None None None)))
      ∷ replies 1 (ReadAttribResponse None (Some (attributes_of (Some b) (Some (pos 255)) None None None None None None None)))
      ∷ replies 2 (InitializeResponse None 255 2) ∷ replies 2 (CreateResponse None)
      ∷ replies 3 (InitializeResponse None 255 16) ∷ replies 3 (SelectResponse None)
      ∷ replies 2 (ReadAttribResponse (Some (plain 13)) None) ∷ replies 3 (OpenResponse None (Some (contents_type 2)))
      ∷ replies 3 (DataEnd (Some (plain 20))) ∷ replies 2 (OpenResponse None (Some (contents_type 2)))
      ∷ replies 1 BeginGroupResponse ∷ replies 1 (OpenResponse (Some (plain 13)) None)
      ∷ replies 1 (DeleteResponse (Some (diagnostic_with 16 (pos 7) (pos 2)))) ∷ replies 1 (DeselectResponse None)
      ∷ replies 1 (ChangeAttribResponse (Some (plain 37))) ∷ replies 1 EndGroupResponse
      ∷ sent_on 2 (answers.Abort 106 0) ∷ replies 1 (RecoverResponse (Some (plain 29)) None 0 false 0)
      ∷ replies 1 (RecoverResponse None (Some 1) 0 false 0) ∷ replies 4 (InitializeResponse None 255 1)
      ∷ replies 4 (RecoverResponse (Some (plain 27)) None 0 false 0) ∷ replies 4 (SelectResponse None)
      ∷ replies 4 (DeselectResponse None) ∷ replies 4 (RecoverResponse (Some (plain 27)) None 0 false 0)
      ∷ replies 4 (SelectResponse (Some (diagnostic_with 16 (pos 7) (neg_ℤ (pos 7))))) ∷ []
  pub files_1939 : run_1939.state.files ≡ binary_file a 1 (octet 0 ∷ octet 1 ∷ octet 2 ∷ octet 3 ∷ octet 4 ∷ octet 5
      ∷ octet 6 ∷ octet 7 ∷ octet 8 ∷ []) ∷ text_file b ((Text 25 (65 ∷ []) ∷ []) ∷ (Text 25 (66 ∷ []) ∷ []) ∷ [])
      ∷ []
  pub dockets_1939 : (tables_of run_1939.state).dockets ≡ kept_1939
  pub after_stop_1939 : (tables_of (stopped run_1939.state)).dockets ≡ kept_1939
  pub sent_2627 : run_2627.sent ≡ replies 1 (InitializeResponse None 63 1)
      ∷ replies 1 (SelectResponse (Some (plain 14))) ∷ replies 1 (SelectResponse (Some (plain 11)))
      ∷ replies 1 (SelectResponse None) ∷ replies 1 BeginGroupResponse
      ∷ replies 1 (ReadAttribResponse (Some (plain 30)) None) ∷ replies 1 EndGroupResponse
      ∷ replies 1 (ReadAttribResponse (Some (plain 31)) None) ∷ replies 1 (ChangeAttribResponse (Some (plain 31)))
      ∷ replies 2 (InitializeResponse None 255 1) ∷ replies 3 (InitializeResponse (Some (plain 36)) 0 1)
      ∷ replies 4 (InitializeResponse None 255 1) ∷ replies 4 (SelectResponse None)
      ∷ replies 4 (OpenResponse None (Some (contents_type 2))) ∷ replies 4 (TransferEndResponse None)
      ∷ replies 4 (CloseResponse None) ∷ replies 4 (OpenResponse (Some (plain 17)) None)
      ∷ replies 4 (ReadAttribResponse None (Some (attributes_of (Some b) None None None None None None None (Some (pos 0)))))
      ∷ replies 4 BeginGroupResponse ∷ replies 4 (ChangeAttribResponse None)
      ∷ replies 4 (ReadAttribResponse None (Some (attributes_of (Some b) (Some (pos 31)) None None None None None None None)))
      ∷ replies 4 (DeleteResponse None) ∷ replies 4 (OpenResponse (Some (plain 37)) None)
      ∷ replies 4 (OpenResponse (Some (plain 37)) None) ∷ replies 4 (DeselectResponse (Some (plain 37)))
      ∷ replies 4 (DeleteResponse (Some (plain 37))) ∷ replies 4 EndGroupResponse ∷ []
  pub files_2627 : run_2627.state.files ≡ file_of a (set 255) (contents_type 3) (term_of (Some ann) (set 255) (Some password)
      ∷ term_of None (set 31) None ∷ []) (stamp_at 0 guest) None None None 1 Unstructured ((octet 0 ∷ []) ∷ []) ∷ []
  pub dockets_2627 : (tables_of run_2627.state).dockets ≡ kept_2627
  pub after_stop_2627 : (tables_of (stopped run_2627.state)).dockets ≡ kept_2627
  pub sent_8 : run_8.sent ≡ replies 1 (InitializeResponse None 127 16) ∷ replies 1 (SelectResponse None)
      ∷ replies 1 BeginGroupResponse ∷ replies 1 (DeselectResponse (Some (plain 30))) ∷ replies 1 EndGroupResponse
      ∷ replies 1 (OpenResponse (Some (plain 33)) None) ∷ replies 1 (OpenResponse (Some (plain 33)) None)
      ∷ replies 1 (ReadAttribResponse None (Some (attributes_of (Some a) (Some (pos 255)) None None None None None None None)))
      ∷ replies 1 (DeleteResponse None) ∷ sent_on 1 (answers.Abort 101 3) ∷ replies 2 (InitializeResponse None 255 16)
      ∷ replies 2 (SelectResponse (Some (plain 13))) ∷ replies 2 (CreateResponse None)
      ∷ replies 2 (ChangeAttribResponse (Some (plain 13))) ∷ replies 2 BeginGroupResponse
      ∷ replies 2 (OpenResponse (Some (plain 13)) None) ∷ replies 2 (ReadAttribResponse (Some (plain 13)) None)
      ∷ replies 2 EndGroupResponse ∷ replies 2 (ChangeAttribResponse (Some (plain 13)))
      ∷ replies 2 (OpenResponse (Some (plain 13)) None) ∷ replies 2 (OpenResponse (Some (plain 13)) None)
      ∷ replies 2 (OpenResponse None (Some (contents_type 2))) ∷ replies 2 (EraseResponse (Some (plain 13)))
      ∷ replies 2 (LocateResponse (Some (plain 19)) 0) ∷ replies 2 (LocateResponse None 0)
      ∷ replies 2 (DataEnd (Some (plain 19))) ∷ replies 2 (TransferEndResponse (Some (plain 19)))
      ∷ replies 3 (InitializeResponse None 255 16) ∷ replies 3 (SelectResponse None)
      ∷ replies 3 (OpenResponse (Some (diagnostic_with 16 (pos 0) (pos 2))) None) ∷ []
  pub files_8 : run_8.state.files ≡ text_file b [] ∷ []
  pub dockets_8 : (tables_of run_8.state).dockets ≡ kept_8
  pub after_stop_8 : (tables_of (stopped run_8.state)).dockets ≡ kept_8
  pub sent_1392 : run_1392.sent ≡ replies 1 (InitializeResponse None 255 1)
      ∷ replies 2 (InitializeResponse None 255 2) ∷ replies 1 (SelectResponse None) ∷ replies 1 BeginGroupResponse
      ∷ replies 1 (ReadAttribResponse (Some (plain 31)) None) ∷ replies 1 EndGroupResponse
      ∷ replies 2 TerminateResponse ∷ replies 1 (OpenResponse None (Some (contents_type 2)))
      ∷ replies 1 (EraseResponse (Some (plain 19))) ∷ sent_on 1 (answers.Acknowledge 1)
      ∷ sent_on 1 (answers.Abort 102 0) ∷ replies 3 (InitializeResponse None 255 16)
      ∷ replies 4 (InitializeResponse None 255 1) ∷ replies 4 (SelectResponse None)
      ∷ replies 4 (OpenResponse None (Some (contents_type 2))) ∷ sent_on 4 (answers.Element (Descriptor None false))
      ∷ sent_on 4 (answers.Element Enter) ∷ sent_on 4 (answers.Element (Descriptor None true))
      ∷ sent_on 4 (answers.Element (Text 25 (65 ∷ []))) ∷ sent_on 4 (answers.Element (Descriptor None true))
      ∷ sent_on 4 (answers.Element (Text 25 (66 ∷ []))) ∷ sent_on 4 (answers.Element Exit) ∷ replies 4 (DataEnd None)
      ∷ replies 4 (TransferEndResponse None) ∷ replies 5 (InitializeResponse None 255 2)
      ∷ replies 5 (SelectResponse None) ∷ replies 5 (OpenResponse (Some (plain 28)) None)
      ∷ replies 5 (OpenResponse (Some (plain 18)) None)
      ∷ replies 5 (DeleteResponse (Some (diagnostic_with 16 (pos 7) (neg_ℤ (pos 7)))))
      ∷ replies 5 (DeleteResponse (Some (diagnostic_with 16 (pos 7) (neg_ℤ (pos 7)))))
      ∷ replies 5 (DeselectResponse None) ∷ replies 5 (RecoverResponse None (Some 1) 0 true 0) ∷ []
  pub files_1392 : run_1392.state.files ≡ file_of a (set 255) (contents_type 3) (term_of (Some ann) (set 255) (Some password)
      ∷ term_of None (set 31) None ∷ []) (stamp_at 0 guest) None None None 1 Unstructured ([] ∷ [])
      ∷ file_of b (set 255) (contents_type 2) [] (stamp_at 0 guest) None (Some (stamp_at 5 ann)) None 1 SequentialFlat ((Text 25 (65
      ∷ []) ∷ []) ∷ (Text 25 (66 ∷ []) ∷ []) ∷ []) ∷ []
  pub dockets_1392 : (tables_of run_1392.state).dockets ≡ kept_1392
  pub after_stop_1392 : (tables_of (stopped run_1392.state)).dockets ≡ kept_1392
  pub sent_168 : run_168.sent ≡ replies 1 (InitializeResponse None 255 2) ∷ replies 2 (InitializeResponse None 255 1)
      ∷ replies 2 (SelectResponse None) ∷ replies 2 (ChangeAttribResponse (Some (plain 12)))
      ∷ replies 2 (ReadAttribResponse None (Some (attributes_of (Some a) (Some (pos 255)) None None None None None None None)))
      ∷ replies 2 (OpenResponse None (Some (contents_type 3))) ∷ replies 2 (EraseResponse None)
      ∷ replies 2 CancelResponse ∷ replies 2 (DataEnd None) ∷ replies 3 (InitializeResponse None 255 1)
      ∷ replies 3 (RecoverResponse None (Some 2) 0 true 0) ∷ replies 3 (DataEnd None)
      ∷ replies 3 (TransferEndResponse None) ∷ replies 3 (DataEnd (Some (plain 20)))
      ∷ replies 4 (InitializeResponse None 255 1) ∷ replies 4 (SelectResponse None)
      ∷ replies 3 (TransferEndResponse (Some (plain 20)))
      ∷ replies 4 (ReadAttribResponse None (Some (attributes_of (Some a) None None None None None None None (Some (pos 0)))))
      ∷ replies 4 (OpenResponse None (Some (contents_type 3))) ∷ replies 5 (InitializeResponse None 255 2)
      ∷ replies 5 (RecoverResponse None (Some 4) 0 false 20) ∷ []
  pub files_168 : run_168.state.files ≡ file_of a (set 255) (contents_type 3) [] (stamp_at 0 guest) (Some (stamp_at 1 guest)) (Some (stamp_at 3 guest)) None 2 Unstructured ([]
      ∷ []) ∷ text_file b ((Text 25 (65 ∷ []) ∷ []) ∷ (Text 25 (66 ∷ []) ∷ []) ∷ []) ∷ []
  pub dockets_168 : (tables_of run_168.state).dockets ≡ kept_168
  pub after_stop_168 : (tables_of (stopped run_168.state)).dockets ≡ kept_168
  pub sent_1150 : run_1150.sent ≡ replies 2 (InitializeResponse None 255 1)
      ∷ replies 1 (InitializeResponse None 255 2) ∷ replies 2 (SelectResponse None)
      ∷ replies 1 (SelectResponse (Some (plain 13))) ∷ replies 2 (ChangeAttribResponse (Some (plain 12)))
      ∷ replies 1 (CreateResponse (Some (plain 12)))
      ∷ replies 2 (ReadAttribResponse None (Some (attributes_of (Some b) (Some (pos 255)) (Some (contents_type 2)) (Some []) (Some (dated 0 guest)) None None None (Some (pos 0)))))
      ∷ replies 2 (OpenResponse None (Some (contents_type 2))) ∷ replies 3 (InitializeResponse None 255 2)
      ∷ replies 1 BeginGroupResponse ∷ replies 1 (CreateResponse (Some (plain 30)))
      ∷ replies 1 (OpenResponse (Some (plain 30)) None) ∷ replies 1 (OpenResponse (Some (plain 37)) None)
      ∷ replies 1 (CreateResponse (Some (plain 37))) ∷ replies 1 (ReadAttribResponse (Some (plain 37)) None)
      ∷ replies 1 EndGroupResponse ∷ replies 1 (SelectResponse (Some (plain 14)))
      ∷ replies 1 (SelectResponse (Some (plain 14))) ∷ replies 3 (SelectResponse None)
      ∷ replies 1 (SelectResponse (Some (plain 14))) ∷ sent_on 2 (answers.Acknowledge 1)
      ∷ replies 1 (SelectResponse None) ∷ replies 1 (OpenResponse (Some (plain 13)) None)
      ∷ sent_on 2 (answers.Acknowledge 2) ∷ sent_on 2 (answers.Abort 105 0)
      ∷ replies 3 (ReadAttribResponse (Some (plain 13)) None) ∷ []
  pub files_1150 : run_1150.state.files ≡ file_of a (set 255) (contents_type 3) (term_of (Some ann) (set 255) (Some password)
      ∷ term_of None (set 31) None ∷ []) (stamp_at 0 guest) None None None 1 Unstructured ([] ∷ []) ∷ text_file b []
      ∷ []
  pub dockets_1150 : (tables_of run_1150.state).dockets ≡ kept_1150
  pub after_stop_1150 : (tables_of (stopped run_1150.state)).dockets ≡ kept_1150
  pub sent_3037 : run_3037.sent ≡ replies 1 (InitializeResponse (Some (plain 36)) 0 1)
      ∷ replies 2 (InitializeResponse (Some (plain 36)) 0 1) ∷ replies 3 (InitializeResponse (Some (plain 36)) 0 1)
      ∷ replies 4 (InitializeResponse None 3 2) ∷ replies 4 (CreateResponse (Some (plain 33)))
      ∷ replies 4 (CreateResponse (Some (plain 33))) ∷ replies 4 (SelectResponse (Some (plain 15)))
      ∷ sent_on 4 (answers.Abort 102 0) ∷ replies 5 (InitializeResponse (Some (plain 36)) 0 1)
      ∷ replies 6 (InitializeResponse None 15 2) ∷ replies 7 (InitializeResponse None 255 2)
      ∷ replies 7 (CreateResponse None) ∷ replies 7 (ChangeAttribResponse (Some (plain 13)))
      ∷ replies 7 (OpenResponse None (Some (contents_type 3))) ∷ replies 7 (DataEnd (Some (plain 13)))
      ∷ replies 6 (SelectResponse (Some (plain 14))) ∷ replies 6 (CreateResponse None)
      ∷ replies 7 (TransferEndResponse (Some (plain 13))) ∷ replies 7 (DataEnd (Some (plain 13)))
      ∷ replies 8 (InitializeResponse None 3 2) ∷ replies 7 (TransferEndResponse (Some (plain 13)))
      ∷ replies 8 (SelectResponse None) ∷ replies 8 (ReadAttribResponse (Some (plain 33)) None)
      ∷ replies 8 (OpenResponse (Some (plain 33)) None) ∷ replies 8 (ChangeAttribResponse (Some (plain 33))) ∷ []
  pub files_3037 : run_3037.state.files ≡ file_of a (set 255) (contents_type 3) (term_of (Some ann) (set 255) (Some password)
      ∷ term_of None (set 31) None ∷ []) (stamp_at 0 guest) None None None 1 Unstructured ([] ∷ []) ∷ text_file b []
      ∷ file_of c (set 255) (contents_with 1 26 1 1) [] (stamp_at 3 guest) None None None 1 Unstructured ([] ∷ [])
      ∷ []
  pub dockets_3037 : (tables_of run_3037.state).dockets ≡ kept_3037
  pub after_stop_3037 : (tables_of (stopped run_3037.state)).dockets ≡ kept_3037
  pub sent_901 : run_901.sent ≡ replies 1 (InitializeResponse None 255 1)
      ∷ replies 1 (CreateResponse (Some (plain 14))) ∷ replies 1 (SelectResponse None)
      ∷ replies 1 (OpenResponse None (Some (contents_type 3))) ∷ replies 1 BeginGroupResponse
      ∷ replies 1 (CloseResponse (Some (plain 30))) ∷ replies 1 EndGroupResponse
      ∷ replies 2 (InitializeResponse None 255 16) ∷ sent_on 1 (answers.Acknowledge 1)
      ∷ replies 3 (InitializeResponse None 255 16) ∷ replies 3 (SelectResponse None) ∷ replies 2 BeginGroupResponse
      ∷ replies 2 (SelectResponse (Some (plain 30))) ∷ replies 2 EndGroupResponse ∷ replies 2 (SelectResponse None)
      ∷ replies 3 BeginGroupResponse ∷ replies 3 (OpenResponse (Some (plain 13)) None)
      ∷ replies 3 (DeselectResponse None) ∷ replies 3 EndGroupResponse ∷ replies 3 BeginGroupResponse
      ∷ replies 3 EndGroupResponse ∷ replies 3 (RecoverResponse (Some (plain 27)) None 0 false 0)
      ∷ replies 2 BeginGroupResponse ∷ replies 2 (ReadAttribResponse (Some (plain 13)) None)
      ∷ replies 2 EndGroupResponse ∷ replies 3 (SelectResponse None) ∷ []
  pub files_901 : run_901.state.files ≡ binary_file a 1 [] ∷ text_file b ((Text 25 (65 ∷ []) ∷ []) ∷ (Text 25 (66
      ∷ []) ∷ []) ∷ (Text 25 (67 ∷ []) ∷ []) ∷ (Text 25 (68 ∷ []) ∷ []) ∷ (Text 25 (69 ∷ []) ∷ []) ∷ (Text 25 (70
      ∷ []) ∷ []) ∷ (Text 25 (71 ∷ []) ∷ []) ∷ (Text 25 (72 ∷ []) ∷ []) ∷ (Text 25 (73 ∷ []) ∷ []) ∷ (Text 25 (74
      ∷ []) ∷ []) ∷ []) ∷ []
  pub dockets_901 : (tables_of run_901.state).dockets ≡ kept_901
  pub after_stop_901 : (tables_of (stopped run_901.state)).dockets ≡ kept_901
  pub sent_1204 : run_1204.sent ≡ replies 1 (InitializeResponse None 255 1)
      ∷ replies 1 (CreateResponse (Some (plain 12))) ∷ replies 2 (InitializeResponse None 3 1)
      ∷ replies 2 (SelectResponse None) ∷ replies 1 (SelectResponse (Some (plain 11)))
      ∷ replies 3 (InitializeResponse None 255 1) ∷ replies 1 (SelectResponse (Some (plain 14)))
      ∷ replies 1 (CreateResponse (Some (plain 17))) ∷ replies 2 (DeleteResponse (Some (plain 33)))
      ∷ replies 1 (SelectResponse None) ∷ replies 1 (OpenResponse None (Some (contents_type 3)))
      ∷ replies 3 BeginGroupResponse ∷ replies 3 EndGroupResponse ∷ replies 3 (SelectResponse (Some (plain 14)))
      ∷ replies 3 (SelectResponse (Some (plain 14))) ∷ replies 3 (SelectResponse None)
      ∷ sent_on 1 (answers.Element (octet 0)) ∷ sent_on 1 (answers.Element (octet 1))
      ∷ sent_on 1 (answers.Element (octet 2)) ∷ sent_on 1 (answers.Element (octet 3))
      ∷ sent_on 1 (answers.Element (octet 4)) ∷ sent_on 1 (answers.Element (octet 5))
      ∷ sent_on 1 (answers.Element (octet 6)) ∷ sent_on 1 (answers.Element (octet 7)) ∷ sent_on 1 (answers.Check 1)
      ∷ sent_on 1 (answers.Abort 102 0) ∷ replies 3 BeginGroupResponse ∷ replies 3 EndGroupResponse
      ∷ replies 3 BeginGroupResponse ∷ replies 3 EndGroupResponse
      ∷ replies 3 (OpenResponse None (Some (contents_type 2))) ∷ sent_on 3 (answers.Acknowledge 1)
      ∷ sent_on 3 (answers.Acknowledge 2) ∷ sent_on 3 (answers.Acknowledge 3) ∷ []
  pub files_1204 : run_1204.state.files ≡ file_of a (set 255) (contents_type 3) (term_of (Some ann) (set 255) (Some password)
      ∷ term_of None (set 31) None ∷ []) (stamp_at 0 guest) None None None 1 Unstructured ((octet 0 ∷ octet 1
      ∷ octet 2 ∷ octet 3 ∷ octet 4 ∷ octet 5 ∷ octet 6 ∷ octet 7 ∷ octet 8 ∷ []) ∷ []) ∷ text_file b [] ∷ []
  pub dockets_1204 : (tables_of run_1204.state).dockets ≡ kept_1204
  pub after_stop_1204 : (tables_of (stopped run_1204.state)).dockets ≡ kept_1204
  pub sent_1368 : run_1368.sent ≡ replies 1 (InitializeResponse None 255 1)
      ∷ replies 1 (SelectResponse (Some (plain 11))) ∷ replies 1 (SelectResponse None)
      ∷ replies 1 (DeleteResponse None) ∷ replies 1 (SelectResponse None)
      ∷ replies 1 (OpenResponse None (Some (contents_type 2))) ∷ replies 1 (TransferEndResponse (Some (plain 32)))
      ∷ replies 1 (TransferEndResponse None) ∷ replies 2 (InitializeResponse None 255 16)
      ∷ replies 2 (SelectResponse None) ∷ replies 2 (ReadAttribResponse (Some (plain 13)) None)
      ∷ replies 2 (OpenResponse (Some (plain 28)) None) ∷ replies 2 (ChangeAttribResponse (Some (plain 13)))
      ∷ replies 2 (DeselectResponse None) ∷ replies 2 (RecoverResponse None (Some 3) 0 false 0)
      ∷ sent_on 2 (answers.Element (Text 25 (71 ∷ []))) ∷ replies 2 (DataEnd None) ∷ sent_on 2 (answers.Abort 102 0)
      ∷ replies 3 (InitializeResponse None 255 16) ∷ replies 3 (RecoverResponse None (Some 3) 0 true 0)
      ∷ sent_on 3 (answers.Element (Text 25 (71 ∷ []))) ∷ replies 3 (DataEnd None)
      ∷ replies 3 (TransferEndResponse None) ∷ sent_on 3 (answers.Abort 102 0) ∷ []
  pub files_1368 : run_1368.state.files ≡ file_of b (set 255) (contents_type 2) [] (stamp_at 0 guest) (Some (stamp_at 9 guest)) (Some (stamp_at 14 guest)) None 2 SequentialFlat ((Text 25 (71
      ∷ []) ∷ []) ∷ []) ∷ []
  pub dockets_1368 : (tables_of run_1368.state).dockets ≡ kept_1368
  pub after_stop_1368 : (tables_of (stopped run_1368.state)).dockets ≡ kept_1368
  pub sent_2747 : run_2747.sent ≡ replies 1 (InitializeResponse None 255 16) ∷ replies 1 (SelectResponse None)
      ∷ replies 1 (OpenResponse None (Some (contents_type 2))) ∷ replies 1 CancelResponse
      ∷ replies 1 (TransferEndResponse (Some (plain 13))) ∷ replies 1 (TransferEndResponse None)
      ∷ sent_on 1 (answers.Abort 101 3) ∷ replies 2 (InitializeResponse None 255 16)
      ∷ replies 2 (CreateResponse (Some (plain 12))) ∷ replies 2 (SelectResponse None)
      ∷ replies 2 (OpenResponse None (Some (contents_type 3))) ∷ replies 2 (LocateResponse (Some (plain 18)) 0)
      ∷ sent_on 2 (answers.Abort 102 0) ∷ replies 3 (InitializeResponse None 255 2)
      ∷ replies 3 (RecoverResponse (Some (plain 27)) None 0 false 0)
      ∷ replies 3 (RecoverResponse (Some (plain 27)) None 0 false 0)
      ∷ replies 3 (SelectResponse (Some (diagnostic_with 16 (pos 6) (neg_ℤ (pos 8)))))
      ∷ replies 3 (RecoverResponse (Some (plain 27)) None 0 false 0)
      ∷ replies 3 (RecoverResponse (Some (plain 27)) None 0 false 0) ∷ replies 3 (SelectResponse None)
      ∷ replies 3 (OpenResponse None (Some (contents_type 2))) ∷ replies 3 (TransferEndResponse None) ∷ []
  pub files_2747 : run_2747.state.files ≡ binary_file a 1 (octet 0 ∷ octet 1 ∷ octet 2 ∷ octet 3 ∷ octet 4 ∷ octet 5
      ∷ octet 6 ∷ octet 7 ∷ octet 8 ∷ [])
      ∷ file_of b (set 255) (contents_type 2) [] (stamp_at 0 guest) (Some (stamp_at 8 bob)) None None 3 SequentialFlat ((Text 25 (65
      ∷ []) ∷ []) ∷ (Text 25 (66 ∷ []) ∷ []) ∷ []) ∷ []
  pub dockets_2747 : (tables_of run_2747.state).dockets ≡ kept_2747
  pub after_stop_2747 : (tables_of (stopped run_2747.state)).dockets ≡ kept_2747
