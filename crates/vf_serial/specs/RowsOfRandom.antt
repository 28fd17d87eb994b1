-- Runs drawn at random, and what another program tells of their files. Written by
-- bench/serial equations 70 247 348 1288 1651 1779
use Rattle.std.specs.Prelude.{◌≡◌, [], ◌∷◌, ℕ, List, None, Some, map, true, false}
use Rattle.vf_base.specs.declared.access.Context.TheVariants.{FA, UA}
use Rattle.vf_base.specs.declared.access.FaduId.TheVariants.{Begin, End, First, Last, Next, Previous, Number}
use Rattle.vf_base.specs.declared.action.Control.TheVariants.{NotRequired, Shared, Exclusive, NoAccess}
use Rattle.vf_base.specs.declared.element.Element.TheVariants.{Descriptor, Text}
use Rattle.vf_elements.specs.declared.message.Message.TheVariants as messages
use Rattle.vf_pdu.specs.declared.pdu.Pdu.TheVariants.{InitializeRequest, TerminateRequest, UserAbort, SelectRequest, DeselectRequest, CreateRequest, DeleteRequest, ReadAttribRequest, ChangeAttribRequest, OpenRequest, CloseRequest, BeginGroupRequest, EndGroupRequest, RecoverRequest, LocateRequest, EraseRequest, ReadRequest, WriteRequest, DataEnd, TransferEndRequest, CancelRequest, RestartRequest}
use Rattle.vf_pdu_fields.specs.declared.operation.WriteOperation.TheVariants.{Insert, Replace, Extend}
use Rattle.vf_tree.specs.FileTree.{DataUnit}
use Rattle.vf_filestore.specs.History.{guest}
use Rattle.vf_filestore.specs.Runs.{Arrives, Takes, Faults, Stops, beginning}
use Rattle.vf_filestore.specs.State.{State}
use Rattle.vf_filestore.specs.RowsOfRandom.{at, at_without_token, attribute_controls, c, content_controls, contents_with, password, term_of, user_of}
use Rattle.vf_filestore.specs.Samples.{a, b, ann, bob, binary_file, contents_type, octet, set, text_file}
use Rattle.vf_elements.specs.declared.message.Message.{Message}
use Rattle.vf_pdu.specs.declared.pdu.Pdu.{Pdu}
use Rattle.vf_filestore.specs.Aborts.{Setting}
use Rattle.vf_serial.specs.FileModel.{Operation, contents_after}
use Rattle.vf_serial.specs.Moves.{Happening, Happens, Drops}
use Rattle.vf_serial.specs.Schedule.{Place, Performs, Ceases, serial, serial_order}
use Rattle.vf_serial.specs.Uses.{Use, is_isolated, schedule_of, uses}

-- events of the filestore, among which dockets may be dropped
abbrev pub arrives : (link : ℕ) → Happening
arrives link = Happens (Arrives link)

abbrev pub takes : (link : ℕ) → Setting → Message → Happening
takes link setting message = Happens (Takes link setting message)

abbrev pub asks : (link : ℕ) → Setting → Pdu → Happening
asks link setting pdu = takes link setting (messages.Pdu pdu)

abbrev pub faults : (link number place : ℕ) → Happening
faults link number place = Happens (Faults link number place)

abbrev pub stops : Happening
stops = Happens Stops

-- a place of a schedule, by whether the regime ceases there
pub data Told : Type 0 where
  performs : (regime : ℕ) → Told
  ceases : (regime : ℕ) → Told

abbrev pub told_of : Place Operation → Told
told_of (Performs regime operation) = performs regime
told_of (Ceases regime) = ceases regime

abbrev pub places_of : Use → List Told
places_of one = map told_of (schedule_of one)

abbrev pub order_of : Use → List ℕ
order_of one = serial_order (schedule_of one)

-- the units that the serial order leaves
abbrev pub serial_units : Use → List DataUnit
serial_units one = (contents_after (serial (schedule_of one)) one.world).units

abbrev pub beginning_247 : State
beginning_247 = beginning [] (binary_file a 1 [] ∷ text_file b ((Text 25 (65 ∷ []) ∷ []) ∷ (Text 25 (66 ∷ []) ∷ [])
    ∷ []) ∷ [])

abbrev pub events_247 : List Happening
events_247 = arrives 1 ∷ asks 1 (at 0 999999) (InitializeRequest 255 (Some ann) (Some password) 1) ∷ arrives 2
    ∷ asks 1 (at 0 999999) (CreateRequest 1 b (contents_with 9 25 1 0) (set 255) (term_of (Some ann) (set 31) (Some password)
    ∷ []) (set 17) None None) ∷ asks 1 (at 1 999999) DeleteRequest
    ∷ asks 1 (at 2 999999) (ChangeAttribRequest None None (Some (term_of (Some ann) (set 95) None ∷ [])) 0)
    ∷ asks 1 (at 2 999999) (BeginGroupRequest 1) ∷ asks 1 (at 3 999999) EndGroupRequest
    ∷ asks 1 (at_without_token 3 999999) DeleteRequest
    ∷ asks 2 (at_without_token 3 1) (InitializeRequest 255 None None 2)
    ∷ asks 1 (at 4 999999) (ChangeAttribRequest None (Some (set 31)) (Some []) 0) ∷ asks 1 (at 4 999999) DeleteRequest
    ∷ asks 1 (at 5 999999) (BeginGroupRequest 1) ∷ asks 2 (at 5 1) (CancelRequest None)
    ∷ asks 1 (at 6 999999) (OpenRequest 19 None None None) ∷ asks 1 (at 6 999999) EndGroupRequest
    ∷ asks 1 (at 6 999999) (OpenRequest 1 None (Some (content_controls Shared NoAccess NoAccess NoAccess NoAccess)) (Some 7))
    ∷ asks 1 (at 7 999999) (EraseRequest Begin) ∷ asks 1 (at 7 999999) (ReadRequest Begin UA) ∷ stops ∷ arrives 3
    ∷ arrives 4 ∷ asks 3 (at 7 1) (InitializeRequest 255 (Some ann) (Some password) 20)
    ∷ asks 3 (at 7 1) (SelectRequest b (set 1) None None)
    ∷ asks 4 (at 7 999999) (InitializeRequest 255 (Some ann) None 20)
    ∷ asks 4 (at 7 999999) (SelectRequest b (set 255) None (Some password))
    ∷ asks 4 (at 7 999999) (OpenRequest 1 None (Some (content_controls Shared NoAccess NoAccess NoAccess NoAccess)) (Some 8))
    ∷ asks 3 (at 8 1) DeleteRequest ∷ Drops ann 7 ∷ asks 4 (at 8 999999) (WriteRequest Insert End)
    ∷ asks 4 (at 8 999999) (RestartRequest 1) ∷ arrives 5
    ∷ asks 3 (at 8 1) (OpenRequest 1 (Some (contents_type 3)) None None) ∷ arrives 6
    ∷ asks 6 (at 8 1) (InitializeRequest 63 None None 1) ∷ asks 3 (at 8 1) (BeginGroupRequest 2)
    ∷ asks 5 (at 9 1) (InitializeRequest 3 (Some ann) (Some password) 1) ∷ asks 6 (at 9 1) (RecoverRequest 8 1 0)
    ∷ Drops ann 8 ∷ asks 6 (at 10 1) (SelectRequest b (set 255) None None) ∷ asks 3 (at 10 1) EndGroupRequest
    ∷ asks 3 (at 10 1) (OpenRequest 3 None None None) ∷ asks 5 (at 10 1) (SelectRequest c (set 255) None None)
    ∷ asks 3 (at 11 1) (BeginGroupRequest 1) ∷ asks 3 (at 11 1) DeselectRequest ∷ arrives 7
    ∷ asks 6 (at 11 1) (OpenRequest 19 None (Some (content_controls Exclusive Exclusive NoAccess NoAccess Exclusive)) None)
    ∷ arrives 8 ∷ asks 5 (at 12 1) (BeginGroupRequest 1)
    ∷ asks 3 (at 12 1) (ChangeAttribRequest (Some a) None (Some []) 1) ∷ asks 6 (at 13 1) (EraseRequest Begin)
    ∷ asks 7 (at 13 1) (InitializeRequest 255 None None 20) ∷ asks 6 (at 13 1) (WriteRequest Insert End)
    ∷ asks 6 (at 13 1) (DataEnd None) ∷ asks 7 (at 14 1) (SelectRequest b (set 19) None None)
    ∷ asks 8 (at 14 1) (InitializeRequest 255 None None 1) ∷ asks 6 (at 14 1) TransferEndRequest
    ∷ asks 7 (at 14 1) (OpenRequest 19 None (Some (content_controls Exclusive Exclusive NoAccess NoAccess Exclusive)) (Some 7))
    ∷ asks 3 (at 14 1) (ReadAttribRequest 511) ∷ arrives 9 ∷ asks 9 (at 14 1) (InitializeRequest 255 None None 2)
    ∷ asks 3 (at 14 1) EndGroupRequest ∷ asks 9 (at 14 1) (SelectRequest b (set 255) None (Some password))
    ∷ asks 9 (at 14 1) (ReadAttribRequest 511) ∷ asks 6 (at 15 1) (WriteRequest Insert End)
    ∷ asks 9 (at 15 1) (OpenRequest 1 None (Some (content_controls Shared NoAccess NoAccess NoAccess NoAccess)) (Some 7))
    ∷ asks 6 (at 16 1) (DataEnd None) ∷ arrives 10 ∷ asks 3 (at 16 1) (SelectRequest b (set 255) None None)
    ∷ asks 6 (at 17 1) TransferEndRequest ∷ []

abbrev pub uses_247 : List Use
uses_247 = uses events_247 beginning_247

abbrev pub beginning_348 : State
beginning_348 = beginning [] (binary_file a 1 (octet 0 ∷ []) ∷ text_file b [] ∷ [])

abbrev pub events_348 : List Happening
events_348 = arrives 1 ∷ arrives 2 ∷ asks 2 (at 1 1) (InitializeRequest 255 (Some bob) (Some password) 1)
    ∷ asks 1 (at 2 999999) (InitializeRequest 255 (Some ann) None 20)
    ∷ asks 1 (at_without_token 2 999999) (SelectRequest b (set 29) None (Some password)) ∷ arrives 3 ∷ arrives 4
    ∷ asks 1 (at 2 999999) (ChangeAttribRequest None (Some (set 31)) (Some (term_of (Some ann) (set 95) None ∷ [])) 0)
    ∷ arrives 5 ∷ asks 2 (at 2 1) (CreateRequest 1 a (contents_with 2 26 0 0) (set 255) (term_of None (set 255) None
    ∷ []) (set 255) None None)
    ∷ asks 2 (at 3 1) (OpenRequest 4 None (Some (content_controls NoAccess NoAccess Exclusive NoAccess NoAccess)) (Some 8))
    ∷ asks 2 (at_without_token 3 1) (WriteRequest Replace Begin) ∷ arrives 6
    ∷ asks 3 (at_without_token 3 1) (InitializeRequest 255 (Some ann) (Some password) 2)
    ∷ asks 4 (at 4 1) (InitializeRequest 255 None None 2)
    ∷ asks 3 (at 4 1) (CreateRequest 0 a (contents_with 2 22 1 0) (set 255) (term_of (Some ann) (set 31) (Some password)
    ∷ []) (set 31) (Some (attribute_controls NotRequired Shared NoAccess)) None)
    ∷ asks 1 (at 5 999999) (ChangeAttribRequest (Some a) (Some (set 31)) (Some []) 0)
    ∷ asks 5 (at 6 1) (InitializeRequest 255 None None 20) ∷ takes 2 (at 6 1) (messages.Element (octet 0))
    ∷ asks 1 (at 7 999999) DeleteRequest ∷ asks 6 (at 7 1) (InitializeRequest 255 None None 1)
    ∷ takes 1 (at 7 999999) messages.Break ∷ asks 5 (at 7 1) (SelectRequest a (set 255) None None)
    ∷ asks 4 (at 8 1) (SelectRequest a (set 255) (Some (attribute_controls Shared Exclusive Shared)) None)
    ∷ asks 5 (at 8 1) (BeginGroupRequest 2) ∷ takes 2 (at 8 1) (messages.Element (octet 1))
    ∷ takes 2 (at 8 1) messages.Break ∷ asks 5 (at 9 1) (ReadAttribRequest 512)
    ∷ asks 6 (at 10 1) (RecoverRequest 8 1 2) ∷ arrives 7 ∷ asks 6 (at 10 1) (SelectRequest b (set 29) None None)
    ∷ asks 4 (at 10 1) (SelectRequest a (set 255) (Some (attribute_controls NotRequired NotRequired NoAccess)) (Some password))
    ∷ asks 7 (at 10 1) (InitializeRequest 255 None None 1) ∷ asks 5 (at 10 1) (ReadAttribRequest 257)
    ∷ asks 5 (at 10 1) (OpenRequest 29 None (Some (content_controls Exclusive NoAccess Exclusive Exclusive Exclusive)) (Some 7))
    ∷ asks 6 (at 11 1) (ChangeAttribRequest (Some b) (Some (set 31)) None 0)
    ∷ asks 5 (at 11 1) (OpenRequest 4 None (Some (content_controls NoAccess NoAccess Exclusive NoAccess NoAccess)) (Some 7))
    ∷ asks 3 (at 12 1) (SelectRequest a (set 255) None None)
    ∷ asks 7 (at 12 1) (CreateRequest 1 a (contents_with 2 26 0 0) (set 255) [] (set 17) None None)
    ∷ asks 6 (at 12 1) (BeginGroupRequest 1) ∷ asks 3 (at 13 1) (BeginGroupRequest 2)
    ∷ asks 6 (at 14 1) EndGroupRequest ∷ asks 4 (at 14 1) (RecoverRequest 8 1 3)
    ∷ asks 4 (at 14 1) (RecoverRequest 8 1 0) ∷ Drops bob 8
    ∷ asks 7 (at 14 1) (OpenRequest 1 (Some (contents_type 3)) (Some (content_controls Shared NoAccess NoAccess NoAccess NoAccess)) None)
    ∷ asks 5 (at 14 1) (OpenRequest 1 None (Some (content_controls Shared NoAccess NoAccess NoAccess NoAccess)) (Some 8))
    ∷ asks 5 (at 14 1) EndGroupRequest ∷ asks 7 (at 14 1) (ReadRequest Begin UA) ∷ asks 3 (at 14 1) EndGroupRequest
    ∷ asks 5 (at 14 1) (ReadRequest Begin UA) ∷ takes 5 (at 14 1) (messages.Acknowledge 0)
    ∷ asks 4 (at 15 1) (SelectRequest b (set 255) None (Some password)) ∷ asks 5 (at 15 1) TransferEndRequest
    ∷ asks 3 (at 15 1) (OpenRequest 29 None None (Some 8))
    ∷ asks 3 (at 15 1) (ChangeAttribRequest (Some a) None (Some (term_of (Some ann) (set 95) None ∷ [])) 0)
    ∷ arrives 8 ∷ asks 7 (at 16 1) TransferEndRequest
    ∷ asks 4 (at 16 1) (OpenRequest 19 None (Some (content_controls Exclusive Exclusive NoAccess NoAccess Exclusive)) (Some 8))
    ∷ asks 4 (at 16 1) (OpenRequest 19 None None (Some 7))
    ∷ asks 3 (at_without_token 17 1) (OpenRequest 1 (Some (contents_type 3)) (Some (content_controls Shared NoAccess NoAccess NoAccess NoAccess)) None)
    ∷ asks 7 (at 17 1) (WriteRequest Extend Begin) ∷ asks 3 (at 17 1) (ReadRequest Next UA)
    ∷ takes 7 (at 18 1) (messages.Element (octet 4)) ∷ takes 7 (at 18 1) (messages.Element (octet 6))
    ∷ asks 3 (at 18 1) (RestartRequest 3) ∷ asks 6 (at 18 1) DeleteRequest
    ∷ asks 6 (at 18 1) (OpenRequest 2 None (Some (content_controls NoAccess Exclusive NoAccess NoAccess NoAccess)) None)
    ∷ asks 7 (at 18 1) (RestartRequest 1) ∷ asks 8 (at 18 1) (InitializeRequest 255 (Some bob) (Some password) 2) ∷ []

abbrev pub uses_348 : List Use
uses_348 = uses events_348 beginning_348

abbrev pub beginning_1288 : State
beginning_1288 = beginning (user_of guest None ∷ user_of ann (Some password) ∷ []) (binary_file a 1 (octet 0 ∷ octet 1
    ∷ octet 2 ∷ octet 3 ∷ octet 4 ∷ octet 5 ∷ octet 6 ∷ octet 7 ∷ octet 8 ∷ octet 9 ∷ octet 10 ∷ octet 11 ∷ octet 12
    ∷ octet 13 ∷ octet 14 ∷ octet 15 ∷ octet 16 ∷ []) ∷ text_file b ((Text 25 (65 ∷ []) ∷ []) ∷ (Text 25 (66 ∷ [])
    ∷ []) ∷ []) ∷ [])

abbrev pub events_1288 : List Happening
events_1288 = arrives 1 ∷ stops ∷ arrives 2 ∷ takes 2 (at 0 999999) messages.Break ∷ arrives 3
    ∷ asks 3 (at 0 1) (InitializeRequest 255 (Some ann) (Some password) 20)
    ∷ asks 3 (at_without_token 0 1) (SelectRequest b (set 255) None None)
    ∷ asks 3 (at 1 1) (OpenRequest 1 None (Some (content_controls Shared NoAccess NoAccess NoAccess NoAccess)) (Some 7))
    ∷ asks 3 (at 1 1) (WriteRequest Insert End) ∷ takes 3 (at 1 1) (messages.Element (Descriptor None true))
    ∷ takes 3 (at 1 1) (messages.Element (Descriptor None true)) ∷ takes 3 (at 1 1) (messages.Element (Text 25 (70
    ∷ []))) ∷ arrives 4 ∷ takes 3 (at 2 1) (messages.Element (Text 25 (71 ∷ []))) ∷ arrives 5
    ∷ asks 4 (at 2 1) (InitializeRequest 255 None None 20) ∷ asks 5 (at 3 1) (InitializeRequest 255 None None 1)
    ∷ asks 5 (at 3 1) (SelectRequest b (set 255) None (Some password)) ∷ arrives 6
    ∷ asks 6 (at 3 1) (InitializeRequest 255 (Some ann) (Some password) 1)
    ∷ asks 4 (at 3 1) (SelectRequest b (set 255) None None) ∷ asks 3 (at 3 1) (DataEnd None)
    ∷ asks 6 (at 3 1) (SelectRequest b (set 255) None None)
    ∷ asks 4 (at 3 1) (OpenRequest 19 None (Some (content_controls Exclusive Exclusive NoAccess NoAccess Exclusive)) (Some 7))
    ∷ asks 4 (at 4 1) (ReadAttribRequest 3) ∷ arrives 7 ∷ arrives 8
    ∷ asks 5 (at 4 1) (OpenRequest 19 (Some (contents_type 3)) (Some (content_controls Exclusive Exclusive NoAccess NoAccess Exclusive)) (Some 7))
    ∷ asks 6 (at 5 1) DeleteRequest
    ∷ asks 6 (at 5 1) (OpenRequest 2 None (Some (content_controls NoAccess Exclusive NoAccess NoAccess NoAccess)) (Some 7))
    ∷ asks 8 (at 5 1) (InitializeRequest 255 (Some ann) (Some password) 1) ∷ asks 3 (at 5 1) TransferEndRequest
    ∷ asks 7 (at 5 1) (InitializeRequest 255 (Some ann) (Some password) 20)
    ∷ asks 7 (at 5 1) (CreateRequest 0 b (contents_with 3 22 0 1) (set 255) [] (set 31) (Some (attribute_controls Shared Shared NoAccess)) None)
    ∷ asks 6 (at 6 1) (OpenRequest 1 (Some (contents_type 3)) (Some (content_controls Shared NoAccess NoAccess NoAccess NoAccess)) (Some 8))
    ∷ asks 5 (at 7 1) (OpenRequest 1 None (Some (content_controls Shared NoAccess NoAccess NoAccess NoAccess)) (Some 8))
    ∷ asks 3 (at 7 1) (WriteRequest Insert End)
    ∷ asks 4 (at 8 1) (OpenRequest 1 None (Some (content_controls Shared NoAccess NoAccess NoAccess NoAccess)) (Some 7))
    ∷ asks 7 (at 8 1) (CreateRequest 0 b (contents_with 3 26 0 1) (set 255) (term_of (Some ann) (set 31) (Some password)
    ∷ []) (set 17) None None) ∷ asks 6 (at 8 1) (ReadAttribRequest 3) ∷ asks 8 (at 8 1) TerminateRequest
    ∷ takes 6 (at 9 1) messages.Break ∷ asks 7 (at 9 1) (SelectRequest a (set 255) None None)
    ∷ asks 5 (at 9 1) (ReadRequest Next FA) ∷ asks 3 (at 9 1) (CancelRequest None)
    ∷ asks 7 (at 9 1) (ChangeAttribRequest (Some a) (Some (set 31)) None 0) ∷ asks 3 (at 9 1) CloseRequest
    ∷ asks 5 (at 10 1) TransferEndRequest ∷ asks 5 (at 10 1) (ReadRequest Begin UA)
    ∷ asks 7 (at 10 1) (OpenRequest 5 None (Some (content_controls Exclusive NoAccess Exclusive NoAccess NoAccess)) (Some 7))
    ∷ stops ∷ arrives 9 ∷ asks 9 (at 10 999999) (InitializeRequest 255 (Some ann) None 1) ∷ arrives 10 ∷ stops
    ∷ arrives 11 ∷ Drops guest 9 ∷ asks 11 (at 11 1) (InitializeRequest 255 None None 1) ∷ arrives 12
    ∷ asks 11 (at 11 1) (RecoverRequest 7 1 0)
    ∷ asks 12 (at 11 1) (InitializeRequest 255 (Some bob) (Some password) 2) ∷ asks 11 (at 11 1) (LocateRequest Last)
    ∷ asks 11 (at 11 1) (EraseRequest First) ∷ asks 11 (at 12 1) (LocateRequest Previous)
    ∷ asks 11 (at 12 1) CloseRequest ∷ asks 11 (at 13 1) (ReadAttribRequest 512)
    ∷ asks 11 (at 14 1) (BeginGroupRequest 2) ∷ arrives 13
    ∷ asks 13 (at 14 1) (InitializeRequest 255 (Some ann) (Some password) 1)
    ∷ asks 13 (at 14 1) (RecoverRequest 7 1 1) ∷ []

abbrev pub uses_1288 : List Use
uses_1288 = uses events_1288 beginning_1288

abbrev pub beginning_1651 : State
beginning_1651 = beginning [] (binary_file a 1 [] ∷ text_file b ((Text 25 (65 ∷ []) ∷ []) ∷ (Text 25 (66 ∷ []) ∷ [])
    ∷ []) ∷ [])

abbrev pub events_1651 : List Happening
events_1651 = arrives 1 ∷ asks 1 (at 0 1) (InitializeRequest 15 (Some ann) (Some password) 20)
    ∷ asks 1 (at 0 1) (SelectRequest b (set 1) None None) ∷ asks 1 (at 1 1) (SelectRequest a (set 255) None None)
    ∷ arrives 2 ∷ asks 2 (at 2 1) (InitializeRequest 255 (Some ann) None 1)
    ∷ asks 2 (at 3 1) (SelectRequest b (set 255) None (Some password))
    ∷ asks 2 (at 3 1) (OpenRequest 19 None None (Some 8)) ∷ asks 2 (at 4 1) (ReadRequest Begin UA)
    ∷ asks 2 (at 5 1) (CancelRequest None) ∷ asks 2 (at 5 1) (ReadRequest Begin UA)
    ∷ asks 2 (at 5 1) TransferEndRequest ∷ arrives 3 ∷ asks 3 (at 5 1) (InitializeRequest 255 (Some ann) None 1)
    ∷ asks 3 (at 5 1) (SelectRequest c (set 255) None (Some password))
    ∷ asks 3 (at 6 1) (SelectRequest b (set 255) None None) ∷ asks 2 (at 6 1) (WriteRequest Insert End) ∷ arrives 4
    ∷ asks 3 (at 6 1) (OpenRequest 3 None None (Some 8)) ∷ takes 2 (at 7 1) (messages.Element (Descriptor None true))
    ∷ asks 4 (at 8 1) (InitializeRequest 255 None None 20) ∷ asks 3 (at 8 1) (ReadAttribRequest 257)
    ∷ asks 4 (at 8 1) (SelectRequest a (set 31) None None) ∷ asks 2 (at 8 1) (CancelRequest None)
    ∷ asks 4 (at 8 1) (OpenRequest 9 None None (Some 8)) ∷ asks 4 (at 8 1) (UserAbort 0)
    ∷ asks 3 (at 8 1) (OpenRequest 19 None (Some (content_controls Exclusive Exclusive NoAccess NoAccess Exclusive)) (Some 7))
    ∷ asks 2 (at 9 1) (WriteRequest Insert (Number 3)) ∷ takes 2 (at 10 1) messages.Break
    ∷ asks 3 (at 10 1) (ChangeAttribRequest (Some a) None (Some (term_of (Some ann) (set 95) None ∷ [])) 0)
    ∷ asks 3 (at 10 1) (OpenRequest 19 None None (Some 7)) ∷ asks 3 (at 10 1) (EraseRequest Begin)
    ∷ takes 3 (at 10 1) messages.Break ∷ arrives 5 ∷ asks 5 (at 10 999999) (InitializeRequest 255 (Some ann) None 2)
    ∷ asks 5 (at 11 999999) (RecoverRequest 8 4 0) ∷ takes 5 (at_without_token 11 999999) (messages.Restart 0)
    ∷ takes 5 (at 11 999999) (messages.Element (Descriptor None true)) ∷ arrives 6
    ∷ asks 6 (at 11 1) (InitializeRequest 255 (Some ann) (Some password) 2)
    ∷ asks 6 (at 11 1) (SelectRequest b (set 31) None (Some password))
    ∷ asks 6 (at 11 1) (OpenRequest 19 None None (Some 7)) ∷ takes 5 (at 12 1000000) messages.Check
    ∷ asks 6 (at_without_token 13 1) (OpenRequest 16 None (Some (content_controls NoAccess NoAccess NoAccess NoAccess Exclusive)) (Some 8))
    ∷ asks 6 (at 13 1) DeselectRequest ∷ asks 6 (at 13 1) (RecoverRequest 7 1 0) ∷ arrives 7
    ∷ takes 5 (at 13 1000000) messages.Break ∷ asks 6 (at 13 1) (ReadRequest Begin UA) ∷ arrives 8
    ∷ asks 8 (at 13 1) (InitializeRequest 255 None None 2) ∷ asks 8 (at 14 1) (RecoverRequest 8 4 2)
    ∷ takes 6 (at 15 1) (messages.Acknowledge 0) ∷ arrives 9 ∷ asks 8 (at 15 1) (RecoverRequest 8 9 0) ∷ arrives 10
    ∷ asks 8 (at 16 1) (SelectRequest a (set 224) (Some (attribute_controls Shared Exclusive Shared)) (Some password))
    ∷ asks 9 (at 16 1) (InitializeRequest 255 None None 1)
    ∷ asks 9 (at 16 1) (SelectRequest a (set 255) (Some (attribute_controls NotRequired Exclusive Exclusive)) None)
    ∷ Drops guest 8 ∷ takes 6 (at 16 1) messages.Break ∷ asks 10 (at 16 1) (InitializeRequest 15 None None 2)
    ∷ asks 10 (at 17 1) (RecoverRequest 8 4 0) ∷ asks 10 (at 17 1) (BeginGroupRequest 3)
    ∷ asks 9 (at_without_token 17 1) (SelectRequest b (set 255) None (Some password))
    ∷ asks 9 (at 17 1) TransferEndRequest ∷ asks 8 (at 18 1) (ReadAttribRequest 511)
    ∷ asks 7 (at 19 1) (InitializeRequest 255 (Some ann) None 1) ∷ Drops ann 7
    ∷ asks 8 (at 19 1) (ReadAttribRequest 511) ∷ []

abbrev pub uses_1651 : List Use
uses_1651 = uses events_1651 beginning_1651

abbrev pub beginning_1779 : State
beginning_1779 = beginning [] (binary_file a 1 [] ∷ text_file b ((Text 25 (65 ∷ []) ∷ []) ∷ (Text 25 (66 ∷ []) ∷ [])
    ∷ (Text 25 (67 ∷ []) ∷ []) ∷ (Text 25 (68 ∷ []) ∷ []) ∷ (Text 25 (69 ∷ []) ∷ []) ∷ (Text 25 (70 ∷ []) ∷ [])
    ∷ (Text 25 (71 ∷ []) ∷ []) ∷ (Text 25 (72 ∷ []) ∷ []) ∷ (Text 25 (73 ∷ []) ∷ []) ∷ (Text 25 (74 ∷ []) ∷ []) ∷ [])
    ∷ [])

abbrev pub events_1779 : List Happening
events_1779 = arrives 1 ∷ asks 1 (at_without_token 0 999999) (InitializeRequest 255 (Some bob) (Some password) 20)
    ∷ asks 1 (at 1 999999) (SelectRequest b (set 255) None None)
    ∷ asks 1 (at_without_token 1 999999) (OpenRequest 19 None (Some (content_controls Exclusive Exclusive NoAccess NoAccess Exclusive)) (Some 8))
    ∷ asks 1 (at 2 999999) (EraseRequest First) ∷ asks 1 (at 3 999999) (LocateRequest Next)
    ∷ asks 1 (at 3 999999) (WriteRequest Insert Previous) ∷ asks 1 (at 4 999999) (CancelRequest None)
    ∷ asks 1 (at 4 999999) CloseRequest
    ∷ asks 1 (at 4 999999) (OpenRequest 19 None (Some (content_controls Exclusive Exclusive NoAccess NoAccess Exclusive)) (Some 7))
    ∷ asks 1 (at 4 999999) (EraseRequest Begin) ∷ asks 1 (at 5 999999) (WriteRequest Insert End) ∷ arrives 2
    ∷ takes 1 (at 5 999999) (messages.Restart 1) ∷ arrives 3
    ∷ asks 3 (at 5 1) (InitializeRequest 255 (Some ann) None 1)
    ∷ asks 3 (at 5 1) (CreateRequest 1 a (contents_with 1 25 1 1) (set 255) [] (set 31) None None)
    ∷ asks 2 (at 6 1) (InitializeRequest 255 None None 1) ∷ asks 2 (at 6 1) (RecoverRequest 7 1 3)
    ∷ asks 2 (at 7 1) (RecoverRequest 7 1 0) ∷ asks 3 (at 7 1) (BeginGroupRequest 2) ∷ asks 3 (at 8 1) EndGroupRequest
    ∷ asks 3 (at 9 1) (UserAbort 0) ∷ asks 2 (at 9 1) (RecoverRequest 7 1 3) ∷ asks 2 (at 9 1) (RecoverRequest 7 1 3)
    ∷ asks 2 (at 9 1) (SelectRequest b (set 255) None None) ∷ asks 2 (at 9 1) (ReadAttribRequest 257)
    ∷ asks 2 (at 9 1) (OpenRequest 19 None (Some (content_controls Exclusive Exclusive NoAccess NoAccess Exclusive)) (Some 8))
    ∷ asks 2 (at 9 1) (ChangeAttribRequest None None None 1) ∷ takes 2 (at 9 1) messages.Break ∷ arrives 4
    ∷ asks 4 (at 10 1) (InitializeRequest 255 None None 1) ∷ asks 4 (at 10 1) (SelectRequest a (set 1) None None)
    ∷ Drops bob 7
    ∷ asks 4 (at 10 1) (OpenRequest 5 None (Some (content_controls Exclusive NoAccess Exclusive NoAccess NoAccess)) (Some 7))
    ∷ asks 4 (at 11 1) DeselectRequest ∷ asks 4 (at 11 1) (SelectRequest a (set 255) None None)
    ∷ asks 4 (at 12 1) DeleteRequest ∷ asks 4 (at 13 1) (SelectRequest b (set 255) None None)
    ∷ asks 4 (at 13 1) (ReadAttribRequest 3)
    ∷ asks 4 (at 13 1) (OpenRequest 19 None (Some (content_controls Exclusive Exclusive NoAccess NoAccess Exclusive)) (Some 7))
    ∷ asks 4 (at 14 1) (WriteRequest Replace End) ∷ asks 4 (at 14 1) (CancelRequest None)
    ∷ asks 4 (at 15 1) (EraseRequest Begin) ∷ asks 4 (at 15 1) (EraseRequest Begin)
    ∷ asks 4 (at 15 1) (WriteRequest Insert End) ∷ asks 4 (at 15 1) (CancelRequest None) ∷ arrives 5
    ∷ asks 4 (at 16 1) (ReadRequest Begin UA) ∷ asks 5 (at 16 1) (InitializeRequest 255 (Some ann) None 1)
    ∷ asks 4 (at 16 1) TransferEndRequest ∷ asks 5 (at 16 1) (SelectRequest b (set 255) None None)
    ∷ asks 5 (at 16 1) (OpenRequest 19 None (Some (content_controls Exclusive Exclusive NoAccess NoAccess Exclusive)) (Some 7))
    ∷ arrives 6 ∷ arrives 7 ∷ asks 5 (at 16 1) (BeginGroupRequest 1) ∷ stops ∷ arrives 8
    ∷ asks 8 (at 16 999999) (InitializeRequest 3 (Some bob) (Some password) 1)
    ∷ asks 8 (at 16 999999) (RecoverRequest 7 4 1) ∷ asks 8 (at 16 999999) (SelectRequest b (set 255) None None)
    ∷ asks 8 (at 16 999999) (OpenRequest 19 None (Some (content_controls Exclusive Exclusive NoAccess NoAccess Exclusive)) (Some 7))
    ∷ arrives 9 ∷ asks 9 (at 17 1) (InitializeRequest 63 None None 1) ∷ arrives 10
    ∷ asks 8 (at 18 999999) (OpenRequest 2 None (Some (content_controls NoAccess Exclusive NoAccess NoAccess NoAccess)) None)
    ∷ stops ∷ arrives 11 ∷ asks 11 (at 18 1) (InitializeRequest 255 (Some ann) None 20)
    ∷ asks 11 (at 18 1) (BeginGroupRequest 3) ∷ []

abbrev pub uses_1779 : List Use
uses_1779 = uses events_1779 beginning_1779

pub record RowsOfRandom : Type 0 where
  pub isolated_247 : map is_isolated uses_247 ≡ true ∷ true ∷ []
  pub places_247 : map places_of uses_247 ≡ [] ∷ (performs 3 ∷ ceases 3 ∷ ceases 9 ∷ performs 14 ∷ performs 14
      ∷ performs 14 ∷ []) ∷ []
  pub orders_247 : map order_of uses_247 ≡ [] ∷ (3 ∷ 9 ∷ 14 ∷ []) ∷ []
  pub units_247 : map serial_units uses_247 ≡ ([] ∷ []) ∷ [] ∷ []
  pub isolated_348 : map is_isolated uses_348 ≡ true ∷ false ∷ []
  pub places_348 : map places_of uses_348 ≡ (ceases 4 ∷ performs 17 ∷ performs 19 ∷ ceases 28 ∷ ceases 17 ∷ []) ∷ []
      ∷ []
  pub orders_348 : map order_of uses_348 ≡ (4 ∷ 28 ∷ 17 ∷ 19 ∷ []) ∷ [] ∷ []
  pub units_348 : map serial_units uses_348 ≡ ((octet 0 ∷ []) ∷ []) ∷ [] ∷ []
  pub isolated_1288 : map is_isolated uses_1288 ≡ true ∷ true ∷ []
  pub places_1288 : map places_of uses_1288 ≡ [] ∷ (performs 19 ∷ ceases 2 ∷ performs 19 ∷ performs 21 ∷ performs 21
      ∷ ceases 21 ∷ []) ∷ []
  pub orders_1288 : map order_of uses_1288 ≡ [] ∷ (2 ∷ 21 ∷ 19 ∷ []) ∷ []
  pub units_1288 : map serial_units uses_1288 ≡ ((octet 0 ∷ octet 1 ∷ octet 2 ∷ octet 3 ∷ octet 4 ∷ octet 5 ∷ octet 6
      ∷ octet 7 ∷ octet 8 ∷ octet 9 ∷ octet 10 ∷ octet 11 ∷ octet 12 ∷ octet 13 ∷ octet 14 ∷ octet 15 ∷ octet 16 ∷ [])
      ∷ []) ∷ ((Text 25 (65 ∷ []) ∷ []) ∷ (Text 25 (66 ∷ []) ∷ []) ∷ []) ∷ []
  pub isolated_1651 : map is_isolated uses_1651 ≡ false ∷ false ∷ []
  pub places_1651 : map places_of uses_1651 ≡ (ceases 17 ∷ []) ∷ (performs 4 ∷ performs 4 ∷ performs 19 ∷ performs 19
      ∷ ceases 19 ∷ []) ∷ []
  pub orders_1651 : map order_of uses_1651 ≡ (17 ∷ []) ∷ (19 ∷ 4 ∷ []) ∷ []
  pub units_1651 : map serial_units uses_1651 ≡ ([] ∷ []) ∷ [] ∷ []
  pub isolated_1779 : map is_isolated uses_1779 ≡ true ∷ true ∷ []
  pub places_1779 : map places_of uses_1779 ≡ [] ∷ (performs 2 ∷ ceases 2 ∷ performs 7 ∷ ceases 7 ∷ performs 22
      ∷ performs 22 ∷ performs 22 ∷ []) ∷ []
  pub orders_1779 : map order_of uses_1779 ≡ [] ∷ (2 ∷ 7 ∷ 22 ∷ []) ∷ []
  pub units_1779 : map serial_units uses_1779 ≡ ([] ∷ []) ∷ [] ∷ []
