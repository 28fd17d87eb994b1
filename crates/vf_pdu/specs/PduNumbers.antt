-- The numbers of the PDUs.
use Rattle.std.specs.Prelude.{ℕ}
use Rattle.vf_pdu.specs.declared.pdu.Pdu.{Pdu}
use Rattle.vf_pdu.specs.declared.pdu.Pdu.TheVariants.{InitializeRequest, InitializeResponse, TerminateRequest, TerminateResponse, UserAbort, ProviderAbort, SelectRequest, SelectResponse, DeselectRequest, DeselectResponse, CreateRequest, CreateResponse, DeleteRequest, DeleteResponse, ReadAttribRequest, ReadAttribResponse, ChangeAttribRequest, ChangeAttribResponse, OpenRequest, OpenResponse, CloseRequest, CloseResponse, BeginGroupRequest, BeginGroupResponse, EndGroupRequest, EndGroupResponse, RecoverRequest, RecoverResponse, LocateRequest, LocateResponse, EraseRequest, EraseResponse, ReadRequest, WriteRequest, DataEnd, TransferEndRequest, TransferEndResponse, CancelRequest, CancelResponse, RestartRequest, RestartResponse}

-- the number of its tag (ISO 8571-4)
abbrev pub number_of : Pdu → ℕ
number_of (InitializeRequest units identity password window) = 0
number_of (InitializeResponse diagnostic units window) = 1
number_of TerminateRequest = 2
number_of TerminateResponse = 3
number_of (UserAbort number) = 4
number_of (ProviderAbort number place) = 5
number_of (SelectRequest name requested controls password) = 6
number_of (SelectResponse diagnostic) = 7
number_of DeselectRequest = 8
number_of (DeselectResponse diagnostic) = 9
number_of (CreateRequest over name contents permitted terms requested controls password) = 10
number_of (CreateResponse diagnostic) = 11
number_of DeleteRequest = 12
number_of (DeleteResponse diagnostic) = 13
number_of (ReadAttribRequest names) = 14
number_of (ReadAttribResponse diagnostic attributes) = 15
number_of (ChangeAttribRequest name permitted terms others) = 16
number_of (ChangeAttribResponse diagnostic) = 17
number_of (OpenRequest mode contents controls activity) = 18
number_of (OpenResponse diagnostic contents) = 19
number_of CloseRequest = 20
number_of (CloseResponse diagnostic) = 21
number_of (BeginGroupRequest threshold) = 22
number_of BeginGroupResponse = 23
number_of EndGroupRequest = 24
number_of EndGroupResponse = 25
number_of (RecoverRequest activity number point) = 26
number_of (RecoverResponse diagnostic number point moving last) = 27
number_of (LocateRequest fadu) = 28
number_of (LocateResponse diagnostic position) = 29
number_of (EraseRequest fadu) = 30
number_of (EraseResponse diagnostic) = 31
number_of (ReadRequest fadu context) = 32
number_of (WriteRequest operation fadu) = 33
number_of (DataEnd diagnostic) = 34
number_of TransferEndRequest = 35
number_of (TransferEndResponse diagnostic) = 36
number_of (CancelRequest diagnostic) = 37
number_of CancelResponse = 38
number_of (RestartRequest point) = 39
number_of (RestartResponse point) = 40
