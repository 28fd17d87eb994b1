-- What is said to a request that is refused looks at its number alone.
use Rattle.std.proofs.Common.{◌≡◌, refl}
use Rattle.vf_base.specs.declared.diagnostic.Diagnostic.{Diagnostic}
use Rattle.vf_filestore.specs.Replies.{refusal_of_request}
use Rattle.vf_party.specs.Refusals.{refusal_numbered}
use Rattle.vf_pdu.specs.PduNumbers.{number_of}
use Rattle.vf_pdu.specs.declared.pdu.Pdu.{Pdu}
use Rattle.vf_pdu.specs.declared.pdu.Pdu.TheVariants.{InitializeRequest, InitializeResponse, TerminateRequest, TerminateResponse, UserAbort, ProviderAbort, SelectRequest, SelectResponse, DeselectRequest, DeselectResponse, CreateRequest, CreateResponse, DeleteRequest, DeleteResponse, ReadAttribRequest, ReadAttribResponse, ChangeAttribRequest, ChangeAttribResponse, OpenRequest, OpenResponse, CloseRequest, CloseResponse, BeginGroupRequest, BeginGroupResponse, EndGroupRequest, EndGroupResponse, RecoverRequest, RecoverResponse, LocateRequest, LocateResponse, EraseRequest, EraseResponse, ReadRequest, WriteRequest, DataEnd, TransferEndRequest, TransferEndResponse, CancelRequest, CancelResponse, RestartRequest, RestartResponse}

pub refused_by_number : (diagnostic : Diagnostic) (request : Pdu) → refusal_of_request diagnostic request ≡ refusal_numbered (number_of request) diagnostic
refused_by_number diagnostic (InitializeRequest units identity password window) = refl
refused_by_number diagnostic (InitializeResponse refused units window) = refl
refused_by_number diagnostic TerminateRequest = refl
refused_by_number diagnostic TerminateResponse = refl
refused_by_number diagnostic (UserAbort number) = refl
refused_by_number diagnostic (ProviderAbort number place) = refl
refused_by_number diagnostic (SelectRequest name requested controls password) = refl
refused_by_number diagnostic (SelectResponse refused) = refl
refused_by_number diagnostic DeselectRequest = refl
refused_by_number diagnostic (DeselectResponse refused) = refl
refused_by_number diagnostic (CreateRequest over name contents permitted terms requested controls password) = refl
refused_by_number diagnostic (CreateResponse refused) = refl
refused_by_number diagnostic DeleteRequest = refl
refused_by_number diagnostic (DeleteResponse refused) = refl
refused_by_number diagnostic (ReadAttribRequest names) = refl
refused_by_number diagnostic (ReadAttribResponse refused attributes) = refl
refused_by_number diagnostic (ChangeAttribRequest name permitted terms others) = refl
refused_by_number diagnostic (ChangeAttribResponse refused) = refl
refused_by_number diagnostic (OpenRequest mode contents controls activity) = refl
refused_by_number diagnostic (OpenResponse refused contents) = refl
refused_by_number diagnostic CloseRequest = refl
refused_by_number diagnostic (CloseResponse refused) = refl
refused_by_number diagnostic (BeginGroupRequest threshold) = refl
refused_by_number diagnostic BeginGroupResponse = refl
refused_by_number diagnostic EndGroupRequest = refl
refused_by_number diagnostic EndGroupResponse = refl
refused_by_number diagnostic (RecoverRequest activity number point) = refl
refused_by_number diagnostic (RecoverResponse refused number point moving last) = refl
refused_by_number diagnostic (LocateRequest fadu) = refl
refused_by_number diagnostic (LocateResponse refused position) = refl
refused_by_number diagnostic (EraseRequest fadu) = refl
refused_by_number diagnostic (EraseResponse refused) = refl
refused_by_number diagnostic (ReadRequest fadu context) = refl
refused_by_number diagnostic (WriteRequest operation fadu) = refl
refused_by_number diagnostic (DataEnd refused) = refl
refused_by_number diagnostic TransferEndRequest = refl
refused_by_number diagnostic (TransferEndResponse refused) = refl
refused_by_number diagnostic (CancelRequest refused) = refl
refused_by_number diagnostic CancelResponse = refl
refused_by_number diagnostic (RestartRequest point) = refl
refused_by_number diagnostic (RestartResponse point) = refl
