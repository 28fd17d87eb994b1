-- PDUs of one number with the same fields are the same.
use Rattle.std.proofs.Common.{◌≡◌, ℕ, refl, ap, sym, ◌∙◌}
use Rattle.vf_pdu_fields.specs.Slots.{attribute_controls, content_controls}
use Rattle.vf_pdu_fields.specs.Contained.{attribute_controls_in, content_controls_in}
use Rattle.vf_pdu.specs.PduComputed.{pdu_of}
use Rattle.vf_pdu.specs.PduNumbers.{number_of}
use Rattle.vf_pdu.specs.PduSlots.{slots_of}
use Rattle.vf_pdu.specs.declared.pdu.Pdu.{Pdu}
use Rattle.vf_pdu.specs.declared.pdu.Pdu.TheVariants.{InitializeRequest, InitializeResponse, TerminateRequest, TerminateResponse, UserAbort, ProviderAbort, SelectRequest, SelectResponse, DeselectRequest, DeselectResponse, CreateRequest, CreateResponse, DeleteRequest, DeleteResponse, ReadAttribRequest, ReadAttribResponse, ChangeAttribRequest, ChangeAttribResponse, OpenRequest, OpenResponse, CloseRequest, CloseResponse, BeginGroupRequest, BeginGroupResponse, EndGroupRequest, EndGroupResponse, RecoverRequest, RecoverResponse, LocateRequest, LocateResponse, EraseRequest, EraseResponse, ReadRequest, WriteRequest, DataEnd, TransferEndRequest, TransferEndResponse, CancelRequest, CancelResponse, RestartRequest, RestartResponse}
use Rattle.vf_pdu_fields.proofs.Back.{actions_back, attribute_controls_back, content_controls_back, context_back, fadu_back, mapped, number_back, octets_back, operation_back}
use Rattle.vf_pdu_parameters.proofs.BackParameters.{attributes_back, contents_back, diagnostic_back, terms_back, terms_same}

pub pdu_back : (pdu : Pdu) → pdu_of (number_of pdu) (slots_of pdu) ≡ pdu
pdu_back (InitializeRequest units identity password window) = rw (octets_back identity, octets_back password) refl
pdu_back (InitializeResponse diagnostic units window) = rw (diagnostic_back diagnostic) refl
pdu_back TerminateRequest = refl
pdu_back TerminateResponse = refl
pdu_back (UserAbort number) = refl
pdu_back (ProviderAbort number place) = refl
pdu_back (SelectRequest name requested controls password) =
    rw (mapped attribute_controls attribute_controls_in attribute_controls_back controls, octets_back password) refl
pdu_back (SelectResponse diagnostic) = ap SelectResponse (diagnostic_back diagnostic)
pdu_back DeselectRequest = refl
pdu_back (DeselectResponse diagnostic) = ap DeselectResponse (diagnostic_back diagnostic)
pdu_back (CreateRequest over name contents permitted terms requested controls password) =
    rw (terms_same terms, mapped attribute_controls attribute_controls_in attribute_controls_back controls, octets_back password) refl
pdu_back (CreateResponse diagnostic) = ap CreateResponse (diagnostic_back diagnostic)
pdu_back DeleteRequest = refl
pdu_back (DeleteResponse diagnostic) = ap DeleteResponse (diagnostic_back diagnostic)
pdu_back (ReadAttribRequest names) = refl
pdu_back (ReadAttribResponse diagnostic attributes) = rw (diagnostic_back diagnostic, attributes_back attributes) refl
pdu_back (ChangeAttribRequest name permitted terms others) = rw (octets_back name, actions_back permitted, terms_back terms) refl
pdu_back (ChangeAttribResponse diagnostic) = ap ChangeAttribResponse (diagnostic_back diagnostic)
pdu_back (OpenRequest mode contents controls activity) =
    rw (contents_back contents, mapped content_controls content_controls_in content_controls_back controls, number_back activity) refl
pdu_back (OpenResponse diagnostic contents) = rw (diagnostic_back diagnostic, contents_back contents) refl
pdu_back CloseRequest = refl
pdu_back (CloseResponse diagnostic) = ap CloseResponse (diagnostic_back diagnostic)
pdu_back (BeginGroupRequest threshold) = refl
pdu_back BeginGroupResponse = refl
pdu_back EndGroupRequest = refl
pdu_back EndGroupResponse = refl
pdu_back (RecoverRequest activity number point) = refl
pdu_back (RecoverResponse diagnostic number point moving last) = rw (diagnostic_back diagnostic, number_back number) refl
pdu_back (LocateRequest fadu) = ap LocateRequest (fadu_back fadu)
pdu_back (LocateResponse diagnostic position) = rw (diagnostic_back diagnostic) refl
pdu_back (EraseRequest fadu) = ap EraseRequest (fadu_back fadu)
pdu_back (EraseResponse diagnostic) = ap EraseResponse (diagnostic_back diagnostic)
pdu_back (ReadRequest fadu context) = rw (fadu_back fadu, context_back context) refl
pdu_back (WriteRequest operation fadu) = rw (operation_back operation, fadu_back fadu) refl
pdu_back (DataEnd diagnostic) = ap DataEnd (diagnostic_back diagnostic)
pdu_back TransferEndRequest = refl
pdu_back (TransferEndResponse diagnostic) = ap TransferEndResponse (diagnostic_back diagnostic)
pdu_back (CancelRequest diagnostic) = ap CancelRequest (diagnostic_back diagnostic)
pdu_back CancelResponse = refl
pdu_back (RestartRequest point) = refl
pdu_back (RestartResponse point) = refl

pub same_pdu : (p q : Pdu) → number_of p ≡ number_of q → slots_of p ≡ slots_of q → p ≡ q
same_pdu p q n s =
    sym (pdu_back p) ∙ ap (λ (k : ℕ). pdu_of k (slots_of p)) n ∙ ap (pdu_of (number_of q)) s ∙ pdu_back q
