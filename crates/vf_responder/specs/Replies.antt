-- How what a party says is carried by the lower layers (ISO 8571-4; ISO 8327, checkpoints), and the octets of it.
use Rattle.std.specs.Prelude.{ℕ, Bool, false, ◌&&◌, not, List, [], ◌∷◌, ◌++◌, None, Some, if◌then◌else◌}
use Rattle.vf_elements.specs.declared.message.Said.{Said}
use Rattle.vf_elements.specs.declared.message.Said.TheVariants as answers
use Rattle.vf_pdu.specs.declared.pdu.Pdu.{Pdu}
use Rattle.vf_pdu.specs.declared.pdu.Pdu.TheVariants.{InitializeResponse, TerminateResponse, CancelResponse, RestartResponse, ProviderAbort}
use Rattle.vf_session.specs.Trace.{next, phase, state as state_of}
use Rattle.vf_session.specs.declared.units.TokenSide.TheVariants.{Responder}
use Rattle.vf_stack.specs.Association.{Association, end_of}
use Rattle.vf_stack.specs.Sending.{is_associated, octets_sent, permits, unit_sent, with_request}
use Rattle.vf_stack.specs.declared.indication.Indication.{Indication}
use Rattle.vf_stack.specs.declared.indication.Indication.TheVariants as told
use Rattle.vf_stack.specs.declared.indication.Item.TheVariants as items
use Rattle.vf_stack.specs.declared.request.Request.{Request}
use Rattle.vf_tpkt.specs.Sending.{stands}
use Rattle.vf_tpkt.specs.Stream.{reading}
use Rattle.vf_stack.specs.declared.request.Request.TheVariants.{Accept, Refuse, Released, Item, Check, Acknowledge, Restarted, Cancelled, Abort}
use Rattle.vf_responder.specs.Meanings.{sync_of}

-- An association is accepted with sync where its request proposes it, and a check and a restart are answered by the number
-- that they came with.
abbrev pub serial_of : Indication → ℕ
serial_of (told.Check serial) = serial
serial_of (told.Restart serial pdu) = serial
serial_of indication = 0

-- in answer to the indication
abbrev pub pdu_request : Indication → Pdu → Request
pdu_request indication (InitializeResponse None units window) = Accept (sync_of indication) (InitializeResponse None units window)
pdu_request indication (InitializeResponse (Some diagnostic) units window) = Refuse (Some (InitializeResponse (Some diagnostic) units window))
pdu_request indication TerminateResponse = Released TerminateResponse
pdu_request indication CancelResponse = Cancelled CancelResponse
pdu_request indication (RestartResponse point) = Restarted (serial_of indication) (RestartResponse point)
pdu_request indication pdu = Item (items.Pdu pdu)

-- An abort of an association that isn't accepted has no PDU.
abbrev pub abort_request : Association → (number place : ℕ) → Request
abort_request association number place =
    Abort (if is_associated (phase Responder association.exchange.trace) then Some (ProviderAbort number place) else None)

abbrev pub request_of : Association → Indication → Said → Request
request_of association indication (answers.Pdu pdu) = pdu_request indication pdu
request_of association indication (answers.Element element) = Item (items.Element element)
request_of association indication (answers.Check point) = Check (next association.exchange.trace)
request_of association indication (answers.Acknowledge point) = Acknowledge (serial_of indication)
request_of association indication (answers.Abort number place) = abort_request association number place

-- A check is left out where it may not be sent: where the initiator took the token back with its restart of a read, so that
-- session doesn't permit it, or transport isn't connected. Everything else that a party says may be sent.
abbrev pub is_permitted : Association → Request → Bool
is_permitted association request =
    stands (reading (end_of Responder) association.stream).kept
    && permits Responder false (state_of Responder association.exchange.trace) (unit_sent Responder association request) association.exchange.ending

abbrev pub is_left_out : Association → Request → Bool
is_left_out association (Check serial) = not (is_permitted association (Check serial))
is_left_out association request = false

-- what was sent, and the association after it
pub record Outgoing : Type 0 where
  pub octets : List ℕ
  pub association : Association

abbrev pub sending : Association → Request → Outgoing
sending association request =
    if is_left_out association request then record { octets = []; association = association }
    else record { octets = octets_sent Responder association request; association = with_request Responder association request }

-- one after the other
abbrev pub sending_all : Indication → Association → List Said → Outgoing
sending_all indication association [] = record { octets = []; association = association }
sending_all indication association (said ∷ later) =
    let first = sending association (request_of association indication said) in
    let others = sending_all indication first.association later in
    record { octets = first.octets ++ others.octets; association = others.association }
