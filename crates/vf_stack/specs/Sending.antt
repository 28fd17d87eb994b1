-- What one end sends of a unit and of a request, when it may, and what joins the trace.
use Rattle.std.specs.Prelude.{◌≤◌, ℕ, Bool, true, false, ◌&&◌, ◌||◌, nat_eq, IsTrue, List, length, Option, None, Some, if◌then◌else◌}
use Rattle.std.specs.List.{flat_map}
use Rattle.vf_base.specs.declared.limits.TheConstants.{MOST_VALUE_OCTETS}
use Rattle.vf_elements.specs.ElementValue.{IsWritable as IsElement}
use Rattle.vf_pdu.specs.PduMeaning.{IsInRange}
use Rattle.vf_pdu.specs.PduNumbers.{number_of}
use Rattle.vf_pdu.specs.declared.pdu.Pdu.{Pdu}
use Rattle.vf_session.specs.Receiving.{is_leaving, is_left, is_open}
use Rattle.vf_session.specs.Sending.{fits, may as session_may, spdus}
use Rattle.vf_session.specs.Trace.{state as state_of, with_sent}
use Rattle.vf_session.specs.declared.phase.Phase.{Phase}
use Rattle.vf_session.specs.declared.resync.PendingResync.{PendingResync}
use Rattle.vf_session.specs.declared.state.SessionState.{SessionState}
use Rattle.vf_session.specs.declared.units.ResyncKind.{ResyncKind}
use Rattle.vf_session.specs.declared.units.ResyncKind.TheVariants as kinds
use Rattle.vf_session.specs.declared.units.SessionSay.{SessionSay}
use Rattle.vf_session.specs.declared.units.SessionSay.TheVariants as say
use Rattle.vf_session.specs.declared.units.TokenSide.{TokenSide}
use Rattle.vf_session_spdu.specs.Spelling.{spelling}
use Rattle.vf_stack.specs.Association.{Association, Exchange, end_of, is_ended}
use Rattle.vf_stack.specs.Carriage.{goes_in_data}
use Rattle.vf_stack.specs.Contexts.{Standing, standing}
use Rattle.vf_stack.specs.Receiving.{ending_by}
use Rattle.vf_stack.specs.Requests.{contexts_of, primitive_of, unit_of}
use Rattle.vf_stack.specs.declared.ending.Ending.{Ending}
use Rattle.vf_stack.specs.declared.ending.Ending.TheVariants.{Open, Refused, Partly}
use Rattle.vf_stack.specs.declared.indication.Item.{Item as ItemOf}
use Rattle.vf_stack.specs.declared.indication.Item.TheVariants as items
use Rattle.vf_stack.specs.declared.request.Request.{Request}
use Rattle.vf_stack.specs.declared.request.Request.TheVariants.{Associate, Accept, Refuse, Release, Released, Item, Restart, Restarted, Cancel, Cancelled, Abort}
use Rattle.vf_tpkt.specs.Sending.{most_of, sent as packets, stands}
use Rattle.vf_tpkt.specs.Stream.{reading as stream_reading}
use Rattle.vf_upper.specs.Written.{IsWritable}
use Rattle.vf_upper.specs.declared.contexts.ContextEntry.{ContextEntry}
use Rattle.vf_upper.specs.declared.primitive.Primitive.{Primitive}

abbrev pub tsdu_of : TokenSide → SessionSay → List ℕ
tsdu_of own unit = flat_map spelling (spdus own unit)

-- ---- a request

abbrev pub unit_sent : TokenSide → Association → Request → SessionSay
unit_sent own a request = unit_of own (standing own a.exchange.trace) request

-- its packets, of the size that transport agreed
abbrev pub octets_sent : TokenSide → Association → Request → List ℕ
octets_sent own a request = packets (most_of (stream_reading (end_of own) a.stream).kept.connection.phase) (tsdu_of own (unit_sent own a request))

-- A refusal, an answered release and an abort end the association; after any other unit receiving stands as it did.
abbrev pub ending_after : SessionSay → Ending → Ending
ending_after unit ending = if is_ended (ending_by unit) then ending_by unit else ending

-- Its unit joins the trace.
abbrev pub with_sent_unit : TokenSide → Exchange → SessionSay → Exchange
with_sent_unit own x unit = record { trace = with_sent own unit x.trace; ending = ending_after unit x.ending }

abbrev pub with_request : TokenSide → Association → Request → Association
with_request own a request = record { stream = a.stream; exchange = with_sent_unit own a.exchange (unit_sent own a request) }

-- ---- when it may be sent

-- The PDU is one that this request carries, and in range; an element can be written.
abbrev pub IsDue : Bool → Pdu → Type 0
IsDue is_due pdu = IsTrue is_due × IsInRange pdu

abbrev pub IsItem : Bool → ItemOf → Type 0
IsItem sync (items.Pdu pdu) = IsDue (goes_in_data sync (number_of pdu)) pdu
IsItem sync (items.Element element) = IsElement element

abbrev pub IsMaybe : (Pdu → Bool) → Option Pdu → Type 0
IsMaybe is_due None = Unit {0}
IsMaybe is_due (Some pdu) = IsDue (is_due pdu) pdu

abbrev pub IsCarried : Standing → Request → Type 0
IsCarried s (Associate sync pdu) = IsDue (nat_eq (number_of pdu) 0) pdu
IsCarried s (Accept sync pdu) = IsDue (nat_eq (number_of pdu) 1) pdu
IsCarried s (Refuse pdu) = IsMaybe (λ pdu. nat_eq (number_of pdu) 1) pdu
IsCarried s (Release pdu) = IsDue (nat_eq (number_of pdu) 2) pdu
IsCarried s (Released pdu) = IsDue (nat_eq (number_of pdu) 3) pdu
IsCarried s (Item item) = IsItem s.state.agreed item
IsCarried s (Restart serial pdu) = IsDue (nat_eq (number_of pdu) 39) pdu
IsCarried s (Restarted serial pdu) = IsDue (nat_eq (number_of pdu) 40) pdu
IsCarried s (Cancel pdu) = IsDue (nat_eq (number_of pdu) 37) pdu
IsCarried s (Cancelled pdu) = IsDue (nat_eq (number_of pdu) 38) pdu
IsCarried s (Abort pdu) = IsMaybe (λ pdu. nat_eq (number_of pdu) 4 || nat_eq (number_of pdu) 5) pdu
IsCarried s request = Unit {0}

-- the association was accepted, and isn't over
abbrev pub is_associated : Phase → Bool
is_associated phase = is_open phase || is_leaving phase || is_left phase

abbrev pub is_kind : ResyncKind → ResyncKind → Bool
is_kind kinds.Restart kinds.Restart = true
is_kind kinds.Abandon kinds.Abandon = true
is_kind a b = false

-- a resynchronization of this kind waits for its answer
abbrev pub waits : ResyncKind → Option PendingResync → Bool
waits kind None = false
waits kind (Some r) = is_kind kind r.kind

-- The response to F-CANCEL answers an abandon; where sync isn't agreed it is data.
abbrev pub cancelled_suits : SessionState → Bool
cancelled_suits s = if s.agreed then waits kinds.Abandon s.resync else true

-- An abort has a PDU once the association is accepted, and before that none (profile).
abbrev pub abort_suits : Phase → Option Pdu → Bool
abort_suits phase None = true
abort_suits phase (Some pdu) = is_associated phase

-- What is asked of the connection by the request, beside what session asks by its unit: an RA has the response to F-RESTART
-- where a restart waits for it, and the response to F-CANCEL where an abandon does.
abbrev pub suits : SessionState → Request → Bool
suits s (Restarted serial pdu) = waits kinds.Restart s.resync
suits s (Cancelled pdu) = cancelled_suits s
suits s (Abort pdu) = abort_suits s.phase pdu
suits s request = true

-- its user data are within the limits, and in contexts that are accepted
abbrev pub IsWritten : List ContextEntry → Option Primitive → Type 0
IsWritten contexts None = Unit {0}
IsWritten contexts (Some primitive) = IsWritable primitive contexts

pub record IsSendable (own : TokenSide) (s : Standing) (request : Request) : Type 0 where
  pub suited : IsTrue (suits s.state request)
  pub carried : IsCarried s request
  pub is_written : IsWritten (contexts_of s request) (primitive_of s request)
  pub fits : length (tsdu_of own (unit_of own s request)) ≤ MOST_VALUE_OCTETS

abbrev pub is_abort : SessionSay → Bool
is_abort (say.Abort octets) = true
is_abort unit = false

-- After a fault of which nothing else was told an abort alone, whatever session would say; after the end nothing.
abbrev pub permits : TokenSide → Bool → SessionState → SessionSay → Ending → Bool
permits own offer state unit Open = session_may own offer state unit
permits own offer state unit Partly = session_may own offer state unit
permits own offer state unit Refused = is_abort unit && fits own unit
permits own offer state unit ending = false

pub record May (own : TokenSide) (offer : Bool) (a : Association) (request : Request) : Type 0 where
  pub connected : IsTrue (stands (stream_reading (end_of own) a.stream).kept)
  pub permitted : IsTrue (permits own offer (state_of own a.exchange.trace) (unit_sent own a request) a.exchange.ending)
  pub sendable : IsSendable own (standing own a.exchange.trace) request
