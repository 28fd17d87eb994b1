-- What one stack sends the other receives, while nothing is on its way.
use Rattle.std.specs.Prelude.{◌≡◌, ◌≤◌, ℕ, Bool, IsTrue, List, [], ◌∷◌, ◌++◌, length, map, None, if◌then◌else◌}
use Rattle.vf_base.specs.declared.limits.TheConstants.{MOST_VALUE_OCTETS}
use Rattle.vf_session.specs.Allowed.{IsAllowed}
use Rattle.vf_session.specs.Mutual.{Agree, received_of, with_all}
use Rattle.vf_session.specs.Sending.{may}
use Rattle.vf_session.specs.Trace.{Trace, other, phase, state}
use Rattle.vf_session.specs.declared.units.SessionSay.{SessionSay}
use Rattle.vf_session.specs.declared.units.TokenSide.{TokenSide}
use Rattle.vf_stack.specs.Association.{Association, end_of}
use Rattle.vf_stack.specs.Carriage.{unit_told}
use Rattle.vf_stack.specs.Contexts.{accepted, accepted_of, counted_after, entries, proposals, standing}
use Rattle.vf_stack.specs.Receiving.{ending_by, piece_received}
use Rattle.vf_stack.specs.Requests.{results_of}
use Rattle.vf_stack.specs.Sending.{May, is_associated, octets_sent, tsdu_of, unit_sent}
use Rattle.vf_stack.specs.declared.ending.Ending.TheVariants.{Open}
use Rattle.vf_stack.specs.declared.indication.Indication.{Indication}
use Rattle.vf_stack.specs.declared.indication.Indication.TheVariants as indications
use Rattle.vf_stack.specs.declared.indication.Item.TheVariants as items
use Rattle.vf_stack.specs.declared.request.Request.{Request}
use Rattle.vf_stack.specs.declared.request.Request.TheVariants.{Associate, Accept, Refuse, Release, Released, Item, Check, Acknowledge, Restart, Restarted, Cancel, Cancelled, Abort, Pass}
use Rattle.vf_tpkt.specs.Receiving.{Kept}
use Rattle.vf_tpkt.specs.Sending.{is_open, sent as packets}
use Rattle.vf_tpkt.specs.Steps.{has_room}
use Rattle.vf_tpkt.specs.Stream.{reading as stream_reading}
use Rattle.vf_upper.specs.Laws.{AreContexts, SameContexts}
use Rattle.vf_upper.specs.Primitives.{answered, offered}
use Rattle.vf_upper.specs.Written.{accepted as in_force}
use Rattle.vf_upper.specs.declared.contexts.Offer.{Offer}

-- the transport connection stands, and no packet or TSDU is begun
pub record IsQuiet (kept : Kept) : Type 0 where
  pub stands : IsTrue (is_open kept.connection.phase)
  pub no_packet : kept.packet ≡ []
  pub no_data : kept.connection.tsdu ≡ []
  pub no_fault : kept.fault ≡ None

-- The unit tells these indications at this end, and no fault.
abbrev pub TellsJust : TokenSide → Trace → SessionSay → List Indication → Type 0
TellsJust own trace unit told = unit_told (standing own trace) unit ≡ record { indications = told; fault = None }

-- Two ends agree by session, and nothing is on its way to the second.
pub record AreTogether (own : TokenSide) (offer far_offer : Bool) (a far : Association) : Type 0 where
  pub own_allowed : IsAllowed own offer a.exchange.trace
  pub far_allowed : IsAllowed (other own) far_offer far.exchange.trace
  pub agree : Agree (state own a.exchange.trace) (state (other own) far.exchange.trace)
  pub far_open : far.exchange.ending ≡ Open
  pub quiet : IsQuiet (stream_reading (end_of (other own)) far.stream).kept

-- the association of the other end with what it received
abbrev pub with_unit : TokenSide → Association → List ℕ → SessionSay → Association
with_unit own far octets unit =
    record { stream = far.stream ++ octets; exchange = record { trace = with_all (other own) (received_of own unit) far.exchange.trace; ending = ending_by unit } }

-- A unit that this end may send, and that tells the other end these indications, is received as these, however many octets
-- its packets have.
abbrev pub IsReceived : TokenSide → Bool → Bool → Association → Association → ℕ → SessionSay → List Indication → Type 0
IsReceived own offer far_offer a far most unit told =
    AreTogether own offer far_offer a far → IsTrue (may own offer (state own a.exchange.trace) unit)
    → 1 ≤ most → most ≤ 65528 → length (tsdu_of own unit) ≤ MOST_VALUE_OCTETS
    → TellsJust (other own) far.exchange.trace unit told
    → piece_received (other own) far (packets most (tsdu_of own unit))
    ≡ record { indications = told; answers = []; association = with_unit own far (packets most (tsdu_of own unit)) unit }

-- A request that this end may send while both agree was received, by the packets that it sends, of a size that class 0 has.
abbrev pub IsReceivedAs : TokenSide → Association → Association → Request → List Indication → Type 0
IsReceivedAs own a far request told =
    piece_received (other own) far (octets_sent own a request)
    ≡ record { indications = told; answers = []; association = with_unit own far (octets_sent own a request) (unit_sent own a request) }

abbrev pub IsRequestReceived : TokenSide → Bool → Bool → Association → Association → Request → List Indication → Type 0
IsRequestReceived own offer far_offer a far request told =
    AreTogether own offer far_offer a far → a.exchange.ending ≡ Open → May own offer a request
    → IsTrue (has_room (stream_reading (end_of own) a.stream).kept.connection.phase)
    → TellsJust (other own) far.exchange.trace (unit_sent own a request) told
    → IsReceivedAs own a far request told

-- ---- contexts

-- An identifier means after an association request what it means in it, also where several proposals have it.
abbrev pub MeansOneContext : List Offer → Type 0
MeansOneContext offers = SameContexts (map offered offers) (in_force (accepted_of (counted_after [] offers)))

-- So it does to the end that proposed it, by the results that it is answered.
abbrev pub IsAnsweredSo : List Offer → Type 0
IsAnsweredSo offers =
    let counted = counted_after [] offers in SameContexts (answered (entries counted) (results_of counted)) (in_force (accepted_of counted))

-- Both ends have the same contexts: the same were proposed, and once the association is accepted the same are accepted.
-- Their identifiers are numbers of 64 bits, as the types of the code have them.
pub record ShareContexts (own : TokenSide) (trace far : Trace) : Type 0 where
  pub proposed_are : proposals trace ≡ proposals far
  pub accepted_are : IsTrue (is_associated (phase own trace)) → accepted own trace ≡ accepted (other own) far
  pub are_identifiers : AreContexts (accepted own trace)

-- ---- requests

-- What a request is to tell: the indication of its name, with its fields. F-CANCEL and its response are data where sync isn't
-- agreed, and a token that passes tells nothing.
abbrev pub told_of : Bool → Request → List Indication
told_of agreed (Associate sync pdu) = indications.Associate sync pdu ∷ []
told_of agreed (Accept sync pdu) = indications.Accepted sync pdu ∷ []
told_of agreed (Refuse pdu) = indications.Refused pdu ∷ []
told_of agreed (Release pdu) = indications.Release pdu ∷ []
told_of agreed (Released pdu) = indications.Released pdu ∷ []
told_of agreed (Item item) = indications.Item item ∷ []
told_of agreed (Check serial) = indications.Check serial ∷ []
told_of agreed (Acknowledge serial) = indications.Acknowledged serial ∷ []
told_of agreed (Restart serial pdu) = indications.Restart serial pdu ∷ []
told_of agreed (Restarted serial pdu) = indications.Restarted serial pdu ∷ []
told_of agreed (Cancel pdu) = (if agreed then indications.Cancel pdu else indications.Item (items.Pdu pdu)) ∷ []
told_of agreed (Cancelled pdu) = (if agreed then indications.Cancelled pdu else indications.Item (items.Pdu pdu)) ∷ []
told_of agreed (Abort pdu) = indications.Abort pdu ∷ []
told_of agreed Pass = []

-- A request that this end may send while both agree and have the same contexts is received as itself.
abbrev pub TellsItself : TokenSide → Bool → Bool → Association → Association → Request → Type 0
TellsItself own offer far_offer a far request =
    AreTogether own offer far_offer a far → a.exchange.ending ≡ Open → May own offer a request
    → IsTrue (has_room (stream_reading (end_of own) a.stream).kept.connection.phase)
    → ShareContexts own a.exchange.trace far.exchange.trace
    → IsReceivedAs own a far request (told_of (state own a.exchange.trace).agreed request)
