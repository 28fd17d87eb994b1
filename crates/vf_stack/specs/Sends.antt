-- What the calls that send owe, by what a stack keeps.
use Rattle.std.specs.Prelude.{◌≡◌, ℕ, false, IsTrue, List, ◌++◌, Option, None, Some}
use Rattle.vf_pdu.specs.PduMeaning.{IsInRange}
use Rattle.vf_pdu.specs.declared.pdu.Pdu.{Pdu}
use Rattle.vf_session.specs.Trace.{state, with_sent}
use Rattle.vf_session.specs.declared.units.SessionSay.{SessionSay}
use Rattle.vf_session.specs.declared.units.SessionSay.TheVariants.{Data}
use Rattle.vf_session.specs.declared.units.TokenSide.{TokenSide}
use Rattle.vf_stack.specs.Association.{Association, Exchange}
use Rattle.vf_stack.specs.Requests.{unit_of}
use Rattle.vf_stack.specs.Represents.{IsInSession, Kept, Represents, Stands, side_of, standing_of}
pub use Rattle.vf_stack.specs.Represents.{IsSame}
use Rattle.vf_stack.specs.Sending.{IsSendable, ending_after, octets_sent, permits, tsdu_of, with_request, with_sent_unit}
use Rattle.vf_stack.specs.declared.exchange.KeptExchange.{KeptExchange}
use Rattle.vf_stack.specs.declared.request.Request.{Request}
use Rattle.vf_tpkt.specs.Sending.{stands}

-- a PDU that can be written, where there is one
abbrev pub IsMaybeInRange : Option Pdu → Type 0
IsMaybeInRange None = Unit {0}
IsMaybeInRange (Some pdu) = IsInRange pdu

-- the unit that a request sends
abbrev pub unit_kept : KeptExchange → Request → SessionSay
unit_kept kept request = unit_of kept.session.side (standing_of kept) request

-- Session may send the unit, or it is an abort after a fault.
abbrev pub IsPermitted : KeptExchange → SessionSay → Type 0
IsPermitted kept unit = IsTrue (permits kept.session.side kept.session.offer kept.session.state unit kept.ending)

-- the condition of a request's octets
pub record MaySend (kept : Kept) (request : Request) : Type 0 where
  pub connected : IsTrue (stands kept.transport)
  pub permitted : IsPermitted kept.exchange (unit_kept kept.exchange request)
  pub sendable : IsSendable (side_of kept) (standing_of kept.exchange) request

-- Where the connection then stands by each trace that may be kept so, and session where more may be sent; all else that is
-- kept stays.
pub record Advances (kept : KeptExchange) (unit : SessionSay) (kept' : KeptExchange) : Type 0 where
  pub rest_is : kept' ≡ record kept { session = kept'.session; state = kept'.state }
  pub same : IsSame kept kept'
  pub state_is : (x : Exchange) → Stands kept x → kept'.state ≡ state kept.session.side (with_sent kept.session.side unit x.trace)
  pub in_session : (x : Exchange) → Stands kept x → IsInSession kept' (with_sent kept.session.side unit x.trace) (ending_after unit x.ending)

-- The unit joined every exchange that may be kept so.
abbrev pub Joins : KeptExchange → SessionSay → KeptExchange → Type 0
Joins kept unit kept' = (x : Exchange) → Stands kept x → Stands kept' (with_sent_unit kept.session.side x unit)

-- What stands in a request's TSDU before a string was appended; it is data that pass no token.
pub record PutsHead (kept : KeptExchange) (request : Request) (string head head' : List ℕ) : Type 0 where
  pub octets : List ℕ
  pub unit_is : unit_kept kept request ≡ Data false octets
  pub together : head' ++ string ≡ head ++ tsdu_of kept.session.side (unit_kept kept request)

-- The octets of the request were appended, and the association with it is represented.
pub record Sends (own : TokenSide) (a : Association) (request : Request) (out : List ℕ) (kept' : Kept) (out' : List ℕ) : Type 0 where
  pub appended : out' ≡ out ++ octets_sent own a request
  pub represents : Represents kept' (with_request own a request)
