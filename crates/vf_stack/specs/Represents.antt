-- Which associations a stack represents, and what its calls owe for each of them.
use Rattle.std.specs.BTreeSet.{BTreeSet, contains}
use Rattle.std.specs.Ordering.{int_cmp}
use Rattle.std.specs.Prelude.{◌≡◌, ℕ, ℤ, Bool, nat_eq, List, [], ◌∷◌, ◌++◌, length, unwrap_or, Option, None, Some, Result, if◌then◌else◌}
use Rattle.vf_session.specs.Kept.{IsSameEnd}
use Rattle.vf_session.specs.Represents.{Represents as Keeps}
use Rattle.vf_session.specs.Trace.{Trace, state}
use Rattle.vf_session.specs.declared.parameters.SayParameters.{SayParameters}
use Rattle.vf_session.specs.declared.units.SessionSay.{SessionSay}
use Rattle.vf_session.specs.declared.units.TokenSide.{TokenSide}
use Rattle.vf_stack.specs.Association.{Association, Exchange, end_of}
use Rattle.vf_stack.specs.Carriage.{Told, all_told, read_told, unit_told}
use Rattle.vf_stack.specs.Contexts.{Standing, accepted, accepted_by, accepts, is_met, offers_by, proposals, proposes}
use Rattle.vf_stack.specs.Faults.{indication_of}
use Rattle.vf_stack.specs.Receiving.{Fed, Received, each, ending_by, octets_received, preceded}
use Rattle.vf_stack.specs.declared.ending.Ending.{Ending}
use Rattle.vf_stack.specs.declared.ending.Ending.TheVariants.{Open, Refused, Partly}
use Rattle.vf_stack.specs.declared.exchange.KeptExchange.{KeptExchange}
use Rattle.vf_stack.specs.declared.exchange.Negotiated.{Negotiated}
use Rattle.vf_stack.specs.declared.fault.Fault.{Fault}
use Rattle.vf_stack.specs.declared.indication.Indication.{Indication}
use Rattle.vf_tpkt.specs.Receiving.{Kept as TransportKept, Reading}
use Rattle.vf_tpkt.specs.Stream.{HasReceived}
use Rattle.vf_tpkt.specs.declared.error.TpktError.{TpktError}
use Rattle.vf_tpkt.specs.declared.unit.Unit.{Unit as TransportUnit}
use Rattle.vf_upper.specs.declared.contexts.ContextEntry.{ContextEntry}
use Rattle.vf_upper.specs.declared.contexts.Offer.{Offer}
use Rattle.vf_upper.specs.declared.errors.UpperError.{UpperError}
use Rattle.vf_upper.specs.declared.primitive.Primitive.{Primitive}

-- What a stack keeps: what transport keeps of the stream, and what is kept of the exchange above it.
pub record Kept : Type 0 where
  pub transport : TransportKept
  pub exchange : KeptExchange

abbrev pub side_of : Kept → TokenSide
side_of kept = kept.exchange.session.side

-- What is kept of a trace: where the connection stands by it, the contexts that were proposed, and those that are accepted.
pub record IsTraced (kept : KeptExchange) (trace : Trace) : Type 0 where
  pub state_is : kept.state ≡ state kept.session.side trace
  pub offers_are : kept.offers ≡ proposals trace
  pub accepted_are : kept.accepted ≡ accepted kept.session.side trace

-- Session goes by the trace where something of any kind may be sent. After a fault alone that is an abort, whatever session
-- has taken, and at the end nothing.
abbrev pub IsInSession : KeptExchange → Trace → Ending → Type 0
IsInSession kept trace Open = Keeps kept.session trace
IsInSession kept trace Partly = Keeps kept.session trace
IsInSession kept trace ending = Unit {0}

pub record Stands (kept : KeptExchange) (x : Exchange) : Type 0 where
  pub ending_is : kept.ending ≡ x.ending
  pub traced : IsTraced kept x.trace
  pub in_session : IsInSession kept x.trace x.ending

-- What is kept is what the octets received, and the units received and sent, give.
pub record Represents (kept : Kept) (a : Association) : Type 0 where
  pub stream_is : HasReceived kept.transport (end_of (side_of kept)) a.stream
  pub stands : Stands kept.exchange a.exchange

-- The set tells of each identifier whether it is one of these.
abbrev pub AreMet : BTreeSet ℤ → List ℤ → Type 0
AreMet set ids = (id : ℤ) → contains int_cmp set id ≡ is_met ids id

-- which end it is, and whether it proposes sync, stays
abbrev pub IsSame : KeptExchange → KeptExchange → Type 0
IsSame kept kept' = IsSameEnd kept.session kept'.session

-- ---- what is received

-- What was received was appended, and the exchange with it is represented.
abbrev pub Tells : List Indication → Received → KeptExchange → List Indication → Type 0
Tells out received kept' out' = (out' ≡ out ++ received.indications) × Stands kept' received.exchange

-- Something was received, of every exchange that may be kept so; the end stays the same.
abbrev pub Receives : KeptExchange → List Indication → (TokenSide → Exchange → Received) → KeptExchange → List Indication → Type 0
Receives kept out receive kept' out' =
    IsSame kept kept'
    × ((x : Exchange) → Stands kept x → Tells out (receive kept.session.side x) kept' out')

-- Some of a list was received, and what is left tells the rest of what the whole tells.
abbrev pub Onward : {A : Type 0} → KeptExchange → List Indication → (TokenSide → Exchange → A → Received) → List A → KeptExchange → List Indication → List A → Type 0
Onward kept out receive all kept' out' rest =
    IsSame kept kept'
    × ((x : Exchange) → Stands kept x → (x' : Exchange) × Stands kept' x'
    × (preceded out (each (receive kept.session.side) x all) ≡ preceded out' (each (receive kept.session.side) x' rest)))

-- A piece of the stream was received: what it tells and what answers it were appended, and the association with it is
-- represented.
pub record Feeds (fed : Fed) (out : List Indication) (answers : List ℕ) (kept' : Kept) (out' : List Indication) (answers' : List ℕ) : Type 0 where
  pub indications : out' ≡ out ++ fed.indications
  pub answered : answers' ≡ answers ++ fed.answers
  pub represents : Represents kept' fed.association

-- ---- a unit that session has taken

-- Indications were appended, and there is this fault after them if any.
abbrev pub Puts : Told → List Indication → List Indication → Option Fault → Type 0
Puts told out out' fault = (out' ≡ out ++ told.indications) × (fault ≡ told.fault)

-- the values so far tell the beginning of what all tell
abbrev pub PutsOnward : Told → List Indication → Told → List Indication → Type 0
PutsOnward all out rest out' = (out ++ all.indications ≡ out' ++ rest.indications) × (all.fault ≡ rest.fault)

-- what a unit is read by: session has taken it, and what is kept is as before it
abbrev pub standing_of : KeptExchange → Standing
standing_of kept = record { offers = kept.offers; accepted = kept.accepted; state = kept.state }

-- The unit joins what is kept: where the connection then stands, and its contexts.
abbrev pub with_contexts : KeptExchange → Option (List Offer) → Option (List ContextEntry) → Ending → KeptExchange
with_contexts kept offers accepted ending =
    record kept { state = kept.session.state; offers = unwrap_or offers kept.offers; accepted = unwrap_or accepted kept.accepted; ending = ending }

abbrev pub with_unit : KeptExchange → SessionSay → Ending → KeptExchange
with_unit kept unit ending = with_contexts kept (proposes unit) (accepts kept.session.side kept.offers unit) ending

-- A unit that tells nothing but a fault doesn't.
abbrev pub kept_after : KeptExchange → SessionSay → List Indication → Option Fault → KeptExchange
kept_after kept unit told None = with_unit kept unit (ending_by unit)
kept_after kept unit [] (Some fault) = record kept { ending = Refused }
kept_after kept unit (first ∷ told) (Some fault) = with_unit kept unit Partly

-- What it tells was appended.
abbrev pub TellsUnit : KeptExchange → List Indication → SessionSay → KeptExchange → List Indication → Type 0
TellsUnit kept out unit kept' out' =
    let told = unit_told (standing_of kept) unit in
    (kept' ≡ kept_after kept unit told.indications told.fault) × (out' ≡ out ++ all_told told)

-- Session tells one unit at most, and of more nothing is promised but that the end stays the same.
abbrev pub TellsUnits : KeptExchange → List Indication → List SessionSay → KeptExchange → List Indication → Type 0
TellsUnits kept out [] kept' out' = (kept' ≡ kept) × (out' ≡ out)
TellsUnits kept out (unit ∷ []) kept' out' = TellsUnit kept out unit kept' out'
TellsUnits kept out (unit ∷ other ∷ units) kept' out' = IsSame kept kept'

-- A fault of which nothing else was told ended receiving.
abbrev pub Refuses : KeptExchange → List Indication → Fault → KeptExchange → List Indication → Type 0
Refuses kept out fault kept' out' = (kept' ≡ record kept { ending = Refused }) × (out' ≡ out ++ indication_of fault ∷ [])

-- the contexts that a unit proposes and accepts, by its user data as they were read
abbrev pub Negotiates : KeptExchange → SayParameters → Result Primitive UpperError → Negotiated → Type 0
Negotiates kept unit read n = n ≡ record { offers = offers_by unit read; accepted = accepted_by kept.session.side kept.offers unit read }

abbrev pub PutsRead : KeptExchange → SayParameters → Result Primitive UpperError → List Indication → List Indication → Negotiated → Option Fault → Type 0
PutsRead kept unit read out out' n fault = Negotiates kept unit read n × Puts (read_told kept.state unit read) out out' fault

-- What a unit tells was appended but for its fault, and these are its contexts.
abbrev pub PutsUnit : KeptExchange → SessionSay → List Indication → List Indication → Negotiated → Option Fault → Type 0
PutsUnit kept unit out out' n fault =
    (n ≡ record { offers = proposes unit; accepted = accepts kept.session.side kept.offers unit }) × Puts (unit_told (standing_of kept) unit) out out' fault

-- A unit with these contexts joined what is kept, or its fault ended receiving, after so many indications that aren't its own.
abbrev pub Concludes : KeptExchange → ℕ → Ending → Negotiated → List Indication → Option Fault → KeptExchange → List Indication → Type 0
Concludes kept before ending n out None kept' out' = (kept' ≡ with_contexts kept n.offers n.accepted ending) × (out' ≡ out)
Concludes kept before ending n out (Some fault) kept' out' =
    (kept' ≡ (if nat_eq (length out) before then record kept { ending = Refused } else with_contexts kept n.offers n.accepted Partly)) × (out' ≡ out ++ indication_of fault ∷ [])

-- ---- the stream

-- whether the end proposes sync
abbrev pub offer_of : Kept → Bool
offer_of kept = kept.exchange.session.offer

-- Octets were received as transport does, to this fault if any.
pub record Listens (kept : Kept) (r : Reading) (units : List TransportUnit) (answers : List ℕ) (kept' : Kept) (units' : List TransportUnit) (answers' : List ℕ) (fault : Option TpktError) : Type 0 where
  pub kept_is : kept' ≡ record kept { transport = r.kept }
  pub units_are : units' ≡ units ++ r.units
  pub answers_are : answers' ≡ answers ++ r.answers
  pub fault_is : r.kept.fault ≡ fault

-- what was told and answered before, and then this
abbrev pub after_told : List Indication → List ℕ → Fed → Fed
after_told out answers f = record { indications = out ++ f.indications; answers = answers ++ f.answers; association = f.association }

-- Some octets of a piece were received, and those that are left tell the rest.
abbrev pub FeedsOnward : Kept → List Indication → List ℕ → List ℕ → Kept → List Indication → List ℕ → List ℕ → Type 0
FeedsOnward kept out answers piece kept' out' answers' rest =
    IsSame kept.exchange kept'.exchange
    × ((a : Association) → Represents kept a → (a' : Association) × Represents kept' a'
    × (after_told out answers (octets_received (side_of kept) a piece) ≡ after_told out' answers' (octets_received (side_of kept) a' rest)))
