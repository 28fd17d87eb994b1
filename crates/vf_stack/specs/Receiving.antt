-- What octets tell one end of an association, after what it has received and sent. Each layer is read by its own
-- definition: the stream by transport, a TSDU by its SPDUs, an SPDU by the trace of the session connection, the user data of
-- a unit by presentation and ACSE, and a value by FTAM. An exchange that is ended receives nothing, so that units are
-- taken by a plain fold.
use Rattle.std.specs.Prelude.{ℕ, List, [], ◌∷◌, ◌++◌, Option, None, Some, Result, Ok, Err, if◌then◌else◌}
use Rattle.vf_session.specs.Receiving.{receives}
use Rattle.vf_session.specs.Trace.{state, with_received}
use Rattle.vf_session.specs.declared.meaning.SpduMeaning.{SpduMeaning}
use Rattle.vf_session.specs.declared.meaning.SpduMeaning.TheVariants.{Nothing, Tells, Faulty}
use Rattle.vf_session.specs.declared.units.SessionSay.{SessionSay}
use Rattle.vf_session.specs.declared.units.SessionSay.TheVariants as say
use Rattle.vf_session.specs.declared.units.TokenSide.{TokenSide}
use Rattle.vf_session_spdu.specs.Reading.{reading as spdus_in, place_after_gt}
use Rattle.vf_session_spdu.specs.declared.errors.SpduError.{SpduError}
use Rattle.vf_session_spdu.specs.declared.spdu.Spdu.{Spdu}
use Rattle.vf_stack.specs.Association.{Association, Exchange, end_of, is_ended}
use Rattle.vf_stack.specs.Carriage.{all_told, unit_told}
use Rattle.vf_stack.specs.Contexts.{standing}
use Rattle.vf_stack.specs.Faults.{indication_of, of_transport, of_form, of_state}
use Rattle.vf_stack.specs.declared.ending.Ending.{Ending}
use Rattle.vf_stack.specs.declared.ending.Ending.TheVariants.{Open, Closed, Broken, Refused, Partly}
use Rattle.vf_stack.specs.declared.fault.Fault.{Fault}
use Rattle.vf_stack.specs.declared.indication.Indication.{Indication}
use Rattle.vf_tpkt.specs.Receiving.{Reading, onward}
use Rattle.vf_tpkt.specs.Stream.{reading as stream_reading}
use Rattle.vf_tpkt.specs.declared.error.TpktError.{TpktError}
use Rattle.vf_tpkt.specs.declared.unit.Unit.{Unit as TransportUnit}
use Rattle.vf_tpkt.specs.declared.unit.Unit.TheVariants as transport

-- what was told, and the exchange then
pub record Received : Type 0 where
  pub indications : List Indication
  pub exchange : Exchange

abbrev pub nothing : Exchange → Received
nothing x = record { indications = []; exchange = x }

-- a fault of which nothing else is told
abbrev pub refused : Exchange → Fault → Received
refused x fault = record { indications = indication_of fault ∷ []; exchange = record x { ending = Refused } }

abbrev pub preceded : List Indication → Received → Received
preceded told r = record { indications = told ++ r.indications; exchange = r.exchange }

-- one after the other
abbrev pub each : {A : Type 0} → (Exchange → A → Received) → Exchange → List A → Received
each receive x [] = nothing x
each receive x (first ∷ others) = preceded (receive x first).indications (each receive (receive x first).exchange others)

-- ---- a unit of session

abbrev pub ending_by : SessionSay → Ending
ending_by (say.Refuse octets) = Closed
ending_by (say.Finished octets) = Closed
ending_by (say.Abort octets) = Closed
ending_by unit = Open

abbrev pub joined : TokenSide → Exchange → SessionSay → Ending → Exchange
joined own x unit ending = record { trace = with_received own unit x.trace; ending = ending }

-- A unit that tells nothing but a fault isn't in the trace.
abbrev pub exchange_after : TokenSide → Exchange → SessionSay → List Indication → Option Fault → Exchange
exchange_after own x unit told None = joined own x unit (ending_by unit)
exchange_after own x unit [] (Some fault) = record x { ending = Refused }
exchange_after own x unit (first ∷ told) (Some fault) = joined own x unit Partly

abbrev pub unit_received : TokenSide → Exchange → SessionSay → Received
unit_received own x unit =
    let told = unit_told (standing own x.trace) unit in
    record { indications = all_told told; exchange = exchange_after own x unit told.indications told.fault }

-- ---- an SPDU, whose first octet has this place in its TSDU

abbrev pub meaning_received : TokenSide → Exchange → ℕ → SpduMeaning → Received
meaning_received own x place Nothing = nothing x
meaning_received own x place (Tells unit) = unit_received own x unit
meaning_received own x place (Faulty fault) = refused x (of_state place fault)

abbrev pub spdu_received : TokenSide → ℕ → Exchange → Spdu → Received
spdu_received own place x spdu =
    if is_ended x.ending then nothing x else meaning_received own x place (receives own (state own x.trace) spdu)

-- ---- a TSDU: one SPDU, or a GT and one at this place after it

abbrev pub spdus_received : TokenSide → ℕ → Exchange → List Spdu → Received
spdus_received own after x [] = nothing x
spdus_received own after x (spdu ∷ others) =
    let first = spdu_received own 0 x spdu in preceded first.indications (each (spdu_received own after) first.exchange others)

abbrev pub read_received : TokenSide → Exchange → List ℕ → Result (List Spdu) SpduError → Received
read_received own x tsdu (Ok spdus) = spdus_received own (place_after_gt tsdu) x spdus
read_received own x tsdu (Err fault) = refused x (of_form tsdu fault)

-- ---- a unit of transport

abbrev pub transport_received : TokenSide → Exchange → TransportUnit → Received
transport_received own x transport.Connected = nothing x
transport_received own x (transport.Data tsdu) = read_received own x tsdu (spdus_in tsdu)
transport_received own x transport.Ended = record { indications = []; exchange = record x { ending = Broken } }

abbrev pub received_next : TokenSide → Exchange → TransportUnit → Received
received_next own x unit = if is_ended x.ending then nothing x else transport_received own x unit

abbrev pub stopped_by : Exchange → Option TpktError → Received
stopped_by x None = nothing x
stopped_by x (Some fault) = if is_ended x.ending then nothing x else refused x (of_transport fault)

abbrev pub followed : Received → (Exchange → Received) → Received
followed r next = preceded r.indications (next r.exchange)

abbrev pub reading_received : TokenSide → Exchange → Reading → Received
reading_received own x r = followed (each (received_next own) x r.units) (λ x. stopped_by x r.kept.fault)

-- ---- the stream

-- what is told, the octets that transport answers, and the association then
pub record Fed : Type 0 where
  pub indications : List Indication
  pub answers : List ℕ
  pub association : Association

abbrev pub nothing_fed : Association → Fed
nothing_fed a = record { indications = []; answers = []; association = a }

abbrev pub fed_by : Association → List ℕ → Reading → Received → Fed
fed_by a piece r received =
    record { indications = received.indications; answers = r.answers; association = record { stream = a.stream ++ piece; exchange = received.exchange } }

-- A piece of it, as transport reads it: what is kept of the octets before it is all that it needs.
abbrev pub piece_received : TokenSide → Association → List ℕ → Fed
piece_received own a piece =
    if is_ended a.exchange.ending then nothing_fed a else
    (let r = onward (stream_reading (end_of own) a.stream).kept piece in fed_by a piece r (reading_received own a.exchange r))

-- Its octets, one by one, up to the one that ends the exchange: what may still be sent then doesn't depend on the pieces
-- in which they come.
abbrev pub octets_received : TokenSide → Association → List ℕ → Fed
octets_received own a [] = nothing_fed a
octets_received own a (octet ∷ octets) =
    let first = piece_received own a (octet ∷ []) in
    let others = octets_received own first.association octets in
    record { indications = first.indications ++ others.indications; answers = first.answers ++ others.answers; association = others.association }
