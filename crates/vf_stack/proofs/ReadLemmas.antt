-- What octets tell was read.
use Rattle.std.proofs.Common.{◌≡◌, ℕ, Bool, true, false, cond, nat_eq, nat_le, nat_lt, List, [], ◌∷◌, ◌++◌, refl, Option, None, Some, unwrap_or, Result, Ok, Err, arith}
use Rattle.std.specs.Prelude.{◌&&◌, ◌||◌}
use Rattle.std.specs.List.{AllByRecursion}
use Rattle.std.proofs.lemmas.Bool.Decides.{nat_tests}
use Rattle.vf_base.specs.declared.spdu_kind.SpduKind.{SpduKind}
use Rattle.vf_base.specs.declared.spdu_kind.SpduKind.TheVariants as kinds
use Rattle.vf_elements.specs.Messages.{message_in}
use Rattle.vf_elements.specs.declared.message.Message.{Message}
use Rattle.vf_elements.specs.declared.message.Message.TheVariants as messages
use Rattle.vf_pdu.specs.PduMeaning.{IsInRange}
use Rattle.vf_pdu.specs.PduNumbers.{number_of}
use Rattle.vf_pdu.specs.PduReading.{pdu_in}
use Rattle.vf_pdu.specs.declared.pdu.Pdu.{Pdu}
use Rattle.vf_pdu_fields.specs.Fault.{Fault as FieldFault}
use Rattle.vf_session.specs.Receiving.{acknowledgement_received, allowed_receives, answers, check_received, may_come, named, number_of as serial_in, receives, receives_by, resync_of, resync_received_by, resync_told as resync_meant, token_received, unwaiting_receives, waiting_receives}
use Rattle.vf_session.specs.Trace.{is_side, state as state_of, wins}
use Rattle.vf_session.specs.Units.{parameters, user_data}
use Rattle.vf_session.specs.declared.errors.SessionError.TheVariants as faults
use Rattle.vf_session.specs.declared.meaning.SpduMeaning.{SpduMeaning}
use Rattle.vf_session.specs.declared.meaning.SpduMeaning.TheVariants.{Nothing, Tells, Faulty}
use Rattle.vf_session.specs.declared.parameters.SayParameters.{SayParameters}
use Rattle.vf_session.specs.declared.parameters.SayParameters.TheVariants as head
use Rattle.vf_session.specs.declared.resync.PendingResync.{PendingResync}
use Rattle.vf_session.specs.declared.state.SessionState.{SessionState}
use Rattle.vf_session.specs.declared.units.ResyncKind.{ResyncKind}
use Rattle.vf_session.specs.declared.units.ResyncKind.TheVariants as resyncs
use Rattle.vf_session.specs.declared.units.SessionSay.{SessionSay}
use Rattle.vf_session.specs.declared.units.SessionSay.TheVariants as say
use Rattle.vf_session.specs.declared.units.TokenSide.{TokenSide}
use Rattle.vf_session_spdu.specs.Fields.{IsReadable, is_serial}
use Rattle.vf_session_spdu.specs.Reading.{reading as spdus_in, place_after_gt}
use Rattle.vf_session_spdu.specs.declared.errors.SpduError.{SpduError}
use Rattle.vf_session_spdu.specs.declared.spdu.Spdu.{Spdu}
use Rattle.vf_session_spdu.specs.declared.spdu.SpduFields.{SpduFields}
use Rattle.vf_session_spdu.proofs.ReadableLemmas.{reading-readable}
use Rattle.vf_stack.specs.Association.{Association, Exchange, end_of, is_ended}
use Rattle.vf_stack.specs.Carriage.{Told, answer_told, bare_told, before_others, carried_told, carrier, due, fault_told, goes_in_data, is_data, item_told, items_told, one_told, pdu_read, pdu_told, plain_told, read_told, resync_told, resynced_told, single_told, unit_told, values_of, values_told}
use Rattle.vf_stack.specs.Contexts.{Standing, contexts_for, standing}
use Rattle.vf_stack.specs.Faults.{misplaced, of_transport}
use Rattle.vf_stack.specs.Ranges.{AreRead, IsRead, IsSerial, TellsRead}
use Rattle.vf_stack.specs.Receiving.{Fed, Received, each, fed_by, meaning_received, nothing, nothing_fed, octets_received, piece_received, read_received, reading_received, received_next, refused, spdu_received, spdus_received, stopped_by, transport_received, unit_received}
use Rattle.vf_stack.specs.declared.fault.Fault.{Fault}
use Rattle.vf_stack.specs.declared.indication.Indication.{Indication}
use Rattle.vf_stack.specs.declared.indication.Indication.TheVariants.{Associate, Accepted, Refused, Release, Released, Item, Restart, Restarted, Cancel, Cancelled, Abort}
use Rattle.vf_stack.specs.declared.indication.Item.TheVariants as items
use Rattle.vf_tpkt.specs.Receiving.{Reading, onward}
use Rattle.vf_tpkt.specs.Stream.{reading as stream_reading}
use Rattle.vf_tpkt.specs.declared.error.TpktError.{TpktError}
use Rattle.vf_tpkt.specs.declared.unit.Unit.{Unit as TransportUnit}
use Rattle.vf_tpkt.specs.declared.unit.Unit.TheVariants as transport
use Rattle.vf_upper.specs.CarriedCode.{Carried}
use Rattle.vf_upper.specs.Primitives.{reading as upper_reading}
use Rattle.vf_upper.specs.declared.errors.UpperError.{UpperError}
use Rattle.vf_upper.specs.declared.primitive.Primitive.{Primitive}
use Rattle.vf_stack.proofs.ReadValueLemmas.{IsReadMessage, IsReadPdu, message-read, pdu-read}

-- ---- lists of indications

all-append : (xs ys : List Indication) → AreRead xs → AreRead ys → AreRead (xs ++ ys)
all-append [] ys p q = q
all-append (x ∷ xs) ys p q = (p.0, all-append xs ys p.1 q)

fault-all : (fault : Option Fault) → AreRead (fault_told fault)
fault-all None = tt
fault-all (Some fault) = (tt, tt)

-- ---- a value

abbrev IsReadResult : Result Indication Fault → Type 0
IsReadResult (Ok indication) = IsRead indication
IsReadResult (Err fault) = Unit {0}

pick-result : (b : Bool) (x y : Result Indication Fault) → IsReadResult x → IsReadResult y → IsReadResult (cond b x y)
pick-result true x y p q = p
pick-result false x y p q = q

item-read : (sync : Bool) (r : Result Message FieldFault) → IsReadMessage r → IsReadResult (item_told sync r)
item-read sync (Ok (messages.Pdu pdu)) h = pick-result (goes_in_data sync (number_of pdu)) (Ok (Item (items.Pdu pdu))) (Err misplaced) h tt
item-read sync (Ok (messages.Element element)) h = h
item-read sync (Ok messages.Check) h = tt
item-read sync (Ok (messages.Acknowledge point)) h = tt
item-read sync (Ok (messages.Restart point)) h = tt
item-read sync (Ok messages.Break) h = tt
item-read sync (Err fault) h = tt

before-read : (r : Result Indication Fault) (others : Told) → IsReadResult r → AreRead others.indications → AreRead (before_others r others).indications
before-read (Ok indication) others h all = (h, all)
before-read (Err fault) others h all = tt

items-read : (sync : Bool) (values : List Carried) → AreRead (items_told sync values).indications
items-read sync [] = tt
items-read sync (value ∷ values) =
    before-read (item_told sync (message_in value.tree)) (items_told sync values) (item-read sync (message_in value.tree) (message-read value.tree)) (items-read sync values)

-- ---- the other units, whose serial number has six digits

abbrev pub IsNumbered : SayParameters → Type 0
IsNumbered (head.Check serial) = IsSerial serial
IsNumbered (head.Acknowledge serial) = IsSerial serial
IsNumbered (head.Resync kind serial token) = IsSerial serial
IsNumbered (head.Resynced serial token) = IsSerial serial
IsNumbered unit = Unit {0}

due-read : (is_due : Bool) (indication : Indication) → IsRead indication → IsReadResult (due is_due indication)
due-read true indication h = h
due-read false indication h = tt

resync-read : (kind : ResyncKind) (serial : ℕ) (pdu : Pdu) → IsSerial serial → IsInRange pdu → IsReadResult (resync_told kind serial pdu)
resync-read resyncs.Restart serial pdu n h = due-read (nat_eq (number_of pdu) 39) (Restart serial pdu) (n, h)
resync-read resyncs.Abandon serial pdu n h = due-read (nat_eq (number_of pdu) 37) (Cancel pdu) h

answer-read : (kind : ResyncKind) (serial : ℕ) (pdu : Pdu) → IsSerial serial → IsInRange pdu → IsReadResult (answer_told kind serial pdu)
answer-read resyncs.Restart serial pdu n h = due-read (nat_eq (number_of pdu) 40) (Restarted serial pdu) (n, h)
answer-read resyncs.Abandon serial pdu n h = due-read (nat_eq (number_of pdu) 38) (Cancelled pdu) h

resynced-read : (r : Option PendingResync) (serial : ℕ) (pdu : Pdu) → IsSerial serial → IsInRange pdu → IsReadResult (resynced_told r serial pdu)
resynced-read None serial pdu n h = tt
resynced-read (Some r) serial pdu n h = answer-read r.kind serial pdu n h

unit-pdu : (r : Option PendingResync) (unit : SayParameters) (pdu : Pdu) → IsNumbered unit → IsInRange pdu → IsReadResult (pdu_told r unit pdu)
unit-pdu r (head.Connect sync serial) pdu n h = due-read (nat_eq (number_of pdu) 0) (Associate sync pdu) h
unit-pdu r (head.Accept sync serial) pdu n h = due-read (nat_eq (number_of pdu) 1) (Accepted sync pdu) h
unit-pdu r head.Refuse pdu n h = due-read (nat_eq (number_of pdu) 1) (Refused (Some pdu)) h
unit-pdu r head.Finish pdu n h = due-read (nat_eq (number_of pdu) 2) (Release pdu) h
unit-pdu r head.Finished pdu n h = due-read (nat_eq (number_of pdu) 3) (Released pdu) h
unit-pdu r (head.Data pass) pdu n h = tt
unit-pdu r (head.Check serial) pdu n h = tt
unit-pdu r (head.Acknowledge serial) pdu n h = tt
unit-pdu r (head.Resync kind serial token) pdu n h = resync-read kind serial pdu n h
unit-pdu r (head.Resynced serial token) pdu n h = resynced-read r serial pdu n h
unit-pdu r head.Abort pdu n h = due-read (nat_eq (number_of pdu) 4 || nat_eq (number_of pdu) 5) (Abort (Some pdu)) h
unit-pdu r (head.Token to) pdu n h = tt

single-pdu : (r : Option PendingResync) (unit : SayParameters) (read : Result Pdu FieldFault) → IsNumbered unit → IsReadPdu read → IsReadResult (pdu_read r unit read)
single-pdu r unit (Ok pdu) n h = unit-pdu r unit pdu n h
single-pdu r unit (Err fault) n h = tt

bare-read : (unit : SayParameters) → IsReadResult (bare_told unit)
bare-read (head.Connect sync serial) = tt
bare-read (head.Accept sync serial) = tt
bare-read head.Refuse = tt
bare-read head.Finish = tt
bare-read head.Finished = tt
bare-read (head.Data pass) = tt
bare-read (head.Check serial) = tt
bare-read (head.Acknowledge serial) = tt
bare-read (head.Resync kind serial token) = tt
bare-read (head.Resynced serial token) = tt
bare-read head.Abort = tt
bare-read (head.Token to) = tt

single-read : (r : Option PendingResync) (unit : SayParameters) (values : List Carried) → IsNumbered unit → IsReadResult (single_told r unit values)
single-read r unit [] n = bare-read unit
single-read r unit (value ∷ values) n = single-pdu r unit (pdu_in value.tree) n (pdu-read value.tree)

one-read : (r : Result Indication Fault) → IsReadResult r → AreRead (one_told r).indications
one-read (Ok indication) h = (h, tt)
one-read (Err fault) h = tt

-- ---- a unit

pick-told : (b : Bool) (x y : Told) → AreRead x.indications → AreRead y.indications → AreRead (let t : Told = cond b x y in t).indications
pick-told true x y p q = p
pick-told false x y p q = q

values-read : (s : SessionState) (unit : SayParameters) (values : List Carried) → IsNumbered unit → AreRead (values_told s unit values).indications
values-read s unit values n =
    pick-told (is_data unit) (items_told s.agreed values) (one_told (single_told s.resync unit values)) (items-read s.agreed values)
    (one-read (single_told s.resync unit values) (single-read s.resync unit values n))

primitive-read : (s : SessionState) (unit : SayParameters) (r : Result Primitive UpperError) → IsNumbered unit → AreRead (read_told s unit r).indications
primitive-read s unit (Ok primitive) n = values-read s unit (values_of primitive) n
primitive-read s unit (Err fault) n = tt

plain-read : (unit : SayParameters) → IsNumbered unit → AreRead (plain_told unit).indications
plain-read (head.Connect sync serial) n = tt
plain-read (head.Accept sync serial) n = tt
plain-read head.Refuse n = tt
plain-read head.Finish n = tt
plain-read head.Finished n = tt
plain-read (head.Data pass) n = tt
plain-read (head.Check serial) n = (n, tt)
plain-read (head.Acknowledge serial) n = (n, tt)
plain-read (head.Resync kind serial token) n = tt
plain-read (head.Resynced serial token) n = tt
plain-read head.Abort n = tt
plain-read (head.Token to) n = tt

carried-read : (s : Standing) (unit : SayParameters) (octets : List ℕ) (kind : Option SpduKind) → IsNumbered unit → AreRead (carried_told s unit octets kind).indications
carried-read s unit octets None n = plain-read unit n
carried-read s unit octets (Some kind) n = primitive-read s.state unit (upper_reading kind (contexts_for s kind) octets) n

unit-read : (own : TokenSide) (x : Exchange) (unit : SessionSay) → IsNumbered (parameters unit) → AreRead (unit_received own x unit).indications
unit-read own x unit n =
    let s = standing own x.trace in
    let told = unit_told s unit in
    all-append told.indications (fault_told told.fault) (carried-read s (parameters unit) (user_data unit) (carrier (parameters unit)) n) (fault-all told.fault)

-- ---- an SPDU

abbrev IsNumberedMeaning : SpduMeaning → Type 0
IsNumberedMeaning Nothing = Unit {0}
IsNumberedMeaning (Tells unit) = IsNumbered (parameters unit)
IsNumberedMeaning (Faulty fault) = Unit {0}

pick-meaning : (b : Bool) (x y : SpduMeaning) → IsNumberedMeaning x → IsNumberedMeaning y → IsNumberedMeaning (cond b x y)
pick-meaning true x y p q = p
pick-meaning false x y p q = q

serial-small : (field : Option ℕ) → is_serial field ≡ true → IsSerial (unwrap_or field 0)
serial-small None h = omega arith
serial-small (Some n) h = grind (arith, nat_tests)

abbrev HasSerial : SpduFields → Type 0
HasSerial fields = IsSerial (serial_in fields)

token-numbered : (own : TokenSide) (s : SessionState) (given : Option ℕ) → IsNumberedMeaning (token_received own s given)
token-numbered own s None = tt
token-numbered own s (Some item) = pick-meaning (is_side s.token own) (Faulty faults.Token) (Tells (say.Token own)) tt tt

check-numbered : (own : TokenSide) (s : SessionState) (number : ℕ) → IsSerial number → IsNumberedMeaning (check_received own s number)
check-numbered own s number h =
    pick-meaning (is_side s.token own) (Faulty faults.Token) (cond (nat_eq number s.next) (Tells (say.Check number)) (Faulty (faults.Serial s.next number))) tt
    (pick-meaning (nat_eq number s.next) (Tells (say.Check number)) (Faulty (faults.Serial s.next number)) h tt)

acknowledgement-numbered : (s : SessionState) (number : ℕ) → IsSerial number → IsNumberedMeaning (acknowledgement_received s number)
acknowledgement-numbered s number h =
    pick-meaning (nat_le s.oldest number && nat_lt number s.next) (Tells (say.Acknowledge number)) (Faulty (faults.Serial s.oldest number)) h tt

resync-numbered : (s : SessionState) (r : PendingResync) (octets : List ℕ) (kind : ResyncKind) → IsSerial r.serial → IsNumberedMeaning (resync_received_by s r octets kind)
resync-numbered s r octets resyncs.Restart h = pick-meaning (nat_le r.serial s.next) (resync_meant r octets) (Faulty (faults.Serial s.next r.serial)) h tt
resync-numbered s r octets resyncs.Abandon h = h

allowed-numbered : (own : TokenSide) (s : SessionState) (fields : SpduFields) (octets : List ℕ) (kind : SpduKind) → HasSerial fields → IsNumberedMeaning (allowed_receives own s fields octets kind)
allowed-numbered own s fields octets kinds.CN h = tt
allowed-numbered own s fields octets kinds.AC h = tt
allowed-numbered own s fields octets kinds.RF h = tt
allowed-numbered own s fields octets kinds.FN h = tt
allowed-numbered own s fields octets kinds.DN h = tt
allowed-numbered own s fields octets kinds.AB h = tt
allowed-numbered own s fields octets kinds.AA h = tt
allowed-numbered own s fields octets kinds.DT h = tt
allowed-numbered own s fields octets kinds.GT h = token-numbered own s fields.given
allowed-numbered own s fields octets kinds.MIP h = check-numbered own s (serial_in fields) h
allowed-numbered own s fields octets kinds.MIA h = acknowledgement-numbered s (serial_in fields) h
allowed-numbered own s fields octets kinds.RS h = resync-numbered s (resync_of own fields) octets (resync_of own fields).kind h
allowed-numbered own s fields octets kinds.RA h = tt

unwaiting-numbered : (own : TokenSide) (s : SessionState) (fields : SpduFields) (octets : List ℕ) (kind : SpduKind) → HasSerial fields → IsNumberedMeaning (unwaiting_receives own s fields octets kind)
unwaiting-numbered own s fields octets kind h =
    elim (may_come own s kind) as (λ b. (fault : SpduMeaning) → IsNumberedMeaning fault → IsNumberedMeaning (cond b (allowed_receives own s fields octets kind) fault)) [
      | true ↦ λ fault none. allowed-numbered own s fields octets kind h
      | false ↦ λ fault none. none
    ] _ tt

waiting-numbered : (own : TokenSide) (r : PendingResync) (fields : SpduFields) (octets : List ℕ) (kind : SpduKind) → HasSerial fields → IsNumberedMeaning (waiting_receives own r fields octets kind)
waiting-numbered own r fields octets kinds.CN h = tt
waiting-numbered own r fields octets kinds.AC h = tt
waiting-numbered own r fields octets kinds.RF h = tt
waiting-numbered own r fields octets kinds.FN h = tt
waiting-numbered own r fields octets kinds.DN h = tt
waiting-numbered own r fields octets kinds.AB h = tt
waiting-numbered own r fields octets kinds.AA h = tt
waiting-numbered own r fields octets kinds.DT h = tt
waiting-numbered own r fields octets kinds.GT h = tt
waiting-numbered own r fields octets kinds.MIP h = tt
waiting-numbered own r fields octets kinds.MIA h = tt
waiting-numbered own r fields octets kinds.RS h = pick-meaning (wins (resync_of own fields) r) (resync_meant (resync_of own fields) octets) Nothing h tt
waiting-numbered own r fields octets kinds.RA h =
    pick-meaning (answers r.kind r.serial (serial_in fields)) (Tells (say.Resynced (serial_in fields) (named own fields.tokens) octets)) (Faulty (faults.Serial r.serial (serial_in fields))) h tt

by-numbered : (own : TokenSide) (s : SessionState) (fields : SpduFields) (octets : List ℕ) (kind : SpduKind) (r : Option PendingResync) → HasSerial fields → IsNumberedMeaning (receives_by own s fields octets kind r)
by-numbered own s fields octets kind None h = unwaiting-numbered own s fields octets kind h
by-numbered own s fields octets kind (Some r) h =
    pick-meaning (is_side own r.from) (waiting_receives own r fields octets kind) (unwaiting_receives own s fields octets kind)
    (waiting-numbered own r fields octets kind h) (unwaiting-numbered own s fields octets kind h)

pick-received : (b : Bool) (x y : Received) → AreRead x.indications → AreRead y.indications → AreRead (let t : Received = cond b x y in t).indications
pick-received true x y p q = p
pick-received false x y p q = q

meaning-read : (own : TokenSide) (x : Exchange) (place : ℕ) (meaning : SpduMeaning) → IsNumberedMeaning meaning → AreRead (meaning_received own x place meaning).indications
meaning-read own x place Nothing n = tt
meaning-read own x place (Tells unit) n = unit-read own x unit n
meaning-read own x place (Faulty fault) n = (tt, tt)

spdu-read : (own : TokenSide) (place : ℕ) (x : Exchange) (spdu : Spdu) → IsReadable spdu → AreRead (spdu_received own place x spdu).indications
spdu-read own place x spdu h =
    let s = state_of own x.trace in
    pick-received (is_ended x.ending) (nothing x) (meaning_received own x place (receives own s spdu)) tt
    (meaning-read own x place (receives own s spdu) (by-numbered own s spdu.fields spdu.octets spdu.kind s.resync (serial-small spdu.fields.serial h.serial)))

-- ---- a TSDU

each-read : {A : Type 0} (receive : Exchange → A → Received) (P : A → Type 0) (us : List A) (x : Exchange)
    → ((x : Exchange) (u : A) → P u → AreRead (receive x u).indications) → AllByRecursion P us → AreRead (each receive x us).indications
each-read receive P [] x one all = tt
each-read receive P (u ∷ us) x one all =
    let first = receive x u in
    all-append first.indications (each receive first.exchange us).indications (one x u all.0) (each-read receive P us first.exchange one all.1)

spdus-read : (own : TokenSide) (after : ℕ) (x : Exchange) (spdus : List Spdu) → AllByRecursion IsReadable spdus → AreRead (spdus_received own after x spdus).indications
spdus-read own after x [] all = tt
spdus-read own after x (spdu ∷ others) all =
    let first = spdu_received own 0 x spdu in
    all-append first.indications (each (spdu_received own after) first.exchange others).indications (spdu-read own 0 x spdu all.0)
    (each-read (spdu_received own after) IsReadable others first.exchange (spdu-read own after) all.1)

tsdu-by : (own : TokenSide) (x : Exchange) (tsdu : List ℕ) (r : Result (List Spdu) SpduError) → spdus_in tsdu ≡ r → AreRead (read_received own x tsdu r).indications
tsdu-by own x tsdu (Ok spdus) e = spdus-read own (place_after_gt tsdu) x spdus (reading-readable tsdu spdus e)
tsdu-by own x tsdu (Err fault) e = (tt, tt)

-- ---- the stream

transport-read : (own : TokenSide) (x : Exchange) (unit : TransportUnit) → AreRead (transport_received own x unit).indications
transport-read own x transport.Connected = tt
transport-read own x (transport.Data tsdu) = tsdu-by own x tsdu (spdus_in tsdu) refl
transport-read own x transport.Ended = tt

next-read : (own : TokenSide) (x : Exchange) (unit : TransportUnit) → AreRead (received_next own x unit).indications
next-read own x unit = pick-received (is_ended x.ending) (nothing x) (transport_received own x unit) tt (transport-read own x unit)

stopped-read : (x : Exchange) (fault : Option TpktError) → AreRead (stopped_by x fault).indications
stopped-read x None = tt
stopped-read x (Some fault) = pick-received (is_ended x.ending) (nothing x) (refused x (of_transport fault)) tt (tt, tt)

any : {A : Type 0} (us : List A) → AllByRecursion (λ (u : A). Unit {0}) us
any [] = tt
any (u ∷ us) = (tt, any us)

reading-read : (own : TokenSide) (x : Exchange) (r : Reading) → AreRead (reading_received own x r).indications
reading-read own x r =
    let all = each (received_next own) x r.units in
    let none : TransportUnit → Type 0 = λ unit. Unit {0} in
    all-append all.indications (stopped_by all.exchange r.kept.fault).indications
    (each-read (received_next own) none r.units x (λ x unit h. next-read own x unit) (any r.units)) (stopped-read all.exchange r.kept.fault)

pick-fed : (b : Bool) (x y : Fed) → AreRead x.indications → AreRead y.indications → AreRead (let t : Fed = cond b x y in t).indications
pick-fed true x y p q = p
pick-fed false x y p q = q

pub piece-read : (own : TokenSide) (a : Association) (piece : List ℕ) → AreRead (piece_received own a piece).indications
piece-read own a piece =
    let r = onward (stream_reading (end_of own) a.stream).kept piece in
    pick-fed (is_ended a.exchange.ending) (nothing_fed a) (fed_by a piece r (reading_received own a.exchange r)) tt (reading-read own a.exchange r)

pub octets-read : (own : TokenSide) (a : Association) (octets : List ℕ) → AreRead (octets_received own a octets).indications
octets-read own a [] = tt
octets-read own a (octet ∷ octets) =
    let first = piece_received own a (octet ∷ []) in
    all-append first.indications (octets_received own first.association octets).indications (piece-read own a (octet ∷ [])) (octets-read own first.association octets)

pub tells-read : (own : TokenSide) (a : Association) (octets : List ℕ) → TellsRead own a octets
tells-read own a octets = (octets-read own a octets, piece-read own a octets)
