-- A unit that one stack sends the other receives.
use Rattle.std.proofs.Common.{◌≡◌, ◌≤◌, ℕ, Bool, true, false, List, [], ◌∷◌, ◌++◌, length, refl, ap, sym, ◌∙◌, append-nil, Option, None, Result, Ok}
use Rattle.vf_session.specs.Kept.{kept_of}
use Rattle.vf_session.specs.Mutual.{received_of, with_all}
use Rattle.vf_session.specs.Sending.{spdus}
use Rattle.vf_session.specs.Trace.{Trace, other, with_received}
use Rattle.vf_session.specs.declared.units.SessionSay.{SessionSay}
use Rattle.vf_session.specs.declared.units.SessionSay.TheVariants as say
use Rattle.vf_session.specs.declared.units.TokenSide.{TokenSide}
use Rattle.vf_session.specs.declared.units.TokenSide.TheVariants.{Initiator, Responder}
use Rattle.vf_session.proofs.AllowedLemmas.{allowed-followed, bounds-of}
use Rattle.vf_session.proofs.MutualLemmas.{sent-received as session-received}
use Rattle.vf_session.proofs.SentLemmas.{may-written}
use Rattle.vf_session_spdu.specs.Reading.{reading, place_after_gt}
use Rattle.vf_session_spdu.specs.declared.errors.SpduError.{SpduError}
use Rattle.vf_session_spdu.specs.declared.spdu.Spdu.{Spdu}
use Rattle.vf_stack.specs.Association.{Association, Exchange, end_of, is_ended}
use Rattle.vf_stack.specs.Carriage.{Told, unit_told}
use Rattle.vf_stack.specs.Contexts.{standing}
use Rattle.vf_stack.specs.Mutual.{IsReceived, IsQuiet, TellsJust}
use Rattle.vf_stack.specs.Receiving.{Received, nothing, preceded, each, ending_by, joined, spdus_received, read_received, received_next, reading_received, fed_by}
use Rattle.vf_stack.specs.Sending.{tsdu_of}
use Rattle.vf_stack.specs.declared.ending.Ending.{Ending}
use Rattle.vf_stack.specs.declared.ending.Ending.TheVariants.{Open}
use Rattle.vf_stack.specs.declared.indication.Indication.{Indication}
use Rattle.vf_tpkt.specs.Receiving.{Kept as TransportKept, Progress, Reading, receiving, receiving_in, onward, onward_from, resting, preceded as told_first}
use Rattle.vf_tpkt.specs.Sending.{after_sent, sent as packets}
use Rattle.vf_tpkt.specs.Stream.{reading as stream_reading}
use Rattle.vf_tpkt.specs.declared.error.TpktError.{TpktError}
use Rattle.vf_tpkt.specs.declared.unit.Unit.TheVariants as transport
use Rattle.vf_tpkt.proofs.RoundTrip.{sent-received}
use Rattle.vf_stack.proofs.MutualLemmas.{AreSound, as_received, unit_after, unit-open, sound, spdus-told}
use Rattle.vf_stack.proofs.PieceLemmas.{piece-open}
use Rattle.vf_stack.proofs.SentLemmas.{tsdu-read}

-- ---- the unit alone

abbrev pub received_alone : TokenSide → Exchange → List SessionSay → Ending → List Indication → Received
received_alone far x units ending told = as_received told (record { trace = with_all far units x.trace; ending = ending })

record IsAlone (far : TokenSide) (x : Exchange) (units : List SessionSay) (ending : Ending) (told : List Indication) : Type 0 where
  pub are_sound : AreSound far x.trace units
  pub received_is : each (unit_after far) x units ≡ received_alone far x units ending told

single : (far : TokenSide) (x : Exchange) (unit : SessionSay) (told : List Indication) → x.ending ≡ Open → TellsJust far x.trace unit told → IsAlone far x (unit ∷ []) (ending_by unit) told
single far x unit told o tells =
    let R : Received → Received = λ received. preceded received.indications (nothing received.exchange) in
    let clean : (unit_told (standing far x.trace) unit).fault ≡ None = ap (λ (t : Told). t.fault) tells in
    let y = joined far x unit (ending_by unit) in
    record {
      are_sound = (clean, tt);
      received_is = ap R (unit-open far x unit o ∙ sound far x unit clean)
          ∙ ap (λ (told : List Indication). preceded told (nothing y)) (ap (λ (t : Told). t.indications) tells)
          ∙ ap (λ (told : List Indication). as_received told y) (append-nil told);
    }

-- a token that passes changes nothing of how data are read
token-same : (far : TokenSide) (trace : Trace) (octets : List ℕ) → unit_told (standing far (with_received far (say.Token far) trace)) (say.Data false octets) ≡ unit_told (standing far trace) (say.Data true octets)
token-same Initiator trace octets = refl
token-same Responder trace octets = refl

passing : (own : TokenSide) (x : Exchange) (octets : List ℕ) (told : List Indication) → x.ending ≡ Open → TellsJust (other own) x.trace (say.Data true octets) told
    → IsAlone (other own) x (say.Token (other own) ∷ say.Data false octets ∷ []) Open told
passing own x octets told o tells =
    let far = other own in
    let token = say.Token far in
    let y = joined far x token Open in
    let data_alone = single far y (say.Data false octets) told refl (token-same far x.trace octets ∙ tells) in
    let R : Received → Received = λ received. preceded received.indications (each (unit_after far) received.exchange (say.Data false octets ∷ [])) in
    record {
      are_sound = (refl, data_alone.are_sound);
      received_is = ap R (unit-open far x token o) ∙ data_alone.received_is;
    }

alone : (own : TokenSide) (x : Exchange) (unit : SessionSay) (told : List Indication) → x.ending ≡ Open → TellsJust (other own) x.trace unit told → IsAlone (other own) x (received_of own unit) (ending_by unit) told
alone own x (say.Data true octets) told o tells = passing own x octets told o tells
alone own x (say.Data false octets) told o tells = single (other own) x (say.Data false octets) told o tells
alone own x (say.Connect sync serial octets) told o tells = single (other own) x (say.Connect sync serial octets) told o tells
alone own x (say.Accept sync serial octets) told o tells = single (other own) x (say.Accept sync serial octets) told o tells
alone own x (say.Refuse octets) told o tells = single (other own) x (say.Refuse octets) told o tells
alone own x (say.Finish octets) told o tells = single (other own) x (say.Finish octets) told o tells
alone own x (say.Finished octets) told o tells = single (other own) x (say.Finished octets) told o tells
alone own x (say.Check serial) told o tells = single (other own) x (say.Check serial) told o tells
alone own x (say.Acknowledge serial) told o tells = single (other own) x (say.Acknowledge serial) told o tells
alone own x (say.Resync kind serial token octets) told o tells = single (other own) x (say.Resync kind serial token octets) told o tells
alone own x (say.Resynced serial token octets) told o tells = single (other own) x (say.Resynced serial token octets) told o tells
alone own x (say.Abort octets) told o tells = single (other own) x (say.Abort octets) told o tells
alone own x (say.Token to) told o tells = single (other own) x (say.Token to) told o tells

-- ---- its TSDU, and the packets of this

resting-none : (p : Progress) → receiving p [] ≡ resting p []
unfolding receiving_in
resting-none p = refl

abbrev pub told_one : Progress → List ℕ → Reading
told_one q tsdu = record { units = transport.Data tsdu ∷ []; answers = []; kept = record { connection = q; packet = []; fault = None } }

quiet-receives : (k : TransportKept) (most : ℕ) (tsdu : List ℕ) → IsQuiet k → 1 ≤ most → most ≤ 65528 → length tsdu ≤ 1048576
    → onward k (packets most tsdu) ≡ told_one (after_sent k.connection (packets most tsdu)) tsdu
quiet-receives k most tsdu quiet low high fits =
    let o = packets most tsdu in
    let q = after_sent k.connection o in
    let start : onward k o ≡ receiving k.connection o =
    ap (λ (f : Option TpktError). onward_from k o f) quiet.no_fault ∙ ap (λ (packet : List ℕ). receiving k.connection (packet ++ o)) quiet.no_packet in
    let whole : receiving k.connection o ≡ receiving k.connection (o ++ []) = ap (λ (octets : List ℕ). receiving k.connection octets) (sym (append-nil o)) in
    start ∙ whole ∙ sent-received k.connection most tsdu [] quiet.stands quiet.no_data low high fits ∙ ap (λ (r : Reading). told_first (transport.Data tsdu ∷ []) [] r) (resting-none q)

reading-one : (own : TokenSide) (x : Exchange) (q : Progress) (tsdu : List ℕ) (received : Received) → x.ending ≡ Open → read_received own x tsdu (reading tsdu) ≡ received → reading_received own x (told_one q tsdu) ≡ preceded (received.indications ++ []) (nothing received.exchange)
reading-one own x q tsdu received o e =
    let R : Received → Received = λ received. preceded (received.indications ++ []) (nothing received.exchange) in
    let goes : is_ended x.ending ≡ false = ap is_ended o in
    let first : received_next own x (transport.Data tsdu) ≡ read_received own x tsdu (reading tsdu) = rw goes refl in
    ap R (first ∙ e)

-- received at last, with nothing after it
whole-by : (told : List Indication) (y : Exchange) → preceded (told ++ []) (nothing y) ≡ as_received told y
whole-by told y = ap (λ (told : List Indication). as_received told y) (append-nil (told ++ []) ∙ append-nil told)

pub is-received : (own : TokenSide) (offer far_offer : Bool) (a far : Association) (most : ℕ) (unit : SessionSay) (told : List Indication) → IsReceived own offer far_offer a far most unit told
is-received own offer far_offer a far most unit told together allowed low high fits tells =
    let side = other own in
    let tsdu = tsdu_of own unit in
    let o = packets most tsdu in
    let x = far.exchange in
    let k = (stream_reading (end_of side) far.stream).kept in
    let q = after_sent k.connection o in
    let kept = kept_of own offer a.exchange.trace in
    let bounds = bounds-of own offer a.exchange.trace (allowed-followed own offer a.exchange.trace together.own_allowed) in
    let reads : reading tsdu ≡ Ok (spdus own unit) = tsdu-read own unit (may-written kept kept unit refl bounds allowed) in
    let session = session-received own offer far_offer a.exchange.trace x.trace unit together.own_allowed together.far_allowed together.agree allowed in
    let n = alone own x unit told together.far_open tells in
    let y : Exchange = record { trace = with_all side (received_of own unit) x.trace; ending = ending_by unit } in
    let received = as_received told y in
    let spdus_are : spdus_received side (place_after_gt tsdu) x (spdus own unit) ≡ received =
    spdus-told side (place_after_gt tsdu) (spdus own unit) x (received_of own unit) together.far_open session.told n.are_sound ∙ n.received_is in
    let read : read_received side x tsdu (reading tsdu) ≡ received = ap (λ (r : Result (List Spdu) SpduError). read_received side x tsdu r) reads ∙ spdus_are in
    let r = onward k o in
    let one : r ≡ told_one q tsdu = quiet-receives k most tsdu together.quiet low high fits in
    let all : reading_received side x r ≡ received =
    ap (λ (r : Reading). reading_received side x r) one ∙ reading-one side x q tsdu received together.far_open read ∙ whole-by told y in
    let goes : is_ended x.ending ≡ false = ap is_ended together.far_open in
    piece-open side far o goes ∙ ap (λ (received : Received). fed_by far o r received) all ∙ ap (λ (r : Reading). fed_by far o r received) one
