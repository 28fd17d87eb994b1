-- What requests send, and what is kept after it.
use Rattle.std.proofs.Common.{◌≡◌, ℕ, ◌≤◌, Bool, true, false, if◌then◌else◌, List, [], ◌∷◌, ◌++◌, length, refl, ap, sym, subst, ◌∙◌, append-nil, arith, Option, None, Some, unwrap_or, inl, inr}
use Rattle.std.proofs.lemmas.Bool.{cases_lt}
use Rattle.std.specs.List.{flat_map}
use Rattle.vf_ber.specs.Limits.{IsTooLarge}
use Rattle.vf_ber.specs.Spelling.{header, spell}
use Rattle.vf_ber.specs.Tree.{Tree}
use Rattle.vf_pdu.specs.declared.pdu.Pdu.{Pdu}
use Rattle.vf_session.specs.Represents.{Represents as Keeps}
use Rattle.vf_session.specs.Sending.{may, spdus}
use Rattle.vf_session_spdu.specs.Spelling.{spelling}
use Rattle.vf_session_spdu.specs.declared.spdu.Spdu.{Spdu}
use Rattle.vf_session.specs.Trace.{Trace, state, with_sent}
use Rattle.vf_session.specs.Units.{parameters, user_data, with_data}
use Rattle.vf_session.specs.declared.parameters.SayParameters.{SayParameters}
use Rattle.vf_session.specs.declared.parameters.SayParameters.TheVariants as head
use Rattle.vf_session.specs.declared.phase.Phase.TheVariants.{Aborted}
use Rattle.vf_session.specs.declared.state.SessionState.{SessionState}
use Rattle.vf_session.specs.declared.units.ResyncKind.{ResyncKind}
use Rattle.vf_session.specs.declared.units.SessionSay.{SessionSay}
use Rattle.vf_session.specs.declared.units.SessionSay.TheVariants as say
use Rattle.vf_session.specs.declared.units.TokenSide.{TokenSide}
use Rattle.vf_session.specs.declared.units.TokenSide.TheVariants.{Initiator, Responder}
use Rattle.vf_stack.specs.Association.{Association, Exchange, end_of}
use Rattle.vf_stack.specs.Contexts.{Standing, accepted, accepts, proposals, proposes}
use Rattle.vf_stack.specs.Represents.{IsInSession, IsSame, Kept, Represents, Stands, side_of}
use Rattle.vf_stack.specs.Requests.{data_of, in_sequence, octets_by, octets_of, pdu_carried, unit_of}
use Rattle.vf_stack.specs.Sending.{IsWritten, ending_after, permits, tsdu_of, unit_sent, with_sent_unit}
use Rattle.vf_stack.specs.Sends.{Advances, IsPermitted, Joins, Sends, unit_kept}
use Rattle.vf_stack.specs.declared.ending.Ending.{Ending}
use Rattle.vf_stack.specs.declared.ending.Ending.TheVariants.{Open, Closed, Broken, Refused, Partly}
use Rattle.vf_stack.specs.declared.exchange.KeptExchange.{KeptExchange}
use Rattle.vf_stack.specs.declared.request.Request.{Request}
use Rattle.vf_stack.specs.declared.request.Request.TheVariants.{Associate, Accept, Refuse, Release, Released, Item, Check, Acknowledge, Restart, Restarted, Cancel, Cancelled, Abort, Pass}
use Rattle.vf_stack.proofs.UnitLemmas.{standing-is}
use Rattle.vf_tpkt.specs.Receiving.{Kept as TransportKept}
use Rattle.vf_tpkt.specs.Sending.{most_of, sent as packets}
use Rattle.vf_tpkt.specs.Stream.{HasReceived, reading as stream_reading}
use Rattle.vf_upper.specs.Written.{holding, universal, written, is_empty}
use Rattle.vf_upper.specs.declared.contexts.ContextEntry.{ContextEntry}
use Rattle.vf_upper.specs.declared.contexts.Offer.{Offer}
use Rattle.vf_upper.specs.declared.primitive.Primitive.{Primitive}
use Rattle.vf_upper.specs.declared.primitive.Primitive.TheVariants as primitives

-- ---- user data

abbrev pub sequenced : List ℕ → List ℕ
sequenced octets = header true (universal 16) (length octets) ++ octets

around : (tree : Tree) → spell (holding (universal 16) (tree ∷ [])) ≡ sequenced (spell tree)
around tree = ap sequenced (append-nil (spell tree))

pdu-around : (s : Standing) (pdu : Pdu) → in_sequence s pdu ≡ sequenced (octets_by s.accepted (data_of s.accepted pdu))
pdu-around s pdu = around (written (primitives.Data (pdu_carried s.accepted pdu ∷ [])) s.accepted)

if-resync : (b : Bool) (unit : SessionSay) (bare octets : List ℕ) (kind : ResyncKind) (serial : ℕ) (token : Option TokenSide)
    → user_data unit ≡ octets → parameters (if b then unit else say.Data false bare) ≡ head.Resync kind serial token → user_data (if b then unit else say.Data false bare) ≡ octets
if-resync true unit bare octets kind serial token u e = u
if-resync false unit bare octets kind serial token u e = cc

-- of a resynchronization
pub resync-data : (own : TokenSide) (s : Standing) (request : Request) (kind : ResyncKind) (serial : ℕ) (token : Option TokenSide)
    → parameters (unit_of own s request) ≡ head.Resync kind serial token → user_data (unit_of own s request) ≡ sequenced (octets_of s request)
resync-data own s (Associate sync pdu) kind serial token e = cc
resync-data own s (Accept sync pdu) kind serial token e = cc
resync-data own s (Refuse pdu) kind serial token e = cc
resync-data own s (Release pdu) kind serial token e = cc
resync-data own s (Released pdu) kind serial token e = cc
resync-data own s (Item item) kind serial token e = cc
resync-data own s (Check n) kind serial token e = cc
resync-data own s (Acknowledge n) kind serial token e = cc
resync-data own s (Restart n pdu) kind serial token e = pdu-around s pdu
resync-data own s (Restarted n pdu) kind serial token e = cc
resync-data own s (Cancel pdu) kind serial token e = if-resync s.state.agreed _ _ _ kind serial token (pdu-around s pdu) e
resync-data own s (Cancelled pdu) kind serial token e = if-resync s.state.agreed _ _ _ kind serial token (pdu-around s pdu) e
resync-data own s (Abort pdu) kind serial token e = cc
resync-data own s Pass kind serial token e = cc

if-resynced : (b : Bool) (unit : SessionSay) (bare octets : List ℕ) (serial : ℕ) (token : Option TokenSide)
    → user_data unit ≡ octets → parameters (if b then unit else say.Data false bare) ≡ head.Resynced serial token → user_data (if b then unit else say.Data false bare) ≡ octets
if-resynced true unit bare octets serial token u e = u
if-resynced false unit bare octets serial token u e = cc

-- of the answer to one
pub resynced-data : (own : TokenSide) (s : Standing) (request : Request) (serial : ℕ) (token : Option TokenSide)
    → parameters (unit_of own s request) ≡ head.Resynced serial token → user_data (unit_of own s request) ≡ sequenced (octets_of s request)
resynced-data own s (Associate sync pdu) serial token e = cc
resynced-data own s (Accept sync pdu) serial token e = cc
resynced-data own s (Refuse pdu) serial token e = cc
resynced-data own s (Release pdu) serial token e = cc
resynced-data own s (Released pdu) serial token e = cc
resynced-data own s (Item item) serial token e = cc
resynced-data own s (Check n) serial token e = cc
resynced-data own s (Acknowledge n) serial token e = cc
resynced-data own s (Restart n pdu) serial token e = cc
resynced-data own s (Restarted n pdu) serial token e = pdu-around s pdu
resynced-data own s (Cancel pdu) serial token e = if-resynced s.state.agreed _ _ _ serial token (pdu-around s pdu) e
resynced-data own s (Cancelled pdu) serial token e = if-resynced s.state.agreed _ _ _ serial token (pdu-around s pdu) e
resynced-data own s (Abort pdu) serial token e = cc
resynced-data own s Pass serial token e = cc

-- neither a resynchronization nor the answer to one
abbrev pub is_plain : SayParameters → Bool
is_plain (head.Resync kind serial token) = false
is_plain (head.Resynced serial token) = false
is_plain unit = true

pub plain-if : (p : SayParameters) → ((kind : ResyncKind) (serial : ℕ) (token : Option TokenSide) → p ≡ head.Resync kind serial token → ⊥)
    → ((serial : ℕ) (token : Option TokenSide) → p ≡ head.Resynced serial token → ⊥) → is_plain p ≡ true
plain-if (head.Connect sync serial) n m = refl
plain-if (head.Accept sync serial) n m = refl
plain-if head.Refuse n m = refl
plain-if head.Finish n m = refl
plain-if head.Finished n m = refl
plain-if (head.Data pass) n m = refl
plain-if (head.Check serial) n m = refl
plain-if (head.Acknowledge serial) n m = refl
plain-if (head.Resync kind serial token) n m = absurd (n kind serial token refl)
plain-if (head.Resynced serial token) n m = absurd (m serial token refl)
plain-if head.Abort n m = refl
plain-if (head.Token to) n m = refl

if-plain : (b : Bool) (unit other : SessionSay) (octets : List ℕ) → is_plain (parameters unit) ≡ false → user_data other ≡ octets
    → is_plain (parameters (if b then unit else other)) ≡ true → user_data (if b then unit else other) ≡ octets
if-plain true unit other octets u o e = cc
if-plain false unit other octets u o e = o

pub plain-data : (own : TokenSide) (s : Standing) (request : Request) → is_plain (parameters (unit_of own s request)) ≡ true → user_data (unit_of own s request) ≡ octets_of s request
plain-data own s (Associate sync pdu) e = refl
plain-data own s (Accept sync pdu) e = refl
plain-data own s (Refuse None) e = refl
plain-data own s (Refuse (Some pdu)) e = refl
plain-data own s (Release pdu) e = refl
plain-data own s (Released pdu) e = refl
plain-data own s (Item item) e = refl
plain-data own s (Check n) e = refl
plain-data own s (Acknowledge n) e = refl
plain-data own s (Restart n pdu) e = cc
plain-data own s (Restarted n pdu) e = cc
plain-data own s (Cancel pdu) e = if-plain s.state.agreed _ _ _ refl refl e
plain-data own s (Cancelled pdu) e = if-plain s.state.agreed _ _ _ refl refl e
plain-data own s (Abort pdu) e = refl
plain-data own s Pass e = refl

-- User data that can be written are within a value's octets.
short-by : (empty : Bool) (tree : Tree) → (IsTooLarge tree → ⊥) → length (if empty then [] else spell tree) ≤ 1048576
short-by true tree small = omega arith
short-by false tree small =
    elim (cases_lt 1048576 (length (spell tree))) [
      | inl long ↦ absurd (small (inr long))
      | inr short ↦ short
    ]

pub octets-short : (contexts : List ContextEntry) (primitive : Option Primitive) → IsWritten contexts primitive → length (octets_by contexts primitive) ≤ 1048576
octets-short contexts None w = omega arith
octets-short contexts (Some primitive) w = short-by (is_empty primitive) (written primitive contexts) w.small

-- ---- units

pub unit-whole : (unit : SessionSay) → with_data (parameters unit) (user_data unit) ≡ unit
unit-whole (say.Connect sync serial octets) = refl
unit-whole (say.Accept sync serial octets) = refl
unit-whole (say.Refuse octets) = refl
unit-whole (say.Finish octets) = refl
unit-whole (say.Finished octets) = refl
unit-whole (say.Data pass octets) = refl
unit-whole (say.Check serial) = refl
unit-whole (say.Acknowledge serial) = refl
unit-whole (say.Resync kind serial token octets) = refl
unit-whole (say.Resynced serial token octets) = refl
unit-whole (say.Abort octets) = refl
unit-whole (say.Token to) = refl

abbrev is_none : List Spdu → Bool
is_none [] = true
is_none (spdu ∷ spdus) = false

some : (all : List Spdu) → is_none all ≡ false → 1 ≤ length (flat_map spelling all)
some [] e = cc
some (spdu ∷ others) e = omega arith

spdus-some : (own : TokenSide) (unit : SessionSay) → is_none (spdus own unit) ≡ false
spdus-some own (say.Connect sync serial octets) = refl
spdus-some own (say.Accept sync serial octets) = refl
spdus-some own (say.Refuse octets) = refl
spdus-some own (say.Finish octets) = refl
spdus-some own (say.Finished octets) = refl
spdus-some own (say.Data pass octets) = refl
spdus-some own (say.Check serial) = refl
spdus-some own (say.Acknowledge serial) = refl
spdus-some own (say.Resync kind serial token octets) = refl
spdus-some own (say.Resynced serial token octets) = refl
spdus-some own (say.Abort octets) = refl
spdus-some own (say.Token to) = refl

-- A TSDU isn't empty.
pub tsdu-some : (own : TokenSide) (unit : SessionSay) → 1 ≤ length (tsdu_of own unit)
tsdu-some own unit = some (spdus own unit) (spdus-some own unit)

-- ---- what may be sent

-- An abort after a fault may be said by a session that nothing was said on.
pub abort-may : (unit : SessionSay) (offer : Bool) (own : TokenSide) (s : SessionState)
    → permits own offer s unit Refused ≡ true → may Responder false (state Responder []) unit ≡ true
abort-may (say.Connect sync serial octets) offer own s p = cc
abort-may (say.Accept sync serial octets) offer own s p = cc
abort-may (say.Refuse octets) offer own s p = cc
abort-may (say.Finish octets) offer own s p = cc
abort-may (say.Finished octets) offer own s p = cc
abort-may (say.Data pass octets) offer own s p = cc
abort-may (say.Check serial) offer own s p = cc
abort-may (say.Acknowledge serial) offer own s p = cc
abort-may (say.Resync kind serial token octets) offer own s p = cc
abort-may (say.Resynced serial token octets) offer own s p = cc
abort-may (say.Abort octets) offer own s p = p
abort-may (say.Token to) offer own s p = cc

-- Where no fault ended receiving alone, session may send what is permitted.
pub may-permitted : (own : TokenSide) (offer : Bool) (s : SessionState) (unit : SessionSay) (ending : Ending)
    → (ending ≡ Refused → ⊥) → permits own offer s unit ending ≡ true → may own offer s unit ≡ true
may-permitted own offer s unit Open n p = p
may-permitted own offer s unit Closed n p = cc
may-permitted own offer s unit Broken n p = cc
may-permitted own offer s unit Refused n p = absurd (n refl)
may-permitted own offer s unit Partly n p = p

-- and goes by the trace
keeps-by : (kept : KeptExchange) (trace : Trace) (unit : SessionSay) (ending : Ending) → (ending ≡ Refused → ⊥)
    → permits kept.session.side kept.session.offer kept.session.state unit ending ≡ true → IsInSession kept trace ending → Keeps kept.session trace
keeps-by kept trace unit Open n p k = k
keeps-by kept trace unit Closed n p k = cc
keeps-by kept trace unit Broken n p k = cc
keeps-by kept trace unit Refused n p k = absurd (n refl)
keeps-by kept trace unit Partly n p k = k

pub keeps-permitted : (kept : KeptExchange) (x : Exchange) (unit : SessionSay) → Stands kept x → (kept.ending ≡ Refused → ⊥) → IsPermitted kept unit → Keeps kept.session x.trace
keeps-permitted kept x unit s n p =
    let P : Ending → Type 0 = λ e. permits kept.session.side kept.session.offer kept.session.state unit e ≡ true in
    keeps-by kept x.trace unit x.ending (λ e. n (s.ending_is ∙ e)) (subst P s.ending_is p) s.in_session

-- Neither end accepts contexts by what it sends.
permits-none : (own : TokenSide) (offer : Bool) (s : SessionState) (unit : SessionSay) (ending : Ending) (offers : List Offer)
    → permits own offer s unit ending ≡ true → accepts own offers unit ≡ None
permits-none Initiator offer s (say.Connect sync serial octets) ending offers p = refl
permits-none Responder offer s (say.Connect sync serial octets) Open offers p = cc
permits-none Responder offer s (say.Connect sync serial octets) Closed offers p = cc
permits-none Responder offer s (say.Connect sync serial octets) Broken offers p = cc
permits-none Responder offer s (say.Connect sync serial octets) Refused offers p = cc
permits-none Responder offer s (say.Connect sync serial octets) Partly offers p = cc
permits-none Initiator offer s (say.Accept sync serial octets) Open offers p = cc
permits-none Initiator offer s (say.Accept sync serial octets) Closed offers p = cc
permits-none Initiator offer s (say.Accept sync serial octets) Broken offers p = cc
permits-none Initiator offer s (say.Accept sync serial octets) Refused offers p = cc
permits-none Initiator offer s (say.Accept sync serial octets) Partly offers p = cc
permits-none Responder offer s (say.Accept sync serial octets) ending offers p = refl
permits-none Initiator offer s (say.Refuse octets) ending offers p = refl
permits-none Responder offer s (say.Refuse octets) ending offers p = refl
permits-none Initiator offer s (say.Finish octets) ending offers p = refl
permits-none Responder offer s (say.Finish octets) ending offers p = refl
permits-none Initiator offer s (say.Finished octets) ending offers p = refl
permits-none Responder offer s (say.Finished octets) ending offers p = refl
permits-none Initiator offer s (say.Data pass octets) ending offers p = refl
permits-none Responder offer s (say.Data pass octets) ending offers p = refl
permits-none Initiator offer s (say.Check serial) ending offers p = refl
permits-none Responder offer s (say.Check serial) ending offers p = refl
permits-none Initiator offer s (say.Acknowledge serial) ending offers p = refl
permits-none Responder offer s (say.Acknowledge serial) ending offers p = refl
permits-none Initiator offer s (say.Resync kind serial token octets) ending offers p = refl
permits-none Responder offer s (say.Resync kind serial token octets) ending offers p = refl
permits-none Initiator offer s (say.Resynced serial token octets) ending offers p = refl
permits-none Responder offer s (say.Resynced serial token octets) ending offers p = refl
permits-none Initiator offer s (say.Abort octets) ending offers p = refl
permits-none Responder offer s (say.Abort octets) ending offers p = refl
permits-none Initiator offer s (say.Token to) ending offers p = refl
permits-none Responder offer s (say.Token to) ending offers p = refl

-- ---- what is kept

-- where the connection stands after an abort of this end
pub abort-state : (own : TokenSide) (trace : Trace) (unit : SessionSay) (offer : Bool) (s : SessionState)
    → permits own offer s unit Refused ≡ true → record (state own trace) { phase = Aborted; resync = None } ≡ state own (with_sent own unit trace)
abort-state own trace (say.Connect sync serial octets) offer s p = cc
abort-state own trace (say.Accept sync serial octets) offer s p = cc
abort-state own trace (say.Refuse octets) offer s p = cc
abort-state own trace (say.Finish octets) offer s p = cc
abort-state own trace (say.Finished octets) offer s p = cc
abort-state own trace (say.Data pass octets) offer s p = cc
abort-state own trace (say.Check serial) offer s p = cc
abort-state own trace (say.Acknowledge serial) offer s p = cc
abort-state own trace (say.Resync kind serial token octets) offer s p = cc
abort-state own trace (say.Resynced serial token octets) offer s p = cc
abort-state Initiator trace (say.Abort octets) offer s p = refl
abort-state Responder trace (say.Abort octets) offer s p = refl
abort-state own trace (say.Token to) offer s p = cc

-- Where more may be sent, session goes by the trace.
in-open : (kept : KeptExchange) (trace : Trace) (ending : Ending) → Keeps kept.session trace → IsInSession kept trace ending
in-open kept trace Open k = k
in-open kept trace Closed k = tt
in-open kept trace Broken k = tt
in-open kept trace Refused k = tt
in-open kept trace Partly k = k

pub in-after : (kept : KeptExchange) (trace : Trace) (unit : SessionSay) (ending : Ending) → Keeps kept.session trace → IsInSession kept trace (ending_after unit ending)
in-after kept trace unit ending k = in-open kept trace (ending_after unit ending) k

in-ended : (kept : KeptExchange) (trace : Trace) (unit : SessionSay) (own : TokenSide) (offer : Bool) (s : SessionState)
    → permits own offer s unit Refused ≡ true → (ending : Ending) → IsInSession kept trace (ending_after unit ending)
in-ended kept trace (say.Connect sync serial octets) own offer s p ending = cc
in-ended kept trace (say.Accept sync serial octets) own offer s p ending = cc
in-ended kept trace (say.Refuse octets) own offer s p ending = tt
in-ended kept trace (say.Finish octets) own offer s p ending = cc
in-ended kept trace (say.Finished octets) own offer s p ending = tt
in-ended kept trace (say.Data pass octets) own offer s p ending = cc
in-ended kept trace (say.Check serial) own offer s p ending = cc
in-ended kept trace (say.Acknowledge serial) own offer s p ending = cc
in-ended kept trace (say.Resync kind serial token octets) own offer s p ending = cc
in-ended kept trace (say.Resynced serial token octets) own offer s p ending = cc
in-ended kept trace (say.Abort octets) own offer s p ending = tt
in-ended kept trace (say.Token to) own offer s p ending = cc

pub ended-after : (kept : KeptExchange) (trace : Trace) (unit : SessionSay) (own : TokenSide) (offer : Bool) (s : SessionState) (ending : Ending)
    → permits own offer s unit Refused ≡ true → IsInSession kept trace (ending_after unit ending)
ended-after kept trace unit own offer s ending p = in-ended kept trace unit own offer s p ending

-- A unit that was sent joins the exchange.
pub joins-sent : (kept kept1 : KeptExchange) (unit : SessionSay) (offers : Option (List Offer)) (ending : Ending) (x : Exchange)
    → IsPermitted kept unit → Advances kept unit kept1 → offers ≡ proposes unit → ending ≡ ending_after unit kept.ending → Stands kept x
    → Stands (record kept1 { offers = unwrap_or offers kept1.offers; ending = ending }) (record { trace = with_sent kept.session.side unit x.trace; ending = ending_after unit x.ending })
joins-sent kept kept1 unit offers ending x p a o e s =
    let own = kept.session.side in
    let same-offers : kept1.offers ≡ kept.offers = ap (λ (k : KeptExchange). k.offers) a.rest_is in
    let same-accepted : kept1.accepted ≡ kept.accepted = ap (λ (k : KeptExchange). k.accepted) a.rest_is in
    let none : accepts own (proposals x.trace) unit ≡ None = permits-none own kept.session.offer kept.session.state unit kept.ending (proposals x.trace) p in
    let S : TokenSide → Type 0 = λ side. kept1.state ≡ state side (with_sent kept.session.side unit x.trace) in
    let A : TokenSide → Type 0 = λ side. kept1.accepted ≡ accepted side (with_sent kept.session.side unit x.trace) in
    let accepted-own : kept1.accepted ≡ unwrap_or (accepts own (proposals x.trace) unit) (accepted own x.trace) =
    same-accepted ∙ s.traced.accepted_are ∙ ap (λ (new : Option (List ContextEntry)). unwrap_or new (accepted own x.trace)) (sym none) in
    record {
      ending_is = e ∙ ap (ending_after unit) s.ending_is;
      traced = record {
        state_is = subst S (sym a.same.0) (a.state_is x s);
        offers_are = ap (λ (new : Option (List Offer)). unwrap_or new kept1.offers) o ∙ ap (λ (old : List Offer). unwrap_or (proposes unit) old) (same-offers ∙ s.traced.offers_are);
        accepted_are = subst A (sym a.same.0) accepted-own;
      };
      in_session = a.in_session x s;
    }

-- ---- the association

pub unit-same : (kept : Kept) (a : Association) (request : Request) → Represents kept a → unit_kept kept.exchange request ≡ unit_sent (side_of kept) a request
unit-same kept a request rep = ap (λ (s : Standing). unit_of (side_of kept) s request) (standing-is kept.exchange a.exchange.trace rep.stands.traced)

pub sends-all : (kept kept' : Kept) (a : Association) (request : Request) (unit : SessionSay) (out out' : List ℕ)
    → Represents kept a → unit ≡ unit_kept kept.exchange request → out' ≡ out ++ packets (most_of kept.transport.connection.phase) (tsdu_of (side_of kept) unit)
    → kept'.transport ≡ kept.transport → Joins kept.exchange unit kept'.exchange → IsSame kept.exchange kept'.exchange → Sends (side_of kept) a request out kept' out'
sends-all kept kept' a request unit out out' rep is octets same joins end =
    let own = side_of kept in
    let unit-is : unit ≡ unit_sent own a request = is ∙ unit-same kept a request rep in
    let received : HasReceived kept'.transport (end_of own) a.stream = same ∙ rep.stream_is in
    let H : TokenSide → Type 0 = λ side. HasReceived kept'.transport (end_of side) a.stream in
    let J : SessionSay → Type 0 = λ u. Stands kept'.exchange (with_sent_unit own a.exchange u) in
    record {
      appended = octets
          ∙ ap (λ (t : TransportKept). out ++ packets (most_of t.connection.phase) (tsdu_of own unit)) rep.stream_is
          ∙ ap (λ (u : SessionSay). out ++ packets (most_of (stream_reading (end_of own) a.stream).kept.connection.phase) (tsdu_of own u)) unit-is;
      represents = record { stream_is = subst H (sym end.0) received; stands = subst J unit-is (joins a.exchange rep.stands) };
    }
