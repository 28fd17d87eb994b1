-- Whether a request may be sent, by lengths.
use Rattle.std.proofs.Common.{◌≡◌, ℕ, zero, suc, ◌+◌, ◌*◌, ◌-◌, ◌≤◌, ◌⊎◌, Bool, true, false, ◌&&◌, nat_eq, nat_le, if◌then◌else◌, List, [], ◌∷◌, ◌++◌, length, refl, ap, sym, subst, ◌∙◌, length-append, arith, Option, None, Some, inl, inr}
use Rattle.std.specs.Prelude.{IsTrue, not}
use Rattle.std.specs.List.{AllByRecursion, flat_map, list_all}
use Rattle.std.proofs.lemmas.Bool.{and_parts, leb-true}
use Rattle.std.proofs.lemmas.Bool.Decides.{nat_tests}
use Rattle.vf_session.specs.Rooms.{connect_size, may_by, room, token_size}
use Rattle.vf_session.specs.Receiving.{is_idle}
use Rattle.vf_session.specs.Sending.{allows, fits, has_room, is_allowed, may, spdus}
use Rattle.vf_session.specs.Trace.{Trace, is_side, state as state_of}
use Rattle.vf_session.specs.declared.units.TokenSide.TheVariants.{Initiator}
use Rattle.vf_session.specs.Units.{parameters, user_data, with_data}
use Rattle.vf_session.specs.declared.parameters.SayParameters.{SayParameters}
use Rattle.vf_session.specs.declared.parameters.SayParameters.TheVariants as head
use Rattle.vf_session.specs.declared.state.SessionState.{SessionState}
use Rattle.vf_session.specs.declared.units.SessionSay.{SessionSay}
use Rattle.vf_session.specs.declared.units.SessionSay.TheVariants as say
use Rattle.vf_session.specs.declared.units.TokenSide.{TokenSide}
use Rattle.vf_session.proofs.RoomLemmas.{length-spelled, may-is, size_of}
use Rattle.vf_session_spdu.specs.Kinds.{code_of}
use Rattle.vf_session_spdu.specs.Numbers.{leading_zeros}
use Rattle.vf_session_spdu.specs.Spelling.{octets_after, spelled, spelled_parameters, spelling}
use Rattle.vf_session_spdu.specs.declared.spdu.Spdu.{Spdu}
use Rattle.vf_stack.specs.Contexts.{Standing}
use Rattle.vf_stack.specs.Lengths.{Counts, CountsData, fits_by}
use Rattle.vf_stack.specs.Association.{Association}
use Rattle.vf_stack.specs.Represents.{IsInSession, Kept, Represents, offer_of, side_of, standing_of}
use Rattle.vf_stack.specs.Sending.{IsCarried, IsSendable, May, is_abort, permits, suits, tsdu_of, unit_sent}
use Rattle.vf_stack.specs.Sends.{IsPermitted, unit_kept}
use Rattle.vf_stack.specs.declared.ending.Ending.{Ending}
use Rattle.vf_stack.specs.declared.ending.Ending.TheVariants.{Open, Closed, Broken, Refused, Partly}
use Rattle.vf_stack.specs.declared.exchange.KeptExchange.{KeptExchange}
use Rattle.vf_stack.specs.declared.request.Request.{Request}
use Rattle.vf_stack.proofs.SendLemmas.{unit-same, unit-whole}
use Rattle.vf_stack.proofs.UnitLemmas.{standing-is}
use Rattle.vf_tpkt.specs.Receiving.{Kept as TransportKept}
use Rattle.vf_tpkt.specs.Sending.{stands}

-- ---- the octets of a TSDU

-- a unit whose user data stand among its parameters, or has none
abbrev pub is_among : SessionSay → Bool
is_among (say.Data pass octets) = false
is_among unit = true

spelled-most : (n : ℕ) → size_of n ≤ n + 4
spelled-most n = grind (arith, nat_tests)

-- all of an SPDU stands among its parameters
abbrev IsWhole : Spdu → Type 0
IsWhole spdu = octets_after spdu spdu.kind ≡ []

sums-short : (whole spelled v after : ℕ) → whole ≡ spelled + after → spelled ≤ v + 4 → v ≤ 65535 → after ≡ 0 → whole ≤ 65539
sums-short whole spelled v after a b c d = omega arith

spelling-short : (spdu : Spdu) → has_room spdu ≡ true → IsWhole spdu → length (spelling spdu) ≤ 65539
spelling-short spdu fit whole =
    let v = spelled_parameters spdu in
    let S : ℕ → Type 0 = λ n. n ≤ length v + 4 in
    sums-short _ (length (spelled (code_of spdu.kind) v)) (length v) _ (length-append (spelled (code_of spdu.kind) v) (octets_after spdu spdu.kind))
    (subst S (sym (length-spelled (code_of spdu.kind) v)) (spelled-most (length v))) (leb-true (length v) 65535 fit) (ap (λ (octets : List ℕ). length octets) whole)

more-short : (whole first rest count : ℕ) → whole ≡ first + rest → first ≤ 65539 → rest ≤ 65539 * count → whole ≤ 65539 * suc count
more-short whole first rest count a b c = grind arith

spdus-short : (all : List Spdu) → list_all has_room all ≡ true → AllByRecursion IsWhole all → length (flat_map spelling all) ≤ 65539 * length all
spdus-short [] fit whole = omega arith
spdus-short (spdu ∷ others) fit whole =
    let both = and_parts (has_room spdu) (list_all has_room others) fit in
    more-short _ (length (spelling spdu)) (length (flat_map spelling others)) (length others) (length-append (spelling spdu) (flat_map spelling others))
    (spelling-short spdu both.0 whole.0) (spdus-short others both.1 whole.1)

are-whole : (own : TokenSide) (unit : SessionSay) → is_among unit ≡ true → AllByRecursion IsWhole (spdus own unit) × (length (spdus own unit) ≤ 2)
are-whole own (say.Connect sync serial octets) e = ((refl, tt), omega arith)
are-whole own (say.Accept sync serial octets) e = ((refl, tt), omega arith)
are-whole own (say.Refuse octets) e = ((refl, tt), omega arith)
are-whole own (say.Finish octets) e = ((refl, tt), omega arith)
are-whole own (say.Finished octets) e = ((refl, tt), omega arith)
are-whole own (say.Data pass octets) e = cc
are-whole own (say.Check serial) e = ((refl, (refl, tt)), omega arith)
are-whole own (say.Acknowledge serial) e = ((refl, (refl, tt)), omega arith)
are-whole own (say.Resync kind serial token octets) e = ((refl, (refl, tt)), omega arith)
are-whole own (say.Resynced serial token octets) e = ((refl, (refl, tt)), omega arith)
are-whole own (say.Abort octets) e = ((refl, tt), omega arith)
are-whole own (say.Token to) e = ((refl, tt), omega arith)

two-short : (whole count : ℕ) → whole ≤ 65539 * count → count ≤ 2 → whole ≤ 1048576
two-short whole count a b = omega arith

among-short : (own : TokenSide) (unit : SessionSay) → is_among unit ≡ true → fits own unit ≡ true → length (tsdu_of own unit) ≤ 1048576
among-short own unit e f = let whole = are-whole own unit e in two-short _ (length (spdus own unit)) (spdus-short (spdus own unit) f whole.0) whole.1

data-length : (own : TokenSide) (octets : List ℕ) → length (tsdu_of own (say.Data false octets)) ≡ 4 + length octets
data-length own octets =
    let e : tsdu_of own (say.Data false octets) ≡ 1 ∷ 0 ∷ 1 ∷ 0 ∷ (octets ++ []) = refl in
    ap (λ (o : List ℕ). length o) e ∙ omega (arith, length-append octets [])

passing-length : (own : TokenSide) (octets : List ℕ) → length (tsdu_of own (say.Data true octets)) ≡ 7 + length octets
passing-length own octets =
    let e : tsdu_of own (say.Data true octets) ≡ 1 ∷ 3 ∷ 16 ∷ 1 ∷ 4 ∷ 1 ∷ 0 ∷ (octets ++ []) = refl in
    ap (λ (o : List ℕ). length o) e ∙ omega (arith, length-append octets [])

within-by : (count n gt : ℕ) → gt ≤ 7 → (count ≡ n) ⊎ ((count ≡ 0) × (n ≤ 1000000)) → nat_le count (1048576 - gt) ≡ true → gt + n ≤ 1048576
within-by count n gt le (inl e) t = let h = leb-true count (1048576 - gt) t in omega arith
within-by count n gt le (inr (e, few)) t = omega arith

-- Where a unit may be sent, and its octets of user data pass the test, its TSDU is within the limit;
pub tsdu-fits : (own : TokenSide) (unit : SessionSay) (count : ℕ) → (is_among unit ≡ true → fits own unit ≡ true) → Counts (parameters unit) count (length (user_data unit))
    → fits_by (parameters unit) count ≡ true → length (tsdu_of own unit) ≤ 1048576
tsdu-fits own (say.Connect sync serial octets) count f counts t = among-short own (say.Connect sync serial octets) refl (f refl)
tsdu-fits own (say.Accept sync serial octets) count f counts t = among-short own (say.Accept sync serial octets) refl (f refl)
tsdu-fits own (say.Refuse octets) count f counts t = among-short own (say.Refuse octets) refl (f refl)
tsdu-fits own (say.Finish octets) count f counts t = among-short own (say.Finish octets) refl (f refl)
tsdu-fits own (say.Finished octets) count f counts t = among-short own (say.Finished octets) refl (f refl)
tsdu-fits own (say.Data true octets) count f counts t = omega (arith, passing-length own octets, within-by count (length octets) 7 (omega arith) counts t)
tsdu-fits own (say.Data false octets) count f counts t = omega (arith, data-length own octets, within-by count (length octets) 4 (omega arith) counts t)
tsdu-fits own (say.Check serial) count f counts t = among-short own (say.Check serial) refl (f refl)
tsdu-fits own (say.Acknowledge serial) count f counts t = among-short own (say.Acknowledge serial) refl (f refl)
tsdu-fits own (say.Resync kind serial token octets) count f counts t = among-short own (say.Resync kind serial token octets) refl (f refl)
tsdu-fits own (say.Resynced serial token octets) count f counts t = among-short own (say.Resynced serial token octets) refl (f refl)
tsdu-fits own (say.Abort octets) count f counts t = among-short own (say.Abort octets) refl (f refl)
tsdu-fits own (say.Token to) count f counts t = among-short own (say.Token to) refl (f refl)

passes-by : (count n gt : ℕ) → gt ≤ 7 → (count ≡ n) ⊎ ((count ≡ 0) × (n ≤ 1000000)) → gt + n ≤ 1048576 → nat_le count (1048576 - gt) ≡ true
passes-by count n gt le (inl e) t = grind (arith, nat_tests)
passes-by count n gt le (inr (e, few)) t = grind (arith, nat_tests)

-- and the other way round.
pub fits-tsdu : (own : TokenSide) (unit : SessionSay) (count : ℕ) → Counts (parameters unit) count (length (user_data unit)) → length (tsdu_of own unit) ≤ 1048576 → fits_by (parameters unit) count ≡ true
fits-tsdu own (say.Connect sync serial octets) count counts le = refl
fits-tsdu own (say.Accept sync serial octets) count counts le = refl
fits-tsdu own (say.Refuse octets) count counts le = refl
fits-tsdu own (say.Finish octets) count counts le = refl
fits-tsdu own (say.Finished octets) count counts le = refl
fits-tsdu own (say.Data true octets) count counts le = passes-by count (length octets) 7 (omega arith) counts (omega (arith, passing-length own octets))
fits-tsdu own (say.Data false octets) count counts le = passes-by count (length octets) 4 (omega arith) counts (omega (arith, data-length own octets))
fits-tsdu own (say.Check serial) count counts le = refl
fits-tsdu own (say.Acknowledge serial) count counts le = refl
fits-tsdu own (say.Resync kind serial token octets) count counts le = refl
fits-tsdu own (say.Resynced serial token octets) count counts le = refl
fits-tsdu own (say.Abort octets) count counts le = refl
fits-tsdu own (say.Token to) count counts le = refl

-- ---- a few octets are as none

le-true : (a b : ℕ) → a ≤ b → nat_le a b ≡ true
le-true a b le = grind (arith, nat_tests)

room-enough : (n r : ℕ) → n ≤ 10240 → 10240 ≤ r → nat_le n r ≡ nat_le 0 r
room-enough n r few much = le-true n r (omega arith) ∙ sym (le-true 0 r (omega arith))

connect-few : (sync : Bool) (serial : ℕ) → connect_size sync serial ≤ 23
connect-few true serial = omega arith
connect-few false serial = omega arith

token-few : (token : Option TokenSide) → token_size token ≤ 3
token-few None = omega arith
token-few (Some side) = omega arith

connect-room : (size : ℕ) → size ≤ 23 → 10240 ≤ 65535 - 4 - size
connect-room size le = omega arith

resync-room : (gap token digits : ℕ) → gap ≤ 9 → token ≤ 3 → 10240 ≤ 65535 - gap - token - (6 - digits)
resync-room gap token digits g t = omega arith

few-none : (own : TokenSide) (offer : Bool) (s : SessionState) (p : SayParameters) (n : ℕ) → n ≤ 10240 → may_by own offer s p n ≡ may_by own offer s p 0
few-none own offer s (head.Connect sync serial) n few =
    ap (λ (t : Bool). (is_side own Initiator && is_idle s.phase && (if sync then offer else not offer) && nat_eq serial 1 && t) && nat_le n (room (head.Connect sync serial))) (room-enough n 10240 few (omega arith))
    ∙ ap (λ (t : Bool). allows own offer s (head.Connect sync serial) 0 && t) (room-enough n (room (head.Connect sync serial)) few (connect-room (connect_size sync serial) (connect-few sync serial)))
few-none own offer s (head.Accept sync serial) n few =
    ap (λ (t : Bool). allows own offer s (head.Accept sync serial) n && t) (room-enough n (room (head.Accept sync serial)) few (connect-room (connect_size sync serial) (connect-few sync serial)))
few-none own offer s head.Refuse n few = ap (λ (t : Bool). allows own offer s head.Refuse n && t) (room-enough n (room head.Refuse) few (omega arith))
few-none own offer s head.Finish n few = ap (λ (t : Bool). allows own offer s head.Finish n && t) (room-enough n (room head.Finish) few (omega arith))
few-none own offer s head.Finished n few = ap (λ (t : Bool). allows own offer s head.Finished n && t) (room-enough n (room head.Finished) few (omega arith))
few-none own offer s (head.Data pass) n few = refl
few-none own offer s (head.Check serial) n few = refl
few-none own offer s (head.Acknowledge serial) n few = refl
few-none own offer s (head.Resync kind serial token) n few =
    ap (λ (t : Bool). allows own offer s (head.Resync kind serial token) n && t)
    (room-enough n (room (head.Resync kind serial token)) few (resync-room 9 (token_size token) (leading_zeros serial) (omega arith) (token-few token)))
few-none own offer s (head.Resynced serial token) n few =
    ap (λ (t : Bool). allows own offer s (head.Resynced serial token) n && t)
    (room-enough n (room (head.Resynced serial token)) few (resync-room 6 (token_size token) (leading_zeros serial) (omega arith) (token-few token)))
few-none own offer s head.Abort n few = ap (λ (t : Bool). allows own offer s head.Abort n && t) (room-enough n (room head.Abort) few (omega arith))
few-none own offer s (head.Token to) n few = refl

counted : (own : TokenSide) (offer : Bool) (s : SessionState) (p : SayParameters) (count n : ℕ) → (count ≡ n) ⊎ ((count ≡ 0) × (n ≤ 10240)) → may_by own offer s p count ≡ may_by own offer s p n
counted own offer s p count n (inl e) = ap (may_by own offer s p) e
counted own offer s p count n (inr (e, few)) = ap (may_by own offer s p) e ∙ sym (few-none own offer s p n few)

counts-same : (own : TokenSide) (offer : Bool) (s : SessionState) (p : SayParameters) (count n : ℕ) → Counts p count n → may_by own offer s p count ≡ may_by own offer s p n
counts-same own offer s (head.Connect sync serial) count n c = counted own offer s (head.Connect sync serial) count n c
counts-same own offer s (head.Accept sync serial) count n c = counted own offer s (head.Accept sync serial) count n c
counts-same own offer s head.Refuse count n c = counted own offer s head.Refuse count n c
counts-same own offer s head.Finish count n c = counted own offer s head.Finish count n c
counts-same own offer s head.Finished count n c = counted own offer s head.Finished count n c
counts-same own offer s (head.Data pass) count n c = refl
counts-same own offer s (head.Check serial) count n c = refl
counts-same own offer s (head.Acknowledge serial) count n c = refl
counts-same own offer s (head.Resync kind serial token) count n c = counted own offer s (head.Resync kind serial token) count n c
counts-same own offer s (head.Resynced serial token) count n c = counted own offer s (head.Resynced serial token) count n c
counts-same own offer s head.Abort count n c = counted own offer s head.Abort count n c
counts-same own offer s (head.Token to) count n c = refl

-- by the parameters and the octets of a unit
may-with : (own : TokenSide) (offer : Bool) (s : SessionState) (p : SayParameters) (octets : List ℕ) → may own offer s (with_data p octets) ≡ may_by own offer s p (length octets)
may-with own offer s (head.Connect sync serial) octets = may-is own offer s (say.Connect sync serial octets)
may-with own offer s (head.Accept sync serial) octets = may-is own offer s (say.Accept sync serial octets)
may-with own offer s head.Refuse octets = may-is own offer s (say.Refuse octets)
may-with own offer s head.Finish octets = may-is own offer s (say.Finish octets)
may-with own offer s head.Finished octets = may-is own offer s (say.Finished octets)
may-with own offer s (head.Data pass) octets = may-is own offer s (say.Data pass octets)
may-with own offer s (head.Check serial) octets = may-is own offer s (say.Check serial)
may-with own offer s (head.Acknowledge serial) octets = may-is own offer s (say.Acknowledge serial)
may-with own offer s (head.Resync kind serial token) octets = may-is own offer s (say.Resync kind serial token octets)
may-with own offer s (head.Resynced serial token) octets = may-is own offer s (say.Resynced serial token octets)
may-with own offer s head.Abort octets = may-is own offer s (say.Abort octets)
may-with own offer s (head.Token to) octets = may-is own offer s (say.Token to)

abbrev pub zeros : ℕ → List ℕ
zeros zero = []
zeros (suc n) = 0 ∷ zeros n

zeros-length : (n : ℕ) → length (zeros n) ≡ n
zeros-length zero = refl
zeros-length (suc n) = omega (arith, zeros-length n)

-- where session answers for every user data of so many octets
pub may-asked : (own : TokenSide) (offer : Bool) (s : SessionState) (p : SayParameters) (count : ℕ) (test : Bool)
    → ((octets : List ℕ) → length octets ≡ count → test ≡ may own offer s (with_data p octets)) → test ≡ may_by own offer s p count
may-asked own offer s p count test asked =
    let n = zeros-length count in asked (zeros count) n ∙ may-with own offer s p (zeros count) ∙ ap (may_by own offer s p) n

-- Session may send a unit with so many octets of user data, as with those that it has.
pub may-counted : (own : TokenSide) (offer : Bool) (s : SessionState) (p : SayParameters) (count : ℕ) (octets : List ℕ) (test : Bool)
    → test ≡ may_by own offer s p count → Counts p count (length octets) → test ≡ may own offer s (with_data p octets)
may-counted own offer s p count octets test e c = e ∙ counts-same own offer s p count (length octets) c ∙ sym (may-with own offer s p octets)

-- A TSDU of a unit that is permitted fits its parameters.
pub permitted-fits : (own : TokenSide) (offer : Bool) (s : SessionState) (unit : SessionSay) (ending : Ending) → permits own offer s unit ending ≡ true → fits own unit ≡ true
permitted-fits own offer s unit Open p = (and_parts (is_allowed own offer s unit) (fits own unit) p).1
permitted-fits own offer s unit Closed p = cc
permitted-fits own offer s unit Broken p = cc
permitted-fits own offer s unit Refused p = (and_parts (is_abort unit) (fits own unit) p).1
permitted-fits own offer s unit Partly p = (and_parts (is_allowed own offer s unit) (fits own unit) p).1

-- ---- the associations of a stack

-- Session's state is that of the trace where it is asked.
permits-same : (kept : KeptExchange) (trace : Trace) (unit : SessionSay) (ending : Ending) → IsInSession kept trace ending
    → permits kept.session.side kept.session.offer kept.session.state unit ending ≡ permits kept.session.side kept.session.offer (state_of kept.session.side trace) unit ending
permits-same kept trace unit Open k = ap (λ (s : SessionState). may kept.session.side kept.session.offer s unit) (sym k.state_is)
permits-same kept trace unit Closed k = refl
permits-same kept trace unit Broken k = refl
permits-same kept trace unit Refused k = refl
permits-same kept trace unit Partly k = ap (λ (s : SessionState). may kept.session.side kept.session.offer s unit) (sym k.state_is)

pub may-associated : (kept : Kept) (a : Association) (request : Request) (test : Bool) → Represents kept a → IsTrue (stands kept.transport)
    → (IsTrue test → IsPermitted kept.exchange (unit_kept kept.exchange request) × IsSendable (side_of kept) (standing_of kept.exchange) request)
    × (IsPermitted kept.exchange (unit_kept kept.exchange request) × IsSendable (side_of kept) (standing_of kept.exchange) request → IsTrue test)
    → (IsTrue test → May (side_of kept) (offer_of kept) a request) × (May (side_of kept) (offer_of kept) a request → IsTrue test)
may-associated kept a request test rep connected may =
    let own = side_of kept in
    let offer = offer_of kept in
    let unit = unit-same kept a request rep in
    let same : permits own offer kept.exchange.session.state (unit_kept kept.exchange request) kept.exchange.ending ≡ permits own offer (state_of own a.exchange.trace) (unit_sent own a request) a.exchange.ending =
    ap (λ (ending : Ending). permits own offer kept.exchange.session.state (unit_kept kept.exchange request) ending) rep.stands.ending_is
    ∙ permits-same kept.exchange a.exchange.trace (unit_kept kept.exchange request) a.exchange.ending rep.stands.in_session
    ∙ ap (λ (u : SessionSay). permits own offer (state_of own a.exchange.trace) u a.exchange.ending) unit in
    let C : TransportKept → Type 0 = λ t. IsTrue (stands t) in
    let S : Standing → Type 0 = λ s. IsSendable own s request in
    let standing = standing-is kept.exchange a.exchange.trace rep.stands.traced in (
      λ t. let both = may.0 t in record { connected = subst C rep.stream_is connected; permitted = sym same ∙ both.0; sendable = subst S standing both.1 },
      λ m. may.1 (same ∙ m.permitted, subst S (sym standing) m.sendable),
    )

-- ---- a request by its tests

both-true : (a b : Bool) → a ≡ true → b ≡ true → (a && b) ≡ true
both-true a b e f = cc

pub may-counts : (kept : KeptExchange) (request : Request) (count : ℕ) (p : SayParameters) (permitted fit : Bool) → suits kept.state request ≡ true → IsCarried (standing_of kept) request → CountsData kept request (Some count) → p ≡ parameters (unit_kept kept request)
    → ((octets : List ℕ) → Counts p count (length octets) → permitted ≡ permits kept.session.side kept.session.offer kept.session.state (with_data p octets) kept.ending) → fit ≡ fits_by p count
    → (IsTrue (permitted && fit) → IsPermitted kept (unit_kept kept request) × IsSendable kept.session.side (standing_of kept) request)
    × (IsPermitted kept (unit_kept kept request) × IsSendable kept.session.side (standing_of kept) request → IsTrue (permitted && fit))
may-counts kept request count p permitted fit suited carried counts same asked fits_is =
    let own = kept.session.side in
    let unit = unit_kept kept request in
    let C : SayParameters → Type 0 = λ q. Counts q count (length (user_data unit)) in
    let counted : Counts p count (length (user_data unit)) = subst C (sym same) counts.1 in
    let whole : with_data p (user_data unit) ≡ unit = ap (λ (q : SayParameters). with_data q (user_data unit)) same ∙ unit-whole unit in
    let is-permitted : permitted ≡ permits own kept.session.offer kept.session.state unit kept.ending =
    asked (user_data unit) counted ∙ ap (λ (u : SessionSay). permits own kept.session.offer kept.session.state u kept.ending) whole in
    let is-fit : fit ≡ fits_by (parameters unit) count = fits_is ∙ ap (λ (q : SayParameters). fits_by q count) same in (
      λ t.
          let both = and_parts permitted fit t in
          let may = sym is-permitted ∙ both.0 in (
            may,
            record {
              suited = suited;
              carried = carried;
              is_written = counts.0;
              fits = tsdu-fits own unit count (λ among. permitted-fits own kept.session.offer kept.session.state unit kept.ending may) counts.1 (sym is-fit ∙ both.1);
            },
          ),
      λ b. both-true permitted fit (is-permitted ∙ b.0) (is-fit ∙ fits-tsdu own unit count counts.1 b.1.fits),
    )
