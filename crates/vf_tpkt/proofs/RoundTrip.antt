-- What is sent is received again.
use Rattle.std.proofs.Math.Nat.{le_refl}
use native.Mathlib.Decide.{dec_le}
use Rattle.std.proofs.Common.{◌≡◌, ℕ, zero, suc, ◌+◌, ◌-◌, ◌*◌, ◌/◌, ◌%◌, ◌≤◌, ◌<◌, true, false, List, [], ◌∷◌, ◌++◌, length, take, drop, refl, ap, sym, ◌∙◌, arith, length-drop, length-take, length-append, append_assoc, IsTrue, Result, Ok, Option, Some, None}
use Rattle.std.proofs.lemmas.Bool.Decides.{nat_tests}
use Rattle.std.proofs.lemmas.List.{take-append-drop}
use Rattle.std.proofs.Math.Seq.{take-append_seam, drop-append_seam}
use Rattle.vf_base.specs.declared.limits.TheConstants.{MOST_VALUE_OCTETS}
use Rattle.vf_tpkt.specs.declared.error.TpktError.{TpktError}
use Rattle.vf_tpkt.specs.declared.kind.Kind.{Kind}
use Rattle.vf_tpkt.specs.declared.kind.Kind.TheVariants.{Dt}
use Rattle.vf_tpkt.specs.declared.phase.Phase.{Phase}
use Rattle.vf_tpkt.specs.declared.phase.Phase.TheVariants.{First, Open, Over}
use Rattle.vf_tpkt.specs.declared.unit.Unit.TheVariants as told
use Rattle.vf_tpkt.specs.Receiving.{Progress, Kept, Reading, first_packet, whole, packet_by_size, checked, receiving, preceded, after_tpdu, after, units_of, place_at, onward, onward_from, passes_longest}
use Rattle.vf_tpkt.specs.Sending.{sent, last_dt, other_dt, is_open, ReceivesSent}
use Rattle.vf_tpkt.specs.Tpdu.{packet, may_come, has_lengths, answer_of}
use Rattle.vf_tpkt.proofs.PacketLemmas.{by_size-whole}
use Rattle.vf_tpkt.proofs.ReceivingLemmas.{receiving-first_packet, pieces, then}
use Rattle.vf_tpkt.proofs.SendingLemmas.{sent-last, sent-more}

onward-pieces-by : (kept : Kept) (fault : Option TpktError) (a b : List ℕ) → kept.fault ≡ fault → onward kept (a ++ b) ≡ then (onward kept a) b
onward-pieces-by kept None a b e =
    let whole : onward kept (a ++ b) ≡ receiving kept.connection (kept.packet ++ (a ++ b)) = ap (λ (f : Option TpktError). onward_from kept (a ++ b) f) e in
    let first_packet : onward kept a ≡ receiving kept.connection (kept.packet ++ a) = ap (λ (f : Option TpktError). onward_from kept a f) e in
    whole ∙ ap (λ (o : List ℕ). receiving kept.connection o) (sym (append_assoc kept.packet a b)) ∙ pieces kept.connection (kept.packet ++ a) b ∙ ap (λ (r : Reading). then r b) (sym first_packet)
onward-pieces-by kept (Some fault) a b e =
    let nothing : Reading = record { units = []; answers = []; kept = kept } in
    let whole : onward kept (a ++ b) ≡ nothing = ap (λ (f : Option TpktError). onward_from kept (a ++ b) f) e in
    let first_packet : onward kept a ≡ nothing = ap (λ (f : Option TpktError). onward_from kept a f) e in
    let back : onward kept b ≡ nothing = ap (λ (f : Option TpktError). onward_from kept b f) e in
    whole ∙ sym back ∙ ap (λ (r : Reading). then r b) (sym first_packet)

pub onward-pieces : (kept : Kept) (a b : List ℕ) → onward kept (a ++ b) ≡ then (onward kept a) b
onward-pieces kept a b = onward-pieces-by kept kept.fault a b refl

-- a packet that was written is the first of what follows
pub first_packet-packet : (place : ℕ) (tpdu more : List ℕ) → 3 ≤ length tpdu → length tpdu ≤ 65531 → first_packet place (packet tpdu ++ more) ≡ whole tpdu more
first_packet-packet place tpdu more low high =
    let size = length tpdu + 4 in
    let spelled : size / 256 * 256 + size % 256 ≡ size = omega arith in
    let cut : size - 4 ≡ length tpdu = omega arith in
    ap (λ (n : ℕ). packet_by_size place n (tpdu ++ more)) spelled ∙
    by_size-whole place size (tpdu ++ more) (omega arith) (omega (arith, length-append tpdu more)) ∙
    rw (cut, take-append_seam tpdu more, drop-append_seam tpdu more) refl

comes : (p : Progress) → IsTrue (is_open p.phase) → may_come p.side p.phase Dt ≡ true
comes p h = comes_in p.phase h
  where
    comes_in : (phase : Phase) → IsTrue (is_open phase) → may_come p.side phase Dt ≡ true
    comes_in (Open most) h = refl
    comes_in First h = cc
    comes_in Over h = cc

-- a DT that is sent is right where the connection stands
fits-longest : (p : Progress) (mark : ℕ) (octets : List ℕ) → length p.tsdu + length octets ≤ MOST_VALUE_OCTETS → passes_longest p Dt (2 ∷ 240 ∷ mark ∷ octets) ≡ false
fits-longest p mark octets h = grind (arith, nat_tests)

checked-last : (p : Progress) (octets : List ℕ) → IsTrue (is_open p.phase) → length p.tsdu + length octets ≤ MOST_VALUE_OCTETS → checked p (last_dt octets) ≡ Ok Dt
checked-last p octets s h =
    let sized : has_lengths Dt (last_dt octets) ≡ true = grind (arith, nat_tests) in
    rw (comes p s, sized, fits-longest p 128 octets h) refl

checked-other : (p : Progress) (octets : List ℕ) → IsTrue (is_open p.phase) → 1 ≤ length octets → length p.tsdu + length octets ≤ MOST_VALUE_OCTETS → checked p (other_dt octets) ≡ Ok Dt
checked-other p octets s some h =
    let sized : has_lengths Dt (other_dt octets) ≡ true = grind (arith, nat_tests) in
    rw (comes p s, sized, fits-longest p 0 octets h) refl

receives-packet : (p : Progress) (tpdu more : List ℕ) (kind : Kind) → 3 ≤ length tpdu → length tpdu ≤ 65531 → checked p tpdu ≡ Ok kind → receiving p (packet tpdu ++ more) ≡ preceded (units_of p kind tpdu) (answer_of kind tpdu) (receiving (after p kind tpdu) more)
receives-packet p tpdu more kind low high e =
    receiving-first_packet p (packet tpdu ++ more) ∙ rw (first_packet-packet p.place tpdu more low high) (ap (λ (r : Result Kind TpktError). after_tpdu receiving p tpdu more r) e)

place-twice : (place a b : ℕ) → place_at (place_at (place + a) + b) ≡ place_at (place + (a + b))
place-twice place a b = omega arith

-- a DT that is received, by the connection that it makes
abbrev collected : Progress → List ℕ → List ℕ → Progress
collected p tsdu octets = record { side = p.side; phase = p.phase; tsdu = tsdu; place = place_at (p.place + length octets) }

receives-last : (p : Progress) (octets more : List ℕ) → IsTrue (is_open p.phase) → length octets ≤ 65528 → length p.tsdu + length octets ≤ MOST_VALUE_OCTETS →
    receiving p (packet (last_dt octets) ++ more) ≡ preceded (told.Data (p.tsdu ++ octets) ∷ []) [] (receiving (collected p [] (packet (last_dt octets))) more)
receives-last p octets more s fits short =
    let count : length (last_dt octets) + 4 ≡ length (packet (last_dt octets)) = omega arith in
    receives-packet p (last_dt octets) more Dt (omega arith) (omega arith) (checked-last p octets s short) ∙
    ap (λ (n : ℕ). preceded (told.Data (p.tsdu ++ octets) ∷ []) [] (receiving (record { side = p.side; phase = p.phase; tsdu = []; place = place_at (p.place + n) }) more)) count

receives-other : (p : Progress) (octets more : List ℕ) → IsTrue (is_open p.phase) → 1 ≤ length octets → length octets ≤ 65528 → length p.tsdu + length octets ≤ MOST_VALUE_OCTETS →
    receiving p (packet (other_dt octets) ++ more) ≡ receiving (collected p (p.tsdu ++ octets) (packet (other_dt octets))) more
receives-other p octets more s some fits short =
    let count : length (other_dt octets) + 4 ≡ length (packet (other_dt octets)) = omega arith in
    receives-packet p (other_dt octets) more Dt (omega arith) (omega arith) (checked-other p octets s some short) ∙
    ap (λ (n : ℕ). receiving (record { side = p.side; phase = p.phase; tsdu = p.tsdu ++ octets; place = place_at (p.place + n) }) more) count

abbrev Claim : Progress → ℕ → List ℕ → List ℕ → Type 0
Claim p most tsdu more =
    IsTrue (is_open p.phase) → 1 ≤ most → most ≤ 65528 → length p.tsdu + length tsdu ≤ MOST_VALUE_OCTETS →
    receiving p (sent most tsdu ++ more) ≡ preceded (told.Data (p.tsdu ++ tsdu) ∷ []) [] (receiving (collected p [] (sent most tsdu)) more)

last-sent : (p : Progress) (most : ℕ) (tsdu more : List ℕ) → length tsdu ≤ most → Claim p most tsdu more
last-sent p most tsdu more last s some fits short =
    rw (sent-last most tsdu last) (receives-last p tsdu more s (omega arith) short)

more-sent : (p : Progress) (most : ℕ) (tsdu more : List ℕ) → most < length tsdu → ((q : Progress) → Claim q most (drop most tsdu) more) → Claim p most tsdu more
more-sent p most tsdu more long claim s some fits short =
    let first_packet = packet (other_dt (take most tsdu)) in
    let others = sent most (drop most tsdu) in
    let taken : length (take most tsdu) ≡ most = omega (arith, length-take most tsdu) in
    let left : length (drop most tsdu) ≡ length tsdu - most = length-drop most tsdu in
    let q = collected p (p.tsdu ++ take most tsdu) first_packet in
    let all : (p.tsdu ++ take most tsdu) ++ drop most tsdu ≡ p.tsdu ++ tsdu = append_assoc p.tsdu (take most tsdu) (drop most tsdu) ∙ ap (λ (t : List ℕ). p.tsdu ++ t) (take-append-drop most tsdu) in
    let spelled : sent most tsdu ≡ first_packet ++ others = sent-more most tsdu some long in
    let place : place_at (place_at (p.place + length first_packet) + length others) ≡ place_at (p.place + length (sent most tsdu)) =
    place-twice p.place (length first_packet) (length others) ∙ ap (λ (n : ℕ). place_at (p.place + n)) (sym (ap (λ (o : List ℕ). length o) spelled ∙ length-append first_packet others)) in
    ap (λ (o : List ℕ). receiving p (o ++ more)) spelled ∙
    ap (λ (o : List ℕ). receiving p o) (append_assoc first_packet others more) ∙
    receives-other p (take most tsdu) (others ++ more) s (omega arith) (omega arith) (omega arith) ∙
    claim q s some fits (omega (arith, length-append p.tsdu (take most tsdu))) ∙
    ap (λ (t : List ℕ). preceded (told.Data t ∷ []) [] (receiving (collected q [] others) more)) all ∙
    ap (λ (n : ℕ). preceded (told.Data (p.tsdu ++ tsdu) ∷ []) [] (receiving (record { side = p.side; phase = p.phase; tsdu = []; place = n }) more)) place

claims : (n : ℕ) (p : Progress) (most : ℕ) (tsdu more : List ℕ) → length tsdu ≤ n → Claim p most tsdu more
claims zero p most tsdu more bound s some fits short = last-sent p most tsdu more (omega arith) s some fits short
claims (suc n) p most tsdu more bound s some fits short = elim (dec_le (length tsdu) most) [
  | yes last ↦ last-sent p most tsdu more last s some fits short
  | no longer ↦ more-sent p most tsdu more (omega arith) (λ q. claims n q most (drop most tsdu) more (omega (arith, length-drop most tsdu))) s some fits short
]

pub sent-received : (p : Progress) (most : ℕ) (tsdu more : List ℕ) → ReceivesSent p most tsdu more
sent-received p most tsdu more s none some fits short =
    claims (length tsdu) p most tsdu more (le_refl (length tsdu)) s some fits (rw none (omega arith)) ∙ rw none refl
