-- As few octets as a packet lacks: the last of them alone tells something, or one that ends receiving.
use Rattle.std.proofs.Common.{◌≡◌, ◌≤◌, ◌<◌, ◌-◌, ◌+◌, ◌*◌, ℕ, zero, suc, Bool, true, false, cond, nat_eq, nat_lt, List, [], ◌∷◌, ◌++◌, length, take, drop, refl, ap, sym, subst, ◌∙◌, append-nil, length-append, arith, Ok, Err, inl, inr}
use Rattle.std.proofs.Math.Nat.{le_refl}
use Rattle.std.proofs.lemmas.Bool.Decides.{nat_tests}
use Rattle.vf_session.specs.declared.units.TokenSide.{TokenSide}
use Rattle.vf_stack.specs.Association.{Association, end_of, is_ended}
use Rattle.vf_stack.specs.Few.{FewTellLast, IsLast, IsStill, TellsLast, lengthened}
use Rattle.vf_stack.specs.Receiving.{Fed, nothing_fed, octets_received, piece_received}
use Rattle.vf_stack.specs.Represents.{Kept, side_of}
use Rattle.vf_tpkt.specs.Receiving.{FirstPacket, Kept as TransportKept, Progress, Reading, after, after_first_packet, after_tpdu, bad, beginning, checked, first_packet, onward, packet_by_size, packet_reserved, part, place_at, receiving_in, whole}
use Rattle.vf_tpkt.specs.Steps.{FitsOne}
use Rattle.vf_tpkt.specs.Wanting.{IsSilent as TellsNothing, TellsOnce, lacking}
use Rattle.vf_tpkt.specs.declared.error.TpktError.{TpktError}
use Rattle.vf_tpkt.specs.declared.error.TpktError.TheVariants as errors
use Rattle.vf_tpkt.proofs.ReceivingLemmas.{first_packet-shorter}
use Rattle.vf_tpkt.proofs.StreamLemmas.{receives-reads}
use Rattle.vf_tpkt.proofs.WantLemmas.{tells-once_at}
use Rattle.vf_stack.proofs.OctetLemmas.{Cut, Cuts, cuts-few, cuts-moved, fault-piece, kept_of, octets-ended, still-piece, with_others}
use Rattle.vf_stack.proofs.PieceLemmas.{as_fed, piece-ended}

-- ---- the octets, by where receiving has ended

-- receiving has ended with the first of them
ending-last : (own : TokenSide) (a : Association) (octet : ℕ) (later : List ℕ)
    → is_ended (piece_received own a (octet ∷ [])).association.exchange.ending ≡ true → IsLast own a octet later
ending-last own a octet later e =
    let first = piece_received own a (octet ∷ []) in
    let over : octets_received own first.association later ≡ nothing_fed first.association = octets-ended own first.association later e in
    record {
      last = inr e;
      whole = ap (λ (rest : Fed). as_fed (first.indications ++ rest.indications) (first.answers ++ rest.answers) rest.association) over
          ∙ rw (append-nil first.indications, append-nil first.answers) refl;
    }

-- no other comes after it
only-last : (own : TokenSide) (a : Association) (octet : ℕ) (later : List ℕ) → later ≡ [] → IsLast own a octet later
only-last own a octet later none =
    let first = piece_received own a (octet ∷ []) in
    let P : List ℕ → Type 0 = λ rest. octets_received own a (octet ∷ rest) ≡ first in
    record { last = inl none; whole = subst P (sym none) (rw (append-nil first.indications, append-nil first.answers) refl) }

still-first : (own : TokenSide) (a : Association) (octet : ℕ) (later : List ℕ) → is_ended a.exchange.ending ≡ false → TellsNothing (onward (kept_of own a) (octet ∷ [])) → IsStill own a octet later
still-first own a octet later goes silent =
    let one = still-piece own a (octet ∷ []) goes silent in
    record { goes = goes; nothing = one; others = ap (with_others own later) one }

last-by : (own : TokenSide) (a : Association) (octet : ℕ) (later : List ℕ) (b : Bool) → is_ended a.exchange.ending ≡ b → Cut (kept_of own a) (octet ∷ []) later
    → (TellsNothing (onward (kept_of own a) (octet ∷ [])) → TellsLast own (lengthened a (octet ∷ [])) later)
    → TellsLast own a (octet ∷ later)
last-by own a octet later true e cut rest = inr (ending-last own a octet later (ap (λ (f : Fed). is_ended f.association.exchange.ending) (piece-ended own a (octet ∷ []) e) ∙ e))
last-by own a octet later false e (inl silent) rest = inl (still-first own a octet later e silent, rest silent)
last-by own a octet later false e (inr (inl none)) rest = inr (only-last own a octet later none)
last-by own a octet later false e (inr (inr faulty)) rest = inr (ending-last own a octet later (fault-piece own a (octet ∷ []) faulty.0 false e faulty.1))

tells-last : (own : TokenSide) (octets : List ℕ) (a : Association) → Cuts (kept_of own a) octets → TellsLast own a octets
tells-last own [] a cuts = tt
tells-last own (octet ∷ later) a cuts =
    last-by own a octet later (is_ended a.exchange.ending) refl (cuts (octet ∷ []) later refl)
    (λ silent. tells-last own later (lengthened a (octet ∷ [])) (cuts-moved own a octet later silent cuts))

-- ---- the packet that has begun

-- What is kept is the beginning of a packet, and none after a fault.
abbrev pub IsBegun : TransportKept → Type 0
IsBegun kept = first_packet kept.connection.place kept.packet ≡ part

begun-tpdu : (others : Progress → List ℕ → Reading) (p : Progress) (tpdu more : List ℕ) → ((q : Progress) → IsBegun (others q more).kept) → IsBegun (after_tpdu others p tpdu more (checked p tpdu)).kept
begun-tpdu others p tpdu more h =
    elim (checked p tpdu) as (λ r. IsBegun (after_tpdu others p tpdu more r).kept) [ Err fault ↦ refl | Ok kind ↦ h (after p kind tpdu) ]

begun-first : (others : Progress → List ℕ → Reading) (p : Progress) (o : List ℕ) (f : FirstPacket) → first_packet p.place o ≡ f
    → ((tpdu more : List ℕ) → f ≡ whole tpdu more → (q : Progress) → IsBegun (others q more).kept) → IsBegun (after_first_packet others p o f).kept
begun-first others p o part e h = e
begun-first others p o (bad fault) e h = refl
begun-first others p o (whole tpdu more) e h = begun-tpdu others p tpdu more (h tpdu more refl)

begun-in : (turns : ℕ) (p : Progress) (o : List ℕ) → length o ≤ turns → IsBegun (receiving_in turns p o).kept
unfolding receiving_in
begun-in zero p [] few = refl
begun-in zero p (x ∷ o) few = absurd (omega arith)
begun-in (suc turns) p o few =
    begun-first (receiving_in turns) p o (first_packet p.place o) refl
    (λ tpdu more e q. let shorter = first_packet-shorter p.place o tpdu more e in begun-in turns q more (omega arith))

begun : (own : TokenSide) (a : Association) → IsBegun (kept_of own a)
begun own a =
    let side = end_of own in
    let K : Reading → Type 0 = λ r. IsBegun r.kept in
    subst K (receives-reads side a.stream) (begun-in (length a.stream) (beginning side) a.stream (le_refl (length a.stream)))

chosen-part : (b : Bool) (f : FirstPacket) (fault : TpktError) → cond b f (bad fault) ≡ part → f ≡ part
chosen-part true f fault e = e
chosen-part false f fault e = cc

short-part : (b c : Bool) (fault : TpktError) (x y : List ℕ) → cond b (bad fault) (cond c part (whole x y)) ≡ part → c ≡ true
short-part true c fault x y e = cc
short-part false true fault x y e = refl
short-part false false fault x y e = cc

-- a packet of which more comes than its header lacks less than its length
fits-more : (place : ℕ) (packet more : List ℕ) → first_packet place packet ≡ part → length more ≤ lacking packet → FitsOne (packet ++ more)
fits-more place [] more e few = λ long. absurd (omega arith)
fits-more place (v ∷ []) more e few = λ long. absurd (omega arith)
fits-more place (v ∷ r ∷ []) more e few = λ long. absurd (omega arith)
fits-more place (v ∷ r ∷ high ∷ []) more e few = λ long. absurd (omega arith)
fits-more place (v ∷ r ∷ high ∷ low ∷ o) more e few =
    let size = high * 256 + low in
    let reserved = chosen-part (nat_eq v 3) (packet_reserved place (r ∷ high ∷ low ∷ o)) (errors.Version (place_at place)) e in
    let sized = chosen-part (nat_eq r 0) (packet_by_size place size o) (errors.Version (place_at (place + 1))) reserved in
    let less : nat_lt (length o) (size - 4) ≡ true =
    short-part (nat_lt size 7) (nat_lt (length o) (size - 4)) (errors.Length (place_at (place + 3))) (take (size - 4) o) (drop (size - 4) o) sized in
    let short : length o < size - 4 = grind (arith, nat_tests) in
    let begun : nat_lt (length (v ∷ r ∷ high ∷ low ∷ o)) 4 ≡ false = grind (arith, nat_tests) in
    let lacks : length more ≤ size - length (v ∷ r ∷ high ∷ low ∷ o) = rw begun at few in
    let whole : length ((v ∷ r ∷ high ∷ low ∷ o) ++ more) ≤ size = omega (arith, length-append (v ∷ r ∷ high ∷ low ∷ o) more) in
    λ long. whole

-- ---- as few as it lacks

once-lacking : (own : TokenSide) (a : Association) → TellsOnce (kept_of own a) (lacking (kept_of own a).packet)
once-lacking own a =
    let k = kept_of own a in
    tells-once_at k k k.packet (lacking k.packet) refl refl (λ more few. fits-more k.connection.place k.packet more (begun own a) few)

pub few-last : (kept : Kept) (a : Association) (octets : List ℕ) → FewTellLast kept a octets
few-last kept a octets represents few =
    let own = side_of kept in
    let k = kept_of own a in
    let few' : length octets ≤ lacking k.packet = subst (λ (t : TransportKept). length octets ≤ lacking t.packet) represents.stream_is few in
    tells-last own octets a (cuts-few k (lacking k.packet) octets (once-lacking own a) few')
