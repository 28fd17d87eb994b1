-- The beginning of a stream, by the tests that the code makes.
use Rattle.std.proofs.Common.{◌≡◌, ℕ, zero, suc, ◌+◌, ◌-◌, ◌*◌, ◌<◌, ◌≤◌, List, [], ◌∷◌, ◌++◌, length, take, drop, get_or, refl, ◌∙◌, arith, length-drop, length-append, Bool, true, false, cond, nat_lt, nat_eq}
use native.Mathlib.Decide.{dec_le}
use Rattle.std.proofs.lemmas.Bool.Decides.{nat_tests}
use Rattle.std.proofs.lemmas.List.{take_all, drop_all}
use Rattle.vf_tpkt.specs.declared.error.TpktError.{TpktError}
use Rattle.vf_tpkt.specs.declared.error.TpktError.TheVariants as errors
use Rattle.vf_tpkt.specs.Receiving.{FirstPacket, part, bad, whole, first_packet, packet_reserved, packet_sized, packet_by_size, place_at}
use Rattle.vf_tpkt.specs.Steps.{FitsOne, WantsSome, size_in}

-- a header of four octets that is right so far
pub first_packet-sized : (place : ℕ) (o : List ℕ) → 4 ≤ length o → get_or o 0 0 ≡ 3 → get_or o 1 0 ≡ 0 → first_packet place o ≡ packet_by_size place (size_in o) (drop 4 o)
first_packet-sized place [] h d e = absurd (omega arith)
first_packet-sized place (v ∷ []) h d e = absurd (omega arith)
first_packet-sized place (v ∷ r ∷ []) h d e = absurd (omega arith)
first_packet-sized place (v ∷ r ∷ high ∷ []) h d e = absurd (omega arith)
first_packet-sized place (v ∷ r ∷ high ∷ low ∷ o) h d e = grind (arith, nat_tests)

pub by_size-part : (place size : ℕ) (more : List ℕ) → 7 ≤ size → length more < size - 4 → packet_by_size place size more ≡ part
by_size-part place size more h e = grind (arith, nat_tests)

pub by_size-whole : (place size : ℕ) (more : List ℕ) → 7 ≤ size → size - 4 ≤ length more → packet_by_size place size more ≡ whole (take (size - 4) more) (drop (size - 4) more)
by_size-whole place size more h e = grind (arith, nat_tests)

pub size_in-append : (o more : List ℕ) → 4 ≤ length o → size_in (o ++ more) ≡ size_in o
size_in-append [] more h = absurd (omega arith)
size_in-append (v ∷ []) more h = absurd (omega arith)
size_in-append (v ∷ r ∷ []) more h = absurd (omega arith)
size_in-append (v ∷ r ∷ high ∷ []) more h = absurd (omega arith)
size_in-append (v ∷ r ∷ high ∷ low ∷ o) more h = refl

-- A header of four octets that is right: what the packet lacks is wanted.
pub wants-rest : (place count : ℕ) (o : List ℕ) → 4 ≤ length o → get_or o 0 0 ≡ 3 → get_or o 1 0 ≡ 0 → 7 ≤ size_in o → FitsOne o → count ≡ size_in o - length o → WantsSome place o count
wants-rest place zero o h d e s f n =
    let same : length o ≡ size_in o = elim (dec_le (length o) 4) [ yes p ↦ omega arith | no p ↦ omega (arith, f (omega arith)) ] in
    let all : length (drop 4 o) ≡ size_in o - 4 = omega (arith, length-drop 4 o) in
    first_packet-sized place o h d e ∙ by_size-whole place (size_in o) (drop 4 o) s (omega arith) ∙ rw (take_all (size_in o - 4) (drop 4 o) (omega arith), drop_all (size_in o - 4) (drop 4 o) (omega arith)) refl
wants-rest place (suc count) o h d e s f n = (
  first_packet-sized place o h d e ∙ by_size-part place (size_in o) (drop 4 o) s (omega (arith, length-drop 4 o)),
  λ more fits long. rw (size_in-append o more h) (omega (arith, length-append o more)),
)

-- less than a packet is shorter than the greatest length
part_by_size : (b c : Bool) (fault : TpktError) (x y : List ℕ) → cond b (bad fault) (cond c part (whole x y)) ≡ part → c ≡ true
part_by_size true c fault x y h = cc
part_by_size false true fault x y h = refl
part_by_size false false fault x y h = cc

part-chosen : (b : Bool) (F : FirstPacket) (fault : TpktError) → cond b F (bad fault) ≡ part → F ≡ part
part-chosen true F fault h = h
part-chosen false F fault h = cc

sized-part : (place : ℕ) (o : List ℕ) → get_or o 0 0 < 256 → get_or o 1 0 < 256 → packet_sized place o ≡ part → length o < 65534
sized-part place [] a b h = omega arith
sized-part place (high ∷ []) a b h = omega arith
sized-part place (high ∷ low ∷ o) a b h =
    let size = high * 256 + low in
    let less : nat_lt (length o) (size - 4) ≡ true = part_by_size (nat_lt size 7) (nat_lt (length o) (size - 4)) (errors.Length (place_at (place + 3))) (take (size - 4) o) (drop (size - 4) o) h in
    let lt : length o < size - 4 = grind (arith, nat_tests) in
    omega arith

pub part-short : (place : ℕ) (o : List ℕ) → ((i : ℕ) → get_or o i 0 < 256) → first_packet place o ≡ part → length o ≤ 65535
part-short place [] b h = omega arith
part-short place (v ∷ []) b h = omega arith
part-short place (v ∷ r ∷ o) b h =
    let reserved : packet_reserved place (r ∷ o) ≡ part = part-chosen (nat_eq v 3) (packet_reserved place (r ∷ o)) (errors.Version (place_at place)) h in
    let sized : packet_sized place o ≡ part = part-chosen (nat_eq r 0) (packet_sized place o) (errors.Version (place_at (place + 1))) reserved in
    omega (arith, sized-part place o (b 2) (b 3) sized)
