-- What wants so many octets tells one thing at most of them.
use Rattle.std.proofs.Common.{◌≡◌, ℕ, ◌+◌, ◌-◌, ◌*◌, ◌<◌, ◌≤◌, Bool, true, false, cond, nat_eq, List, [], ◌∷◌, ◌++◌, length, refl, ap, sym, subst, ◌∙◌, arith, Option, None, Some, inl, inr, ◌⊎◌, length-drop, length-append, append_assoc}
use Rattle.vf_tpkt.specs.Receiving.{Kept, FirstPacket, part, bad, whole, first_packet, packet_by_size, Reading, resting, stopping, receiving, onward, onward_from, place_at}
use Rattle.vf_tpkt.specs.Steps.{FitsOne, size_in}
use Rattle.vf_tpkt.specs.Wanting.{IsSilent, TellsOnce}
use Rattle.vf_tpkt.specs.declared.error.TpktError.{TpktError}
use Rattle.vf_tpkt.specs.declared.error.TpktError.TheVariants as errors
use Rattle.vf_tpkt.proofs.ReceivingLemmas.{receiving-first_packet, is_whole}

good : (b : Bool) (F : FirstPacket) (e : TpktError) (tpdu more : List ℕ) → cond b F (bad e) ≡ whole tpdu more → F ≡ whole tpdu more
good true F e tpdu more h = h
good false F e tpdu more h = cc

part-whole : (tpdu more : List ℕ) → part ≡ whole tpdu more → ⊥
part-whole tpdu more h = cc

-- of a packet at the first_packet of octets
sizes : (place : ℕ) (o tpdu more : List ℕ) → first_packet place o ≡ whole tpdu more → (length more + size_in o ≡ length o) × (4 < length o)
sizes place [] tpdu more h = cc
sizes place (v ∷ []) tpdu more h = absurd (part-whole tpdu more (good (nat_eq v 3) part (errors.Version (place_at place)) tpdu more h))
sizes place (v ∷ r ∷ []) tpdu more h =
    absurd (part-whole tpdu more (good (nat_eq r 0) part (errors.Version (place_at (place + 1))) tpdu more (good (nat_eq v 3) (cond (nat_eq r 0) part (bad (errors.Version (place_at (place + 1))))) (errors.Version (place_at place)) tpdu more h)))
sizes place (v ∷ r ∷ high ∷ []) tpdu more h =
    absurd (part-whole tpdu more (good (nat_eq r 0) part (errors.Version (place_at (place + 1))) tpdu more (good (nat_eq v 3) (cond (nat_eq r 0) part (bad (errors.Version (place_at (place + 1))))) (errors.Version (place_at place)) tpdu more h)))
sizes place (v ∷ r ∷ high ∷ low ∷ o) tpdu more h =
    let size = high * 256 + low in
    let sized = good (nat_eq r 0) (packet_by_size place size o) (errors.Version (place_at (place + 1))) tpdu more (good (nat_eq v 3) (cond (nat_eq r 0) (packet_by_size place size o) (bad (errors.Version (place_at (place + 1))))) (errors.Version (place_at place)) tpdu more h) in
    let w = is_whole place size o tpdu more sized in
    let rest = ap length w.rest_is in
    (omega (arith, length-drop (size - 4) o, w.fits, w.enough), omega (arith, w.fits, w.enough))

none-left : (xs : List ℕ) → length xs ≤ 0 → xs ≡ []
none-left [] h = refl
none-left (x ∷ xs) h = absurd (omega arith)

same-size : (o b : List ℕ) → 4 < length o → size_in (o ++ b) ≡ size_in o
same-size [] b h = absurd (omega arith)
same-size (v ∷ []) b h = absurd (omega arith)
same-size (v ∷ r ∷ []) b h = absurd (omega arith)
same-size (v ∷ r ∷ high ∷ []) b h = absurd (omega arith)
same-size (v ∷ r ∷ high ∷ low ∷ o) b h = refl

all-taken : (place : ℕ) (o b tpdu more : List ℕ) → FitsOne (o ++ b) → first_packet place o ≡ whole tpdu more → (more ≡ []) × (b ≡ [])
all-taken place o b tpdu more fits h =
    let s = sizes place o tpdu more h in
    let long : 4 < length (o ++ b) = omega (arith, length-append o b, s.1) in
    let most = fits long in
    let same = same-size o b s.1 in
    (none-left more (omega (arith, length-append o b, s.0, most, same)), none-left b (omega (arith, length-append o b, s.0, most, same)))

by-first_packet : (k : Kept) (a b : List ℕ) (f : FirstPacket) → k.fault ≡ None → first_packet k.connection.place (k.packet ++ a) ≡ f
    → ((tpdu more : List ℕ) → f ≡ whole tpdu more → (more ≡ []) × (b ≡ []))
    → IsSilent (onward k a) ⊎ ((b ≡ []) ⊎ ((fault : TpktError) × ((onward k a).kept.fault ≡ Some fault)))
by-first_packet k a b part e h fits =
    let start : onward k a ≡ receiving k.connection (k.packet ++ a) = ap (λ (f : Option TpktError). onward_from k a f) e in
    let rest : onward k a ≡ resting k.connection (k.packet ++ a) = start ∙ receiving-first_packet k.connection (k.packet ++ a) ∙ rw h refl in
    inl (record { units = ap (λ (r : Reading). r.units) rest; answers = ap (λ (r : Reading). r.answers) rest; fault = ap (λ (r : Reading). r.kept.fault) rest })
by-first_packet k a b (bad fault) e h fits =
    let start : onward k a ≡ receiving k.connection (k.packet ++ a) = ap (λ (f : Option TpktError). onward_from k a f) e in
    let stop : onward k a ≡ stopping k.connection fault = start ∙ receiving-first_packet k.connection (k.packet ++ a) ∙ rw h refl in
    inr (inr (fault, ap (λ (r : Reading). r.kept.fault) stop))
by-first_packet k a b (whole tpdu more) e h fits = let all = fits tpdu more refl in inr (inl all.1)

-- what `wanted` promises of a packet is enough
pub tells-once : (k : Kept) (most : ℕ) → k.fault ≡ None → ((more : List ℕ) → length more ≤ most → FitsOne (k.packet ++ more)) → TellsOnce k most
tells-once k most e fits = λ a b h.
    let same = append_assoc k.packet a b in
    let one : FitsOne ((k.packet ++ a) ++ b) = subst FitsOne (sym same) (fits (a ++ b) h) in
    by-first_packet k a b (first_packet k.connection.place (k.packet ++ a)) e refl (λ tpdu more w. all-taken k.connection.place (k.packet ++ a) b tpdu more one w)

-- after a fault nothing is told any more
spent : (k : Kept) (most : ℕ) (fault : TpktError) → k.fault ≡ Some fault → TellsOnce k most
spent k most fault e = λ a b h. inr (inr (fault, ap (λ (f : Option TpktError). (onward_from k a f).kept.fault) e ∙ e))

by-fault : (k : Kept) (most : ℕ) (f : Option TpktError) → k.fault ≡ f → ((more : List ℕ) → length more ≤ most → FitsOne (k.packet ++ more)) → TellsOnce k most
by-fault k most None e fits = tells-once k most e fits
by-fault k most (Some fault) e fits = spent k most fault e

pub tells-once_at : (k view : Kept) (packet : List ℕ) (most : ℕ) → view ≡ k → packet ≡ view.packet → ((more : List ℕ) → length more ≤ most → FitsOne (packet ++ more)) → TellsOnce k most
tells-once_at k view packet most e p fits =
    let P : List ℕ → Type 0 = λ o. (more : List ℕ) → length more ≤ most → FitsOne (o ++ more) in
    by-fault k most k.fault refl (subst P (p ∙ ap (λ (k : Kept). k.packet) e) fits)
