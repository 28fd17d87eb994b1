-- The reading of a stream doesn't depend on the number of turns, nor on how the stream is cut.
use Rattle.std.proofs.Common.{◌≡◌, ℕ, zero, suc, ◌+◌, ◌-◌, ◌*◌, ◌<◌, ◌≤◌, Bool, true, false, cond, nat_lt, nat_eq, List, [], ◌∷◌, ◌++◌, length, take, drop, refl, ap, sym, ◌∙◌, arith, Result, Ok, Err, length-drop, length-append, append_assoc}
use Rattle.std.proofs.Math.Nat.{le_refl}
use Rattle.std.proofs.lemmas.Bool.Decides.{nat_tests}
use Rattle.std.proofs.lemmas.List.{take-append-le, drop-append-le}
use Rattle.vf_tpkt.specs.declared.error.TpktError.{TpktError}
use Rattle.vf_tpkt.specs.declared.error.TpktError.TheVariants as errors
use Rattle.vf_tpkt.specs.declared.kind.Kind.{Kind}
use Rattle.vf_tpkt.specs.declared.unit.Unit.{Unit as Told}
use Rattle.vf_tpkt.specs.Receiving.{Progress, FirstPacket, part, bad, whole, first_packet, packet_reserved, packet_sized, packet_by_size, Reading, preceded, after_tpdu, after_first_packet, receiving_in, receiving, checked, after, units_of, onward, place_at}
use Rattle.vf_tpkt.specs.Tpdu.{answer_of}
use Rattle.vf_tpkt.proofs.PacketLemmas.{by_size-whole}

-- a test that chooses a fault stands before and after an extension
along : (b : Bool) (F F' E X X' : FirstPacket) → cond b F E ≡ X → (F ≡ X → F' ≡ X') → (E ≡ X → E ≡ X') → cond b F' E ≡ X'
along true F F' E X X' h f e = f h
along false F F' E X X' h f e = e h

pub record IsWhole (size : ℕ) (o tpdu more : List ℕ) : Type 0 where
  pub enough : 7 ≤ size
  pub fits : size - 4 ≤ length o
  pub tpdu_is : take (size - 4) o ≡ tpdu
  pub rest_is : drop (size - 4) o ≡ more

chosen : (b c : Bool) (e : TpktError) (x y tpdu more : List ℕ) → cond b (bad e) (cond c part (whole x y)) ≡ whole tpdu more → (b ≡ false) × (c ≡ false) × (x ≡ tpdu) × (y ≡ more)
chosen true c e x y tpdu more h = cc
chosen false true e x y tpdu more h = cc
chosen false false e x y tpdu more h = (refl, refl, cc, cc)

pub is_whole : (place size : ℕ) (o tpdu more : List ℕ) → packet_by_size place size o ≡ whole tpdu more → IsWhole size o tpdu more
is_whole place size o tpdu more h =
    let c = chosen (nat_lt size 7) (nat_lt (length o) (size - 4)) (errors.Length (place_at (place + 3))) (take (size - 4) o) (drop (size - 4) o) tpdu more h in
    let large : nat_lt size 7 ≡ false = c.0 in
    let long : nat_lt (length o) (size - 4) ≡ false = c.1 in
    record { enough = grind (arith, nat_tests); fits = grind (arith, nat_tests); tpdu_is = c.2; rest_is = c.3 }

chosen-bad : (b c : Bool) (e f : TpktError) (x y : List ℕ) → cond b (bad e) (cond c part (whole x y)) ≡ bad f → (b ≡ true) × (e ≡ f)
chosen-bad true c e f x y h = (refl, cc)
chosen-bad false true e f x y h = cc
chosen-bad false false e f x y h = cc

-- what stands after a packet is shorter
along-shorter : (b : Bool) (F : FirstPacket) (e : TpktError) (tpdu more : List ℕ) (n : ℕ) → cond b F (bad e) ≡ whole tpdu more → (F ≡ whole tpdu more → length more < n) → length more < n
along-shorter true F e tpdu more n h f = f h
along-shorter false F e tpdu more n h f = cc

sized-shorter : (place : ℕ) (o tpdu more : List ℕ) → packet_sized place o ≡ whole tpdu more → length more < length o
sized-shorter place [] tpdu more h = cc
sized-shorter place (high ∷ []) tpdu more h = cc
sized-shorter place (high ∷ low ∷ o) tpdu more h =
    let w = is_whole place (high * 256 + low) o tpdu more h in
    let rest = ap length w.rest_is in
    omega (arith, length-drop (high * 256 + low - 4) o)

reserved-shorter : (place : ℕ) (o tpdu more : List ℕ) → packet_reserved place o ≡ whole tpdu more → length more < length o
reserved-shorter place [] tpdu more h = cc
reserved-shorter place (r ∷ o) tpdu more h =
    along-shorter (nat_eq r 0) (packet_sized place o) (errors.Version (place_at (place + 1))) tpdu more (length (r ∷ o)) h (λ e. omega (arith, sized-shorter place o tpdu more e))

pub first_packet-shorter : (place : ℕ) (o tpdu more : List ℕ) → first_packet place o ≡ whole tpdu more → length more < length o
first_packet-shorter place [] tpdu more h = cc
first_packet-shorter place (v ∷ o) tpdu more h =
    along-shorter (nat_eq v 3) (packet_reserved place o) (errors.Version (place_at place)) tpdu more (length (v ∷ o)) h (λ e. omega (arith, reserved-shorter place o tpdu more e))

-- a whole packet is the same one, whatever follows
sized-whole : (place : ℕ) (o x tpdu more : List ℕ) → packet_sized place o ≡ whole tpdu more → packet_sized place (o ++ x) ≡ whole tpdu (more ++ x)
sized-whole place [] x tpdu more h = cc
sized-whole place (high ∷ []) x tpdu more h = cc
sized-whole place (high ∷ low ∷ o) x tpdu more h =
    let size = high * 256 + low in
    let w = is_whole place size o tpdu more h in
    by_size-whole place size (o ++ x) w.enough (omega (arith, w.fits, length-append o x)) ∙
    rw (take-append-le (size - 4) o x w.fits, drop-append-le (size - 4) o x w.fits, w.tpdu_is, w.rest_is) refl

reserved-whole : (place : ℕ) (o x tpdu more : List ℕ) → packet_reserved place o ≡ whole tpdu more → packet_reserved place (o ++ x) ≡ whole tpdu (more ++ x)
reserved-whole place [] x tpdu more h = cc
reserved-whole place (r ∷ o) x tpdu more h =
    along (nat_eq r 0) (packet_sized place o) (packet_sized place (o ++ x)) (bad (errors.Version (place_at (place + 1)))) (whole tpdu more) (whole tpdu (more ++ x)) h (sized-whole place o x tpdu more) (λ e. cc)

pub first_packet-whole : (place : ℕ) (o x tpdu more : List ℕ) → first_packet place o ≡ whole tpdu more → first_packet place (o ++ x) ≡ whole tpdu (more ++ x)
first_packet-whole place [] x tpdu more h = cc
first_packet-whole place (v ∷ o) x tpdu more h =
    along (nat_eq v 3) (packet_reserved place o) (packet_reserved place (o ++ x)) (bad (errors.Version (place_at place))) (whole tpdu more) (whole tpdu (more ++ x)) h (reserved-whole place o x tpdu more) (λ e. cc)

-- a wrong header stays wrong, whatever follows
sized-bad : (place : ℕ) (o x : List ℕ) (fault : TpktError) → packet_sized place o ≡ bad fault → packet_sized place (o ++ x) ≡ bad fault
sized-bad place [] x fault h = cc
sized-bad place (high ∷ []) x fault h = cc
sized-bad place (high ∷ low ∷ o) x fault h =
    let size = high * 256 + low in
    let c = chosen-bad (nat_lt size 7) (nat_lt (length o) (size - 4)) (errors.Length (place_at (place + 3))) fault (take (size - 4) o) (drop (size - 4) o) h in
    rw (c.0, c.1) refl

reserved-bad : (place : ℕ) (o x : List ℕ) (fault : TpktError) → packet_reserved place o ≡ bad fault → packet_reserved place (o ++ x) ≡ bad fault
reserved-bad place [] x fault h = cc
reserved-bad place (r ∷ o) x fault h =
    along (nat_eq r 0) (packet_sized place o) (packet_sized place (o ++ x)) (bad (errors.Version (place_at (place + 1)))) (bad fault) (bad fault) h (sized-bad place o x fault) (λ e. e)

pub first_packet-bad : (place : ℕ) (o x : List ℕ) (fault : TpktError) → first_packet place o ≡ bad fault → first_packet place (o ++ x) ≡ bad fault
first_packet-bad place [] x fault h = cc
first_packet-bad place (v ∷ o) x fault h =
    along (nat_eq v 3) (packet_reserved place o) (packet_reserved place (o ++ x)) (bad (errors.Version (place_at place))) (bad fault) (bad fault) h (reserved-bad place o x fault) (λ e. e)

-- the number of turns
after_tpdu-same : (others others' : Progress → List ℕ → Reading) (p : Progress) (tpdu more : List ℕ) (r : Result Kind TpktError) → ((q : Progress) → others q more ≡ others' q more) → after_tpdu others p tpdu more r ≡ after_tpdu others' p tpdu more r
after_tpdu-same others others' p tpdu more (Err fault) h = refl
after_tpdu-same others others' p tpdu more (Ok kind) h = ap (λ (r : Reading). preceded (units_of p kind tpdu) (answer_of kind tpdu) r) (h (after p kind tpdu))

after_first_packet-same : (others others' : Progress → List ℕ → Reading) (p : Progress) (o : List ℕ) (f : FirstPacket) → ((tpdu more : List ℕ) → f ≡ whole tpdu more → (q : Progress) → others q more ≡ others' q more) → after_first_packet others p o f ≡ after_first_packet others' p o f
after_first_packet-same others others' p o part h = refl
after_first_packet-same others others' p o (bad fault) h = refl
after_first_packet-same others others' p o (whole tpdu more) h = after_tpdu-same others others' p tpdu more (checked p tpdu) (h tpdu more refl)

receiving_in-enough : (n m : ℕ) (p : Progress) (o : List ℕ) → length o ≤ n → length o ≤ m → receiving_in n p o ≡ receiving_in m p o
unfolding receiving_in
receiving_in-enough zero zero p o a b = refl
receiving_in-enough zero (suc m) p [] a b = refl
receiving_in-enough zero (suc m) p (x ∷ o) a b = absurd (omega arith)
receiving_in-enough (suc n) zero p [] a b = refl
receiving_in-enough (suc n) zero p (x ∷ o) a b = absurd (omega arith)
receiving_in-enough (suc n) (suc m) p o a b =
    after_first_packet-same (receiving_in n) (receiving_in m) p o (first_packet p.place o)
    (λ tpdu more e q. let shorter = first_packet-shorter p.place o tpdu more e in receiving_in-enough n m q more (omega arith) (omega arith))

pub receiving-first_packet : (p : Progress) (o : List ℕ) → receiving p o ≡ after_first_packet receiving p o (first_packet p.place o)
unfolding receiving_in
receiving-first_packet p [] = refl
receiving-first_packet p (x ∷ o) =
    after_first_packet-same (receiving_in (length o)) receiving p (x ∷ o) (first_packet p.place (x ∷ o))
    (λ tpdu more e q. let shorter = first_packet-shorter p.place (x ∷ o) tpdu more e in receiving_in-enough (length o) (length more) q more (omega arith) (omega arith))

-- a reading, and then that of what follows
abbrev pub then : Reading → List ℕ → Reading
then r piece = preceded r.units r.answers (onward r.kept piece)

pub preceded-twice : (us vs : List Told) (bs cs : List ℕ) (r : Reading) → preceded us bs (preceded vs cs r) ≡ preceded (us ++ vs) (bs ++ cs) r
preceded-twice us vs bs cs r = rw (append_assoc us vs r.units, append_assoc bs cs r.answers) refl

tpdu-then : (p : Progress) (tpdu more b : List ℕ) (r : Result Kind TpktError) → ((q : Progress) → receiving q (more ++ b) ≡ then (receiving q more) b) → after_tpdu receiving p tpdu (more ++ b) r ≡ then (after_tpdu receiving p tpdu more r) b
tpdu-then p tpdu more b (Err fault) h = refl
tpdu-then p tpdu more b (Ok kind) h =
    let q = after p kind tpdu in
    let r = receiving q more in
    ap (λ (r : Reading). preceded (units_of p kind tpdu) (answer_of kind tpdu) r) (h q) ∙ preceded-twice (units_of p kind tpdu) r.units (answer_of kind tpdu) r.answers (onward r.kept b)

first_packet-then : (p : Progress) (a b : List ℕ) (f : FirstPacket) → first_packet p.place a ≡ f → ((tpdu more : List ℕ) → f ≡ whole tpdu more → (q : Progress) → receiving q (more ++ b) ≡ then (receiving q more) b) → receiving p (a ++ b) ≡ then (after_first_packet receiving p a f) b
first_packet-then p a b part e h = refl
first_packet-then p a b (bad fault) e h = receiving-first_packet p (a ++ b) ∙ rw (first_packet-bad p.place a b fault e) refl
first_packet-then p a b (whole tpdu more) e h =
    receiving-first_packet p (a ++ b) ∙ rw (first_packet-whole p.place a b tpdu more e) (tpdu-then p tpdu more b (checked p tpdu) (h tpdu more refl))

pieces_in : (n : ℕ) (p : Progress) (a b : List ℕ) → length a ≤ n → receiving p (a ++ b) ≡ then (receiving p a) b
unfolding receiving_in
pieces_in zero p [] b h = refl
pieces_in zero p (x ∷ a) b h = absurd (omega arith)
pieces_in (suc n) p a b h =
    let split = first_packet-then p a b (first_packet p.place a) refl (λ tpdu more e q. let shorter = first_packet-shorter p.place a tpdu more e in pieces_in n q more b (omega arith)) in
    split ∙ ap (λ (r : Reading). then r b) (sym (receiving-first_packet p a))

-- A stream is what one part of it and then the rest tell.
pub pieces : (p : Progress) (a b : List ℕ) → receiving p (a ++ b) ≡ then (receiving p a) b
pieces p a b = pieces_in (length a) p a b (le_refl (length a))
