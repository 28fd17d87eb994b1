-- The reading by what a connection is, and the reading by all that it received.
use Rattle.std.proofs.Common.{◌≡◌, ℕ, zero, suc, ◌+◌, ◌-◌, ◌*◌, ◌/◌, ◌%◌, ◌≤◌, ◌<◌, Bool, true, false, cond, ◌||◌, nat_eq, List, [], ◌∷◌, ◌++◌, length, take, drop, get_or, slice_index, refl, ap, sym, subst, ◌∙◌, arith, length-take, length-append, append_assoc, append-nil, is_ok, nat_lt, Option, Result, Ok, Err, Some, None, inl, inr}
use Rattle.std.proofs.lemmas.Bool.Decides.{nat_tests}
use Rattle.std.proofs.lemmas.Grind.{flat_map-append}
use Rattle.std.proofs.lemmas.List.{take-append-drop, drop-drop}
use Rattle.std.proofs.Math.Bool.{or-false, or-true, or_assoc}
use Rattle.std.specs.List.{list_any, flat_map}
use Rattle.vf_tpkt.specs.declared.error.TpktError.{TpktError}
use Rattle.vf_tpkt.specs.declared.error.TpktError.TheVariants as errors
use Rattle.vf_tpkt.specs.declared.kind.Kind.{Kind}
use Rattle.vf_tpkt.specs.declared.kind.Kind.TheVariants.{Cr, Cc, Dr, Er, Dt}
use Rattle.vf_tpkt.specs.declared.phase.Side.{Side}
use Rattle.vf_tpkt.specs.declared.phase.Side.TheVariants.{Calling, Called}
use Rattle.vf_tpkt.specs.declared.phase.Phase.{Phase}
use Rattle.vf_tpkt.specs.declared.phase.Phase.TheVariants.{Open, Over}
use Rattle.vf_tpkt.specs.Receiving.{Progress, FirstPacket, part, bad, whole, first_packet, packet_reserved, packet_sized, Reading, checked, after, units_of, place_at, after_first_packet, after_tpdu, receiving, receives, preceded}
use Rattle.vf_tpkt.specs.Stream.{IsTpdu, code_of, is_cr, is_dt, is_end, ends_tsdu, most_by, phase_of, unended, connection_of, units_told, unit_of, answer, listed, tpdus_in, tpdus, right_after, rest_after, error_of, fault_of, kept_by, kept_after, reading, Ends, Holds, HoldsTpdus}
use Rattle.vf_tpkt.specs.Tpdu.{kind_of, packet, data_of, is_last, data_size, proposal, answer_of, may_come, may_be_first, may_follow}
use Rattle.vf_tpkt.proofs.CheckLemmas.{right, kind-is}
use Rattle.vf_tpkt.proofs.ReceivingLemmas.{IsWhole, is_whole, receiving-first_packet, first_packet-shorter}
use Rattle.std.proofs.Math.Nat.{le_refl}

code-cr : (c : ℕ) → kind_of c ≡ Some Cr → c ≡ 224
code-cr c h = grind (arith, nat_tests)

code-cc : (c : ℕ) → kind_of c ≡ Some Cc → c ≡ 208
code-cc c h = grind (arith, nat_tests)

code-dr : (c : ℕ) → kind_of c ≡ Some Dr → c ≡ 128
code-dr c h = grind (arith, nat_tests)

code-er : (c : ℕ) → kind_of c ≡ Some Er → c ≡ 112
code-er c h = grind (arith, nat_tests)

code-dt : (c : ℕ) → kind_of c ≡ Some Dt → c ≡ 240
code-dt c h = grind (arith, nat_tests)

-- the filters, with one more TPDU
any-snoc : (p : List ℕ → Bool) (ts : List (List ℕ)) (t : List ℕ) → list_any p (ts ++ t ∷ []) ≡ (list_any p ts || p t)
any-snoc p [] t = or-false (p t)
any-snoc p (x ∷ ts) t = ap (λ (b : Bool). p x || b) (any-snoc p ts t) ∙ sym (or_assoc (p x) (list_any p ts) (p t))

phase-same : (ts : List (List ℕ)) (t : List ℕ) (most : ℕ) → is_end t ≡ false → phase_of ts ≡ Open most → phase_of (ts ++ t ∷ []) ≡ phase_of ts
phase-same [] t most e h = cc
phase-same (x ∷ ts) t most e h = rw (any-snoc is_end ts t, e, or-false (list_any is_end ts)) refl

phase-over : (ts : List (List ℕ)) (t : List ℕ) (most : ℕ) → is_end t ≡ true → phase_of ts ≡ Open most → phase_of (ts ++ t ∷ []) ≡ Over
phase-over [] t most e h = cc
phase-over (x ∷ ts) t most e h = rw (any-snoc is_end ts t, e, or-true (list_any is_end ts)) refl

unended-last : (ts : List (List ℕ)) (t : List ℕ) → ends_tsdu t ≡ true → unended (ts ++ t ∷ []) ≡ []
unended-last [] t e = rw e refl
unended-last (x ∷ ts) t e = rw (any-snoc ends_tsdu ts t, e, or-true (list_any ends_tsdu ts), or-true (ends_tsdu x)) (unended-last ts t e)

added : (b d : Bool) (octets us vs more : List ℕ) → us ≡ vs ++ more → cond b us (cond d (octets ++ us) us) ≡ cond b vs (cond d (octets ++ vs) vs) ++ more
added true d octets us vs more e = e
added false true octets us vs more e = ap (λ (o : List ℕ). octets ++ o) e ∙ sym (append_assoc octets vs more)
added false false octets us vs more e = e

unended-other : (ts : List (List ℕ)) (t more : List ℕ) → ends_tsdu t ≡ false → unended (t ∷ []) ≡ more → unended (ts ++ t ∷ []) ≡ unended ts ++ more
unended-other [] t more e h = h
unended-other (x ∷ ts) t more e h =
    rw (any-snoc ends_tsdu ts t, e, or-false (list_any ends_tsdu ts))
    (added (list_any ends_tsdu (x ∷ ts)) (is_dt x) (data_of x) (unended (ts ++ t ∷ [])) (unended ts) more (unended-other ts t more e h))

module _ (side : Side) (before : List (List ℕ)) (tpdu : List ℕ) where
  came : (kind : Kind) → checked (connection_of side before) tpdu ≡ Ok kind → may_come side (phase_of before) kind ≡ true
  came kind h = (right (connection_of side before) tpdu kind h).comes

  of_kind : (kind : Kind) → checked (connection_of side before) tpdu ≡ Ok kind → kind_of (code_of tpdu) ≡ Some kind
  of_kind kind h = kind-is (connection_of side before) tpdu (kind_of (slice_index tpdu 1)) kind h

  place-after : place_at (place_at (length (flat_map packet before)) + (length tpdu + 4)) ≡ place_at (length (flat_map packet (before ++ tpdu ∷ [])))
  place-after =
      let all : length (flat_map packet (before ++ tpdu ∷ [])) ≡ length (flat_map packet before) + length (packet tpdu ++ []) =
      ap (λ (o : List ℕ). length o) (flat_map-append packet before (tpdu ∷ [])) ∙ length-append (flat_map packet before) (packet tpdu ++ []) in
      let one : length (packet tpdu ++ []) ≡ length tpdu + 4 = ap (λ (o : List ℕ). length o) (append-nil (packet tpdu)) ∙ omega arith in
      omega arith

-- which kind may come first, and which after another
first-only : (side : Side) (over : Bool) (most : ℕ) (kind : Kind) → may_follow kind ≡ false → may_come side (cond over Over (Open most)) kind ≡ true → ⊥
first-only side true most kind f h = cc
first-only side false most kind f h = cc

first : (side : Side) (before : List (List ℕ)) (kind : Kind) → may_follow kind ≡ false → may_come side (phase_of before) kind ≡ true → before ≡ []
first side [] kind f h = refl
first side (x ∷ ts) kind f h = absurd (first-only side (list_any is_end ts) (most_by x) kind f h)

stands-at : (side : Side) (over : Bool) (most : ℕ) (kind : Kind) → may_come side (cond over Over (Open most)) kind ≡ true → cond over Over (Open most) ≡ Open most
stands-at side true most kind h = cc
stands-at side false most kind h = refl

standing : (side : Side) (before : List (List ℕ)) (kind : Kind) → may_be_first side kind ≡ false → may_come side (phase_of before) kind ≡ true → (most : ℕ) × (phase_of before ≡ Open most)
standing side [] kind f h = cc
standing side (x ∷ ts) kind f h = (most_by x, stands-at side (list_any is_end ts) (most_by x) kind h)

dt-later : (side : Side) → may_be_first side Dt ≡ false
dt-later Calling = refl
dt-later Called = refl

dr-later : (side : Side) → may_be_first side Dr ≡ false
dr-later Calling = refl
dr-later Called = refl

er-later : (side : Side) → may_be_first side Er ≡ false
er-later Calling = refl
er-later Called = refl

same-progress : (side : Side) (phase phase' : Phase) (tsdu tsdu' : List ℕ) (place place' : ℕ) → phase ≡ phase' → tsdu ≡ tsdu' → place ≡ place' →
    ◌≡◌ {A = Progress} (record { side = side; phase = phase; tsdu = tsdu; place = place }) (record { side = side; phase = phase'; tsdu = tsdu'; place = place' })
same-progress side phase phase' tsdu tsdu' place place' a b c = rw (a, b, c) refl

tsdu-dt : (before : List (List ℕ)) (tpdu : List ℕ) (last : Bool) → is_dt tpdu ≡ true → is_last tpdu ≡ last → cond last [] (unended before ++ data_of tpdu) ≡ unended (before ++ tpdu ∷ [])
tsdu-dt before tpdu true d e = sym (unended-last before tpdu (rw (d, e) refl))
tsdu-dt before tpdu false d e = sym (unended-other before tpdu (data_of tpdu) (rw (d, e) refl) (rw (d, e) (append-nil (data_of tpdu))))

tsdu-other : (before : List (List ℕ)) (tpdu : List ℕ) → is_dt tpdu ≡ false → unended before ≡ unended (before ++ tpdu ∷ [])
tsdu-other before tpdu d = sym (unended-other before tpdu [] (rw d refl) (rw d refl) ∙ append-nil (unended before))

module _ (side : Side) (before : List (List ℕ)) (tpdu : List ℕ) where
  after-is : (kind : Kind) → checked (connection_of side before) tpdu ≡ Ok kind → after (connection_of side before) kind tpdu ≡ connection_of side (before ++ tpdu ∷ [])
  after-is Cr h =
      let code = code-cr (code_of tpdu) (of_kind side before tpdu Cr h) in
      let none : before ≡ [] = first side before Cr refl (came side before tpdu Cr h) in
      let d : is_dt tpdu ≡ false = rw code refl in
      let cr : is_cr tpdu ≡ true = rw code refl in
      same-progress side (Open (data_size (proposal tpdu))) (phase_of (before ++ tpdu ∷ [])) (unended before) (unended (before ++ tpdu ∷ [])) _ _
      (rw (none, cr) refl) (tsdu-other before tpdu d) (place-after side before tpdu)
  after-is Cc h =
      let code = code-cc (code_of tpdu) (of_kind side before tpdu Cc h) in
      let none : before ≡ [] = first side before Cc refl (came side before tpdu Cc h) in
      let d : is_dt tpdu ≡ false = rw code refl in
      let cr : is_cr tpdu ≡ false = rw code refl in
      same-progress side (Open (data_size None)) (phase_of (before ++ tpdu ∷ [])) (unended before) (unended (before ++ tpdu ∷ [])) _ _
      (rw (none, cr) refl) (tsdu-other before tpdu d) (place-after side before tpdu)
  after-is Dr h =
      let code = code-dr (code_of tpdu) (of_kind side before tpdu Dr h) in
      let stands = standing side before Dr (dr-later side) (came side before tpdu Dr h) in
      let d : is_dt tpdu ≡ false = rw code refl in
      let end : is_end tpdu ≡ true = rw code refl in
      same-progress side Over (phase_of (before ++ tpdu ∷ [])) (unended before) (unended (before ++ tpdu ∷ [])) _ _
      (sym (phase-over before tpdu stands.0 end stands.1)) (tsdu-other before tpdu d) (place-after side before tpdu)
  after-is Er h =
      let code = code-er (code_of tpdu) (of_kind side before tpdu Er h) in
      let stands = standing side before Er (er-later side) (came side before tpdu Er h) in
      let d : is_dt tpdu ≡ false = rw code refl in
      let end : is_end tpdu ≡ true = rw code refl in
      same-progress side Over (phase_of (before ++ tpdu ∷ [])) (unended before) (unended (before ++ tpdu ∷ [])) _ _
      (sym (phase-over before tpdu stands.0 end stands.1)) (tsdu-other before tpdu d) (place-after side before tpdu)
  after-is Dt h =
      let code = code-dt (code_of tpdu) (of_kind side before tpdu Dt h) in
      let stands = standing side before Dt (dt-later side) (came side before tpdu Dt h) in
      let d : is_dt tpdu ≡ true = rw code refl in
      let end : is_end tpdu ≡ false = rw code refl in
      same-progress side (phase_of before) (phase_of (before ++ tpdu ∷ [])) (cond (is_last tpdu) [] (unended before ++ data_of tpdu)) (unended (before ++ tpdu ∷ [])) _ _
      (sym (phase-same before tpdu stands.0 end stands.1)) (tsdu-dt before tpdu (is_last tpdu) d refl) (place-after side before tpdu)

  units-are : (kind : Kind) → checked (connection_of side before) tpdu ≡ Ok kind → units_of (connection_of side before) kind tpdu ≡ unit_of before tpdu
  units-are Cr h = let code = code-cr (code_of tpdu) (of_kind side before tpdu Cr h) in rw code refl
  units-are Cc h = let code = code-cc (code_of tpdu) (of_kind side before tpdu Cc h) in rw code refl
  units-are Dr h = let code = code-dr (code_of tpdu) (of_kind side before tpdu Dr h) in rw code refl
  units-are Er h = let code = code-er (code_of tpdu) (of_kind side before tpdu Er h) in rw code refl
  units-are Dt h = let code = code-dt (code_of tpdu) (of_kind side before tpdu Dt h) in rw code refl

  answer-is : (kind : Kind) → checked (connection_of side before) tpdu ≡ Ok kind → answer_of kind tpdu ≡ answer tpdu
  answer-is Cr h = let code = code-cr (code_of tpdu) (of_kind side before tpdu Cr h) in rw code refl
  answer-is Cc h = let code = code-cc (code_of tpdu) (of_kind side before tpdu Cc h) in rw code refl
  answer-is Dr h = let code = code-dr (code_of tpdu) (of_kind side before tpdu Dr h) in rw code refl
  answer-is Er h = let code = code-er (code_of tpdu) (of_kind side before tpdu Er h) in rw code refl
  answer-is Dt h = let code = code-dt (code_of tpdu) (of_kind side before tpdu Dt h) in rw code refl

-- a whole packet before is the packet of its TPDU
IsOctets : List ℕ → Type 0
IsOctets o = (i : ℕ) → get_or o i 0 < 256

chosen-whole : (b : Bool) (F : FirstPacket) (fault : TpktError) (tpdu more : List ℕ) → cond b F (bad fault) ≡ whole tpdu more → (b ≡ true) × (F ≡ whole tpdu more)
chosen-whole true F fault tpdu more h = (refl, h)
chosen-whole false F fault tpdu more h = cc

joined : (n : ℕ) (o tpdu more : List ℕ) → take n o ≡ tpdu → drop n o ≡ more → o ≡ tpdu ++ more
joined n o tpdu more a b = rw (← a, ← b) (sym (take-append-drop n o))

spelled : (high low : ℕ) (rest tpdu more : List ℕ) → high < 256 → low < 256 → IsWhole (high * 256 + low) rest tpdu more → (3 ∷ 0 ∷ high ∷ low ∷ rest ≡ packet tpdu ++ more) × IsTpdu tpdu
spelled high low rest tpdu more a b w =
    let size = high * 256 + low in
    let count : length tpdu ≡ size - 4 = ap (λ (o : List ℕ). length o) (sym w.tpdu_is) ∙ length-take (size - 4) rest ∙ omega (arith, w.fits) in
    let whole : length tpdu + 4 ≡ size = omega (arith, w.enough) in
    let top : size / 256 ≡ high = omega arith in
    let bottom : size % 256 ≡ low = omega arith in
    let rests : rest ≡ tpdu ++ more = joined (size - 4) rest tpdu more w.tpdu_is w.rest_is in
    (rw (whole, top, bottom, rests) refl, (omega (arith, w.enough), omega arith))

spelled-sized : (place : ℕ) (o tpdu more : List ℕ) → get_or o 0 0 < 256 → get_or o 1 0 < 256 → packet_sized place o ≡ whole tpdu more → (3 ∷ 0 ∷ o ≡ packet tpdu ++ more) × IsTpdu tpdu
spelled-sized place [] tpdu more a b h = cc
spelled-sized place (high ∷ []) tpdu more a b h = cc
spelled-sized place (high ∷ low ∷ rest) tpdu more a b h = spelled high low rest tpdu more a b (is_whole place (high * 256 + low) rest tpdu more h)

whole-packet : (place : ℕ) (o tpdu more : List ℕ) → IsOctets o → first_packet place o ≡ whole tpdu more → (o ≡ packet tpdu ++ more) × IsTpdu tpdu
unfolding IsOctets
whole-packet place [] tpdu more b h = cc
whole-packet place (v ∷ []) tpdu more b h = let c = chosen-whole (nat_eq v 3) (packet_reserved place []) _ tpdu more h in cc
whole-packet place (v ∷ r ∷ o) tpdu more b h =
    let c = chosen-whole (nat_eq v 3) (packet_reserved place (r ∷ o)) _ tpdu more h in
    let d = chosen-whole (nat_eq r 0) (packet_sized place o) _ tpdu more c.1 in
    let ct : nat_eq v 3 ≡ true = c.0 in
    let dt : nat_eq r 0 ≡ true = d.0 in
    let three : v ≡ 3 = grind (arith, nat_tests) in
    let none : r ≡ 0 = grind (arith, nat_tests) in
    let s = spelled-sized place o tpdu more (b 2) (b 3) d.1 in
    (rw (three, none) s.0, s.1)

octets-after : (prefix more : List ℕ) → IsOctets (prefix ++ more) → IsOctets more
unfolding IsOctets
octets-after [] more b = b
octets-after (x ∷ prefix) more b = octets-after prefix more (λ i. b (suc i))

abbrev Found : Side → List (List ℕ) → List ℕ → Reading → Type 0
Found side before stream r = (tpdus : List (List ℕ)) × (rest : List ℕ) × Holds side before stream tpdus rest r

none-found : (side : Side) (before : List (List ℕ)) (stream : List ℕ) (r : Reading) → r.units ≡ [] → r.answers ≡ [] → Ends (connection_of side before) stream r.kept → Found side before stream r
none-found side before stream r u a e =
    ([], stream, record { octets = refl; right = tt; units = u; answers = a; ends = rw (append-nil before) e })

more-found : (side : Side) (before : List (List ℕ)) (stream tpdu more : List ℕ) (kind : Kind) → stream ≡ packet tpdu ++ more → IsTpdu tpdu → checked (connection_of side before) tpdu ≡ Ok kind →
    Found side (before ++ tpdu ∷ []) more (receiving (connection_of side (before ++ tpdu ∷ [])) more) →
    Found side before stream (preceded (units_of (connection_of side before) kind tpdu) (answer_of kind tpdu) (receiving (after (connection_of side before) kind tpdu) more))
more-found side before stream tpdu more kind e is h f =
    let g = f.2 in
    let P : Progress → Type 0 = λ q. Found side before stream (preceded (units_of (connection_of side before) kind tpdu) (answer_of kind tpdu) (receiving q more)) in
    subst P (sym (after-is side before tpdu kind h)) (
      tpdu ∷ f.0,
      f.1,
      record {
        octets = e ∙ ap (λ (o : List ℕ). packet tpdu ++ o) g.octets ∙ sym (append_assoc (packet tpdu) (flat_map packet f.0) f.1);
        right = (is, ap (λ (r : Result Kind TpktError). is_ok r) h, g.right);
        units = rw (units-are side before tpdu kind h, g.units) refl;
        answers = rw (answer-is side before tpdu kind h, g.answers) refl;
        ends = rw (← append_assoc before (tpdu ∷ []) f.0) g.ends;
      },
    )

tpdu-found : (side : Side) (before : List (List ℕ)) (stream tpdu more : List ℕ) (r : Result Kind TpktError) → stream ≡ packet tpdu ++ more → IsTpdu tpdu → checked (connection_of side before) tpdu ≡ r →
    Found side (before ++ tpdu ∷ []) more (receiving (connection_of side (before ++ tpdu ∷ [])) more) →
    Found side before stream (after_tpdu receiving (connection_of side before) tpdu more r)
tpdu-found side before stream tpdu more (Ok kind) e is h f = more-found side before stream tpdu more kind e is h f
tpdu-found side before stream tpdu more (Err fault) e is h f =
    none-found side before stream _ refl refl (inr (fault, inr (tpdu, more, is, e, h), refl))

first_packet-found : (side : Side) (before : List (List ℕ)) (stream : List ℕ) (f : FirstPacket) → IsOctets stream → first_packet (connection_of side before).place stream ≡ f →
    ((tpdu more : List ℕ) → f ≡ whole tpdu more → IsOctets more → Found side (before ++ tpdu ∷ []) more (receiving (connection_of side (before ++ tpdu ∷ [])) more)) →
    Found side before stream (after_first_packet receiving (connection_of side before) stream f)
first_packet-found side before stream part b e h = none-found side before stream _ refl refl (inl (e, refl))
first_packet-found side before stream (bad fault) b e h = none-found side before stream _ refl refl (inr (fault, inl e, refl))
first_packet-found side before stream (whole tpdu more) b e h =
    let s = whole-packet (connection_of side before).place stream tpdu more b e in
    tpdu-found side before stream tpdu more (checked (connection_of side before) tpdu) s.0 s.1 refl
    (h tpdu more refl (octets-after (packet tpdu) more (rw s.0 at b)))

found : (n : ℕ) (side : Side) (before : List (List ℕ)) (stream : List ℕ) → length stream ≤ n → IsOctets stream → Found side before stream (receiving (connection_of side before) stream)
found zero side before (x ∷ stream) bound b = absurd (omega arith)
found zero side before [] bound b =
    let P : Reading → Type 0 = λ r. Found side before [] r in
    subst P (sym (receiving-first_packet (connection_of side before) [])) (first_packet-found side before [] part b refl (λ tpdu more e. cc))
found (suc n) side before stream bound b =
    let P : Reading → Type 0 = λ r. Found side before stream r in
    let p = connection_of side before in
    subst P (sym (receiving-first_packet p stream))
    (first_packet-found side before stream (first_packet p.place stream) b refl (λ tpdu more e bs. let shorter = first_packet-shorter p.place stream tpdu more e in found n side (before ++ tpdu ∷ []) more (omega arith) bs))

-- ---- the list of TPDUs

-- the TPDU of a whole packet, and the octets after it
abbrev packet_in : FirstPacket → Option (List ℕ × List ℕ)
packet_in part = None
packet_in (bad fault) = None
packet_in (whole tpdu more) = Some (tpdu, more)

sized-same : (place : ℕ) (o : List ℕ) → packet_in (packet_sized place o) ≡ packet_in (packet_sized 0 o)
sized-same place [] = refl
sized-same place (high ∷ []) = refl
sized-same place (high ∷ low ∷ o) =
    elim (nat_lt (high * 256 + low) 7) as (λ b. packet_in (cond b (bad (errors.Length (place_at (place + 3)))) (cond (nat_lt (length o) (high * 256 + low - 4)) part (whole (take (high * 256 + low - 4) o) (drop (high * 256 + low - 4) o)))) ≡ packet_in (cond b (bad (errors.Length (place_at (0 + 3)))) (cond (nat_lt (length o) (high * 256 + low - 4)) part (whole (take (high * 256 + low - 4) o) (drop (high * 256 + low - 4) o)))))
    [ true ↦ refl | false ↦ refl ]

chosen-same : (b : Bool) (F F' : FirstPacket) (e e' : TpktError) → packet_in F ≡ packet_in F' → packet_in (cond b F (bad e)) ≡ packet_in (cond b F' (bad e'))
chosen-same true F F' e e' h = h
chosen-same false F F' e e' h = refl

reserved-same : (place : ℕ) (o : List ℕ) → packet_in (packet_reserved place o) ≡ packet_in (packet_reserved 0 o)
reserved-same place [] = refl
reserved-same place (r ∷ o) = chosen-same (nat_eq r 0) (packet_sized place o) (packet_sized 0 o) _ _ (sized-same place o)

packet-same : (place : ℕ) (o : List ℕ) → packet_in (first_packet place o) ≡ packet_in (first_packet 0 o)
packet-same place [] = refl
packet-same place (v ∷ o) = chosen-same (nat_eq v 3) (packet_reserved place o) (packet_reserved 0 o) _ _ (reserved-same place o)

abbrev listed_in : (List ℕ → List (List ℕ)) → Option (List ℕ × List ℕ) → List (List ℕ)
listed_in others None = []
listed_in others (Some p) = p.0 ∷ others p.1

listed-is : (others : List ℕ → List (List ℕ)) (f : FirstPacket) → listed others f ≡ listed_in others (packet_in f)
listed-is others part = refl
listed-is others (bad fault) = refl
listed-is others (whole tpdu more) = refl

listed-at : (others : List ℕ → List (List ℕ)) (place : ℕ) (o : List ℕ) → listed others (first_packet 0 o) ≡ listed others (first_packet place o)
listed-at others place o =
    listed-is others (first_packet 0 o) ∙ sym (ap (listed_in others) (packet-same place o)) ∙ sym (listed-is others (first_packet place o))

listed-same : (others others' : List ℕ → List (List ℕ)) (f : FirstPacket) → ((tpdu more : List ℕ) → f ≡ whole tpdu more → others more ≡ others' more) → listed others f ≡ listed others' f
listed-same others others' part h = refl
listed-same others others' (bad fault) h = refl
listed-same others others' (whole tpdu more) h = ap (λ (ts : List (List ℕ)). tpdu ∷ ts) (h tpdu more refl)

tpdus_in-enough : (n m : ℕ) (o : List ℕ) → length o ≤ n → length o ≤ m → tpdus_in n o ≡ tpdus_in m o
unfolding tpdus_in
tpdus_in-enough zero zero o a b = refl
tpdus_in-enough zero (suc m) [] a b = refl
tpdus_in-enough zero (suc m) (x ∷ o) a b = absurd (omega arith)
tpdus_in-enough (suc n) zero [] a b = refl
tpdus_in-enough (suc n) zero (x ∷ o) a b = absurd (omega arith)
tpdus_in-enough (suc n) (suc m) o a b =
    listed-same (tpdus_in n) (tpdus_in m) (first_packet 0 o)
    (λ tpdu more e. let shorter = first_packet-shorter 0 o tpdu more e in tpdus_in-enough n m more (omega arith) (omega arith))

tpdus-are : (place : ℕ) (o : List ℕ) → tpdus o ≡ listed tpdus (first_packet place o)
unfolding tpdus_in
tpdus-are place [] = refl
tpdus-are place (x ∷ o) =
    listed-same (tpdus_in (length o)) tpdus (first_packet 0 (x ∷ o))
    (λ tpdu more e. let shorter = first_packet-shorter 0 (x ∷ o) tpdu more e in tpdus_in-enough (length o) (length more) more (omega arith) (omega arith))
    ∙ listed-at tpdus place (x ∷ o)

-- the octets after a packet
sized-rest : (place : ℕ) (o tpdu more : List ℕ) → packet_sized place o ≡ whole tpdu more → drop (suc (suc (length tpdu))) o ≡ more
sized-rest place [] tpdu more h = cc
sized-rest place (high ∷ []) tpdu more h = cc
sized-rest place (high ∷ low ∷ o) tpdu more h =
    let w = is_whole place (high * 256 + low) o tpdu more h in
    let count : length tpdu ≡ high * 256 + low - 4 = ap (λ (o : List ℕ). length o) (sym w.tpdu_is) ∙ length-take (high * 256 + low - 4) o ∙ omega (arith, w.fits) in
    ap (λ (n : ℕ). drop n o) count ∙ w.rest_is

packet-rest : (place : ℕ) (o tpdu more : List ℕ) → first_packet place o ≡ whole tpdu more → drop (suc (suc (suc (suc (length tpdu))))) o ≡ more
packet-rest place [] tpdu more h = cc
packet-rest place (v ∷ []) tpdu more h = let c = chosen-whole (nat_eq v 3) (packet_reserved place []) _ tpdu more h in cc
packet-rest place (v ∷ r ∷ o) tpdu more h =
    let c = chosen-whole (nat_eq v 3) (packet_reserved place (r ∷ o)) _ tpdu more h in
    let d = chosen-whole (nat_eq r 0) (packet_sized place o) _ tpdu more c.1 in
    sized-rest place o tpdu more d.1

rest-more : (place : ℕ) (o tpdu more : List ℕ) (ts : List (List ℕ)) → first_packet place o ≡ whole tpdu more → rest_after (tpdu ∷ ts) o ≡ rest_after ts more
rest-more place o tpdu more ts h =
    let all : length (packet tpdu ++ flat_map packet ts) ≡ suc (suc (suc (suc (length tpdu)))) + length (flat_map packet ts) = length-append (packet tpdu) (flat_map packet ts) ∙ omega arith in
    ap (λ (n : ℕ). drop n o) all ∙ sym (drop-drop (length (flat_map packet ts)) (suc (suc (suc (suc (length tpdu))))) o)
    ∙ ap (λ (o : List ℕ). drop (length (flat_map packet ts)) o) (packet-rest place o tpdu more h)

-- the reading of what follows TPDUs without fault
abbrev reading_on : Side → List (List ℕ) → List ℕ → List (List ℕ) → Reading
reading_on side before stream right =
    record { units = units_told before right; answers = flat_map answer right; kept = kept_after side (before ++ right) (rest_after right stream) }

abbrev reading_from : Side → List (List ℕ) → List ℕ → List (List ℕ) → Reading
reading_from side before stream ts = reading_on side before stream (right_after side before ts)

none-right : (side : Side) (before : List (List ℕ)) (stream : List ℕ) (f : FirstPacket) (fault : Option TpktError) → first_packet (connection_of side before).place stream ≡ f → fault_of (connection_of side before) f ≡ fault
    → reading_on side before stream [] ≡ record { units = []; answers = []; kept = kept_by (connection_of side before) stream fault }
none-right side before stream f fault e g =
    rw (append-nil before, e, g) refl

module _ (side : Side) (before : List (List ℕ)) (stream tpdu more : List ℕ) where
  one-right : (kind : Kind) → first_packet (connection_of side before).place stream ≡ whole tpdu more → checked (connection_of side before) tpdu ≡ Ok kind
      → reading_from side before stream (tpdu ∷ tpdus more) ≡ preceded (unit_of before tpdu) (answer tpdu) (reading_from side (before ++ tpdu ∷ []) more (tpdus more))
  one-right kind e h =
      let ok : is_ok (checked (connection_of side before) tpdu) ≡ true = ap (λ (r : Result Kind TpktError). is_ok r) h in
      let right = right_after side (before ++ tpdu ∷ []) (tpdus more) in
      ap (λ (b : Bool). reading_on side before stream (cond b (tpdu ∷ right) [])) ok
      ∙ rw (← append_assoc before (tpdu ∷ []) right, rest-more (connection_of side before).place stream tpdu more right e) refl

  tpdu-reads : (r : Result Kind TpktError) → first_packet (connection_of side before).place stream ≡ whole tpdu more → checked (connection_of side before) tpdu ≡ r
      → receiving (connection_of side (before ++ tpdu ∷ [])) more ≡ reading_from side (before ++ tpdu ∷ []) more (tpdus more)
      → after_tpdu receiving (connection_of side before) tpdu more r ≡ reading_from side before stream (tpdu ∷ tpdus more)
  tpdu-reads (Err fault) e h others =
      let bad : is_ok (checked (connection_of side before) tpdu) ≡ false = ap (λ (r : Result Kind TpktError). is_ok r) h in
      sym (
      ap (λ (b : Bool). reading_on side before stream (cond b (tpdu ∷ right_after side (before ++ tpdu ∷ []) (tpdus more)) [])) bad
      ∙ none-right side before stream (whole tpdu more) (Some fault) e (ap error_of h)
      )
  tpdu-reads (Ok kind) e h others =
      ap (λ (q : Progress). preceded (units_of (connection_of side before) kind tpdu) (answer_of kind tpdu) (receiving q more)) (after-is side before tpdu kind h)
      ∙ rw (units-are side before tpdu kind h, answer-is side before tpdu kind h, others) refl
      ∙ sym (one-right kind e h)

packet-reads : (side : Side) (before : List (List ℕ)) (stream : List ℕ) (f : FirstPacket) → first_packet (connection_of side before).place stream ≡ f →
    ((tpdu more : List ℕ) → f ≡ whole tpdu more → receiving (connection_of side (before ++ tpdu ∷ [])) more ≡ reading_from side (before ++ tpdu ∷ []) more (tpdus more)) →
    after_first_packet receiving (connection_of side before) stream f ≡ reading_from side before stream (listed tpdus f)
packet-reads side before stream part e h = sym (none-right side before stream part None e refl)
packet-reads side before stream (bad fault) e h = sym (none-right side before stream (bad fault) (Some fault) e refl)
packet-reads side before stream (whole tpdu more) e h =
    tpdu-reads side before stream tpdu more (checked (connection_of side before) tpdu) e refl (h tpdu more refl)

reads : (n : ℕ) (side : Side) (before : List (List ℕ)) (stream : List ℕ) → length stream ≤ n → receiving (connection_of side before) stream ≡ reading_from side before stream (tpdus stream)
reads zero side before (x ∷ stream) bound = absurd (omega arith)
reads zero side before [] bound =
    let p = connection_of side before in
    receiving-first_packet p [] ∙ packet-reads side before [] part refl (λ tpdu more e. cc) ∙ sym (ap (reading_from side before []) (tpdus-are p.place []))
reads (suc n) side before stream bound =
    let p = connection_of side before in
    receiving-first_packet p stream
    ∙ packet-reads side before stream (first_packet p.place stream) refl
    (λ tpdu more e. let shorter = first_packet-shorter p.place stream tpdu more e in reads n side (before ++ tpdu ∷ []) more (omega arith))
    ∙ sym (ap (reading_from side before stream) (tpdus-are p.place stream))

-- The packets tell, one after the other, what the list of TPDUs tells.
pub receives-reads : (side : Side) (stream : List ℕ) → receives side stream ≡ reading side stream
receives-reads side stream = reads (length stream) side [] stream (le_refl (length stream))

pub holds-tpdus : (side : Side) (stream : List ℕ) → HoldsTpdus side stream
unfolding IsOctets
holds-tpdus side stream b =
    let P : Reading → Type 0 = λ r. Found side [] stream r in
    subst P (receives-reads side stream) (found (length stream) side [] stream (le_refl (length stream)) b)
