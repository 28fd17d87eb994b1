-- The steps of receiving a stream, put together.
use Rattle.std.proofs.Common.{◌≡◌, ℕ, zero, suc, ◌<◌, ◌≤◌, List, [], ◌++◌, drop, refl, ap, sym, subst, ◌∙◌, arith, Option, None, Result, Ok, Err, inl, inr, append_assoc, append-nil, OnOk}
use Rattle.vf_tpkt.specs.declared.error.TpktError.{TpktError}
use Rattle.vf_tpkt.specs.declared.phase.Side.{Side}
use Rattle.vf_tpkt.specs.declared.unit.Unit.{Unit as Told}
use Rattle.vf_tpkt.specs.Receiving.{Progress, part, bad, whole, first_packet, Reading, Kept, resting, stopping, preceded, after_tpdu, receiving, checked, after, units_of, onward, receives, beginning}
use Rattle.vf_tpkt.specs.Pieces.{Extends, TellsPrefix, Tells, TellsPiece}
use Rattle.vf_tpkt.specs.Stream.{HasReceived, reading}
use Rattle.vf_tpkt.specs.Steps.{ReceivesTpdu, WantsSome, Stops, Onward, Looks}
use Rattle.vf_tpkt.specs.Tpdu.{answer_of}
use Rattle.vf_tpkt.proofs.StreamLemmas.{receives-reads}
use Rattle.vf_tpkt.proofs.ReceivingLemmas.{receiving-first_packet, first_packet-whole, first_packet-bad, pieces}

pub receiving-part : (p : Progress) (o : List ℕ) → first_packet p.place o ≡ part → receiving p o ≡ resting p o
receiving-part p o e = receiving-first_packet p o ∙ rw e refl

receiving-bad : (p : Progress) (o x : List ℕ) (fault : TpktError) → first_packet p.place o ≡ bad fault → receiving p (o ++ x) ≡ stopping p fault
receiving-bad p o x fault e = receiving-first_packet p (o ++ x) ∙ rw (first_packet-bad p.place o x fault e) refl

receiving-whole : (p : Progress) (o x tpdu : List ℕ) → first_packet p.place o ≡ whole tpdu [] → receiving p (o ++ x) ≡ after_tpdu receiving p tpdu x (checked p tpdu)
receiving-whole p o x tpdu e = receiving-first_packet p (o ++ x) ∙ rw (first_packet-whole p.place o x tpdu [] e) refl

pub same-extends : {A : Type 0} (xs ys : List A) → ys ≡ xs → Extends xs ys
same-extends xs ys e = ([], e ∙ sym (append-nil xs))

pub extends-twice : {A : Type 0} (xs ys zs : List A) → Extends xs ys → Extends ys zs → Extends xs zs
extends-twice xs ys zs a b = (a.0 ++ b.0, b.1 ∙ rw a.1 (append_assoc xs a.0 b.0))

stops-here : (r : Reading) (p : Progress) (fault : TpktError) (told : List Told) (answered : List ℕ) → r ≡ stopping p fault → Stops r told answered p told answered fault
stops-here r p fault told answered e = inl (rw (e, append-nil told, append-nil answered) refl)

-- nothing was told for want of memory
wants-memory : (r : Reading) (told told' : List Told) (answered answered' : List ℕ) → told' ≡ told → answered' ≡ answered → TellsPrefix r told answered told' answered'
wants-memory r told told' answered answered' e f =
    record { units = same-extends told told' e; others = (r.units, rw e refl); answers = same-extends answered answered' f; other_answers = (r.answers, rw f refl) }

pub looks-bad : (p : Progress) (place : ℕ) (packet rest : List ℕ) (told : List Told) (answered : List ℕ) (fault : TpktError) → place ≡ p.place → first_packet place packet ≡ bad fault → Stops (receiving p (packet ++ rest)) told answered p told answered fault
looks-bad p place packet rest told answered fault e h =
    stops-here (receiving p (packet ++ rest)) p fault told answered (receiving-bad p packet rest fault (rw e at h))

wants-none : (place count : ℕ) (packet : List ℕ) → WantsSome place packet count → count ≤ 0 → first_packet place packet ≡ whole (drop 4 packet) []
wants-none place zero packet h e = h
wants-none place (suc count) packet h e = absurd (omega arith)

pub looks-whole : (p : Progress) (place count : ℕ) (packet tpdu : List ℕ) → place ≡ p.place → WantsSome place packet count → count ≤ 0 → tpdu ≡ drop 4 packet → first_packet p.place packet ≡ whole tpdu []
looks-whole p place count packet tpdu e h n same = rw (← e, same) (wants-none place count packet h n)

pub looks-part : (p : Progress) (place count : ℕ) (packet rest : List ℕ) (told : List Told) (answered : List ℕ) → place ≡ p.place → WantsSome place packet count → 0 < count → Onward p (packet ++ rest) told answered p packet rest told answered
looks-part p place zero packet rest told answered e h some = absurd (omega arith)
looks-part p place (suc count) packet rest told answered e h some = record { same = refl; begun = rw e at h.0; units = same-extends told told refl; answers = same-extends answered answered refl }

pub looks-received : (p q : Progress) (packet tpdu rest : List ℕ) (told told' : List Told) (answered answered' : List ℕ) → first_packet p.place packet ≡ whole tpdu [] → ReceivesTpdu p tpdu told answered q told' answered' (Ok tt) → Onward p (packet ++ rest) told answered q [] rest told' answered'
looks-received p q packet tpdu rest told told' answered answered' e h =
    let kind = h.0 in
    let r : receiving p (packet ++ rest) ≡ preceded (units_of p kind tpdu) (answer_of kind tpdu) (receiving (after p kind tpdu) rest) =
    receiving-whole p packet rest tpdu e ∙ rw h.1 refl in
    let s = receiving (after p kind tpdu) rest in
    record {
      same = rw (r, h.2, h.3, h.4, append_assoc told (units_of p kind tpdu) s.units, append_assoc answered (answer_of kind tpdu) s.answers) refl;
      begun = refl;
      units = (units_of p kind tpdu, h.3);
      answers = (answer_of kind tpdu, h.4);
    }

pub looks-refused : (p q : Progress) (packet tpdu rest : List ℕ) (told told' : List Told) (answered answered' : List ℕ) (fault : TpktError) → first_packet p.place packet ≡ whole tpdu [] → ReceivesTpdu p tpdu told answered q told' answered' (Err fault) → Stops (receiving p (packet ++ rest)) told answered q told' answered' fault
looks-refused p q packet tpdu rest told told' answered answered' fault e h =
    elim h.2 [
      | inl wanting ↦ inr (wanting, wants-memory (receiving p (packet ++ rest)) told told' answered answered' h.0 h.1)
      | inr refused ↦
          (let r : receiving p (packet ++ rest) ≡ stopping p fault = receiving-whole p packet rest tpdu e ∙ rw refused.0 refl in
          let stops = stops-here (receiving p (packet ++ rest)) p fault told answered r in
          rw (refused.1, h.0, h.1) stops)
    ]

pub moves-received : (p q : Progress) (packet taken rest piece packet' : List ℕ) (told told' : List Told) (answered answered' : List ℕ) → taken ++ rest ≡ piece → Looks p (packet ++ taken) told answered q packet' told' answered' (Ok tt) → Onward p (packet ++ piece) told answered q packet' rest told' answered'
moves-received p q packet taken rest piece packet' told told' answered answered' e h =
    let same : (packet ++ taken) ++ rest ≡ packet ++ piece = rw (append_assoc packet taken rest, e) refl in
    rw (← same) (h rest)

pub moves-refused : (p q : Progress) (packet taken rest piece packet' : List ℕ) (told told' : List Told) (answered answered' : List ℕ) (fault : TpktError) → taken ++ rest ≡ piece → Looks p (packet ++ taken) told answered q packet' told' answered' (Err fault) → Stops (receiving p (packet ++ piece)) told answered q told' answered' fault
moves-refused p q packet taken rest piece packet' told told' answered answered' fault e h =
    let same : (packet ++ taken) ++ rest ≡ packet ++ piece = rw (append_assoc packet taken rest, e) refl in
    rw (← same) (h rest)

-- the beginning of a packet wants something
pub part-wants : (place count : ℕ) (packet : List ℕ) → first_packet place packet ≡ part → WantsSome place packet count → 0 < count
part-wants place zero packet e h = cc
part-wants place (suc count) packet e h = omega arith

-- what was received of a piece, as the end keeps it
pub tells-all : (p q : Progress) (octets packet : List ℕ) (told told' : List Told) (answered answered' : List ℕ) → Onward p octets told answered q packet [] told' answered' → Tells (receiving p octets) told answered (record { connection = q; packet = packet; fault = None }) told' answered' (Ok tt)
tells-all p q octets packet told told' answered answered' h =
    let rests : preceded told answered (receiving p octets) ≡ record { units = told'; answers = answered'; kept = record { connection = q; packet = packet; fault = None } } =
    h.same ∙ rw (append-nil packet, receiving-part q packet h.begun, append-nil told', append-nil answered') refl in (
      ap (λ (r : Reading). r.kept.fault) rests,
      record { units = sym (ap (λ (r : Reading). r.units) rests); answers = sym (ap (λ (r : Reading). r.answers) rests); keeps = sym (ap (λ (r : Reading). r.kept) rests) },
    )

-- the reading of a stream with one more piece
piece-reads : (side : Side) (stream piece : List ℕ) (kept : Kept) → HasReceived kept side stream → reading side (stream ++ piece) ≡ preceded (reading side stream).units (reading side stream).answers (onward kept piece)
piece-reads side stream piece kept e =
    let P : Reading → Type 0 = λ r. receives side (stream ++ piece) ≡ preceded r.units r.answers (onward r.kept piece) in
    sym (receives-reads side (stream ++ piece)) ∙ subst P (receives-reads side stream) (pieces (beginning side) stream piece)
    ∙ ap (λ (k : Kept). preceded (reading side stream).units (reading side stream).answers (onward k piece)) (sym e)

pub tells-piece : (side : Side) (stream piece : List ℕ) (kept0 kept : Kept) (told told' : List Told) (answered answered' : List ℕ) (result : Result (Unit {0}) TpktError) → HasReceived kept0 side stream → Tells (onward kept0 piece) told answered kept told' answered' result → TellsPiece side stream piece told answered kept told' answered' result
tells-piece side stream piece kept0 kept told told' answered answered' result e h =
    (onward kept0 piece, piece-reads side stream piece kept0 e, h)

pub keeps-piece : (side : Side) (stream piece : List ℕ) (kept0 kept : Kept) (told told' : List Told) (answered answered' : List ℕ) (result : Result (Unit {0}) TpktError) → HasReceived kept0 side stream → Tells (onward kept0 piece) told answered kept told' answered' result → OnOk result (HasReceived kept side (stream ++ piece))
keeps-piece side stream piece kept0 kept told told' answered answered' (Ok done) e h =
    h.1.keeps ∙ sym (ap (λ (r : Reading). r.kept) (piece-reads side stream piece kept0 e))
keeps-piece side stream piece kept0 kept told told' answered answered' (Err fault) e h = tt

tells-onward-none : (p q : Progress) (packet piece packet' : List ℕ) (fault : Option TpktError) (told told' : List Told) (answered answered' : List ℕ) → fault ≡ None → Onward p (packet ++ piece) told answered q packet' [] told' answered' → Tells (onward (record { connection = p; packet = packet; fault = fault }) piece) told answered (record { connection = q; packet = packet'; fault = fault }) told' answered' (Ok tt)
tells-onward-none p q packet piece packet' fault told told' answered answered' n h =
    let P : Option TpktError → Type 0 = λ f. Tells (onward (record { connection = p; packet = packet; fault = f }) piece) told answered (record { connection = q; packet = packet'; fault = f }) told' answered' (Ok tt) in
    subst P (sym n) (tells-all p q (packet ++ piece) packet' told told' answered answered' h)

pub tells-onward : (kept : Kept) (p q : Progress) (packet piece packet' : List ℕ) (fault : Option TpktError) (told told' : List Told) (answered answered' : List ℕ) → record { connection = p; packet = packet; fault = fault } ≡ kept → fault ≡ None → Onward p (packet ++ piece) told answered q packet' [] told' answered' → Tells (onward kept piece) told answered (record { connection = q; packet = packet'; fault = fault }) told' answered' (Ok tt)
tells-onward kept p q packet piece packet' fault told told' answered answered' e n h =
    let P : Kept → Type 0 = λ k. Tells (onward k piece) told answered (record { connection = q; packet = packet'; fault = fault }) told' answered' (Ok tt) in
    subst P e (tells-onward-none p q packet piece packet' fault told told' answered answered' n h)
