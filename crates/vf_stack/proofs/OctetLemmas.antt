-- Octets by which transport tells one thing at most: one by one they tell what they tell as a piece.
use Rattle.std.proofs.Common.{◌≡◌, ◌≤◌, ℕ, Bool, true, false, List, [], ◌∷◌, ◌++◌, length, refl, ap, sym, subst, ◌∙◌, append_assoc, append-nil, length-append, arith, Option, Some, ◌⊎◌, inl, inr}
use Rattle.vf_session.specs.declared.units.TokenSide.{TokenSide}
use Rattle.vf_stack.specs.Association.{Association, Exchange, end_of, is_ended}
use Rattle.vf_stack.specs.Pieces.{IsSilent, TellOnce}
use Rattle.vf_stack.specs.Receiving.{Fed, Received, each, followed, nothing, nothing_fed, fed_by, piece_received, octets_received, reading_received, received_next, stopped_by}
use Rattle.vf_tpkt.specs.Receiving.{Kept as TransportKept, Reading, onward}
use Rattle.vf_tpkt.specs.Stream.{reading as stream_reading}
use Rattle.vf_tpkt.specs.Wanting.{IsSilent as IsStill, TellsOnce}
use Rattle.vf_tpkt.specs.declared.error.TpktError.{TpktError}
use Rattle.vf_tpkt.specs.declared.unit.Unit.{Unit as TransportUnit}
use Rattle.vf_tpkt.proofs.RoundTrip.{onward-pieces}
use Rattle.vf_stack.proofs.PieceLemmas.{as_fed, fault-ends, kept-onward, piece-ended, piece-open, silent-after}

-- the same was told, and what is kept of the stream is the same
pub record IsSame (side : TokenSide) (o p : Fed) : Type 0 where
  pub indications : o.indications ≡ p.indications
  pub answers : o.answers ≡ p.answers
  pub exchange : o.association.exchange ≡ p.association.exchange
  pub kept : (stream_reading (end_of side) o.association.stream).kept ≡ (stream_reading (end_of side) p.association.stream).kept

abbrev pub as_reading : List TransportUnit → List ℕ → TransportKept → Reading
as_reading units answers kept = record { units = units; answers = answers; kept = kept }

abbrev pub as_association : List ℕ → Exchange → Association
as_association stream x = record { stream = stream; exchange = x }

-- what the octets after the first one tell
abbrev pub with_others : TokenSide → List ℕ → Fed → Fed
with_others own octets f =
    let others = octets_received own f.association octets in as_fed (f.indications ++ others.indications) (f.answers ++ others.answers) others.association

pub octets-ended : (own : TokenSide) (a : Association) (octets : List ℕ) → is_ended a.exchange.ending ≡ true → octets_received own a octets ≡ nothing_fed a
octets-ended own a [] e = refl
octets-ended own a (octet ∷ octets) e = ap (with_others own octets) (piece-ended own a (octet ∷ []) e) ∙ octets-ended own a octets e

-- what transport tells of these octets, cut here
abbrev pub Cut : TransportKept → List ℕ → List ℕ → Type 0
Cut k first second = IsStill (onward k first) ⊎ ((second ≡ []) ⊎ ((fault : TpktError) × ((onward k first).kept.fault ≡ Some fault)))

abbrev pub Cuts : TransportKept → List ℕ → Type 0
Cuts k octets = (first second : List ℕ) → first ++ second ≡ octets → Cut k first second

abbrev pub kept_of : TokenSide → Association → TransportKept
kept_of own a = (stream_reading (end_of own) a.stream).kept

same-ended : (own : TokenSide) (a : Association) (octets : List ℕ) → is_ended a.exchange.ending ≡ true → IsSame own (octets_received own a octets) (piece_received own a octets)
same-ended own a octets e =
    let P : Fed → Type 0 = λ o. IsSame own o (piece_received own a octets) in
    let Q : Fed → Type 0 = λ p. IsSame own (nothing_fed a) p in
    subst P (sym (octets-ended own a octets e)) (subst Q (sym (piece-ended own a octets e)) (record { indications = refl; answers = refl; exchange = refl; kept = refl }))

-- one octet
same-one : (own : TokenSide) (a : Association) (octet : ℕ) → IsSame own (octets_received own a (octet ∷ [])) (piece_received own a (octet ∷ []))
same-one own a octet =
    let p = piece_received own a (octet ∷ []) in
    record { indications = append-nil p.indications; answers = append-nil p.answers; exchange = refl; kept = refl }

-- nothing was told by the first octet
abbrev pub moved : Association → List ℕ → Association
moved a octets = as_association (a.stream ++ octets) a.exchange

still-reads : (own : TokenSide) (x : Exchange) (r : Reading) → IsStill r → reading_received own x r ≡ nothing x
still-reads own x r s =
    ap (λ (units : List TransportUnit). followed (each (received_next own) x units) (λ y. stopped_by y r.kept.fault)) s.units
    ∙ ap (λ (fault : Option TpktError). stopped_by x fault) s.fault

pub still-piece : (own : TokenSide) (a : Association) (octets : List ℕ) → is_ended a.exchange.ending ≡ false → IsStill (onward (kept_of own a) octets)
    → piece_received own a octets ≡ as_fed [] [] (moved a octets)
still-piece own a octets e s =
    let r = onward (kept_of own a) octets in
    piece-open own a octets e ∙ ap (λ (received : Received). fed_by a octets r received) (still-reads own a.exchange r s)
    ∙ ap (λ (answers : List ℕ). as_fed [] answers (moved a octets)) s.answers

still-then : (k : TransportKept) (first second : List ℕ) → IsStill (onward k first) → onward k (first ++ second) ≡ onward (onward k first).kept second
still-then k first second s =
    let r = onward k first in
    let next = onward r.kept second in
    onward-pieces k first second
    ∙ ap (λ (units : List TransportUnit). as_reading (units ++ next.units) (r.answers ++ next.answers) next.kept) s.units
    ∙ ap (λ (answers : List ℕ). as_reading next.units (answers ++ next.answers) next.kept) s.answers

pub cuts-moved : (own : TokenSide) (a : Association) (octet : ℕ) (others : List ℕ) → IsStill (onward (kept_of own a) (octet ∷ [])) → Cuts (kept_of own a) (octet ∷ others) → Cuts (kept_of own (moved a (octet ∷ []))) others
cuts-moved own a octet others s cuts first second e =
    let k = kept_of own a in
    let now : onward k (octet ∷ first) ≡ onward (kept_of own (moved a (octet ∷ []))) first =
    still-then k (octet ∷ []) first s ∙ ap (λ (t : TransportKept). onward t first) (sym (kept-onward (end_of own) a.stream (octet ∷ []))) in
    let P : Reading → Type 0 = λ r. IsStill r ⊎ ((second ≡ []) ⊎ ((fault : TpktError) × (r.kept.fault ≡ Some fault))) in
    subst P now (cuts (octet ∷ first) second (ap (λ (o : List ℕ). octet ∷ o) e))

same-still : (own : TokenSide) (a : Association) (octet : ℕ) (others : List ℕ) → is_ended a.exchange.ending ≡ false → IsStill (onward (kept_of own a) (octet ∷ []))
    → IsSame own (octets_received own (moved a (octet ∷ [])) others) (piece_received own (moved a (octet ∷ [])) others)
    → IsSame own (octets_received own a (octet ∷ others)) (piece_received own a (octet ∷ others))
same-still own a octet others e s same =
    let k = kept_of own a in
    let a1 = moved a (octet ∷ []) in
    let one = still-piece own a (octet ∷ []) e s in
    let o : octets_received own a (octet ∷ others) ≡ octets_received own a1 others = ap (with_others own others) one in
    let r = onward k (octet ∷ others) in
    let r1 = onward (kept_of own a1) others in
    let reads : r ≡ r1 = still-then k (octet ∷ []) others s ∙ ap (λ (t : TransportKept). onward t others) (sym (kept-onward (end_of own) a.stream (octet ∷ []))) in
    let p : piece_received own a (octet ∷ others) ≡ piece_received own a1 others =
    piece-open own a (octet ∷ others) e ∙ ap (λ (r : Reading). fed_by a (octet ∷ others) r (reading_received own a.exchange r)) reads
    ∙ ap (λ (stream : List ℕ). as_fed (reading_received own a.exchange r1).indications r1.answers (as_association stream (reading_received own a.exchange r1).exchange)) (sym (append_assoc a.stream (octet ∷ []) others))
    ∙ sym (piece-open own a1 others e) in
    let P : Fed → Type 0 = λ o. IsSame own o (piece_received own a (octet ∷ others)) in
    let Q : Fed → Type 0 = λ p. IsSame own (octets_received own a1 others) p in
    subst P (sym o) (subst Q (sym p) same)

-- transport came to a fault by the first octet
fault-then : (k : TransportKept) (first second : List ℕ) (fault : TpktError) → (onward k first).kept.fault ≡ Some fault → onward k (first ++ second) ≡ onward k first
fault-then k first second fault e =
    let r = onward k first in
    onward-pieces k first second
    ∙ ap (λ (next : Reading). as_reading (r.units ++ next.units) (r.answers ++ next.answers) next.kept) (silent-after r.kept second fault e)
    ∙ rw (append-nil r.units, append-nil r.answers) refl

same-fault : (own : TokenSide) (a : Association) (octet : ℕ) (others : List ℕ) (fault : TpktError) → is_ended a.exchange.ending ≡ false → (onward (kept_of own a) (octet ∷ [])).kept.fault ≡ Some fault
    → IsSame own (octets_received own a (octet ∷ others)) (piece_received own a (octet ∷ others))
same-fault own a octet others fault e f =
    let k = kept_of own a in
    let side = end_of own in
    let r = onward k (octet ∷ []) in
    let received = reading_received own a.exchange r in
    let first = fed_by a (octet ∷ []) r received in
    let one : piece_received own a (octet ∷ []) ≡ first = piece-open own a (octet ∷ []) e in
    let over : octets_received own first.association others ≡ nothing_fed first.association = octets-ended own first.association others (fault-ends own a.exchange r fault f) in
    let o : octets_received own a (octet ∷ others) ≡ first =
    ap (with_others own others) one
    ∙ ap (λ (rest : Fed). as_fed (first.indications ++ rest.indications) (first.answers ++ rest.answers) rest.association) over
    ∙ rw (append-nil first.indications, append-nil first.answers) refl in
    let all : onward k (octet ∷ others) ≡ r = fault-then k (octet ∷ []) others fault f in
    let p : piece_received own a (octet ∷ others) ≡ fed_by a (octet ∷ others) r received =
    piece-open own a (octet ∷ others) e ∙ ap (λ (r : Reading). fed_by a (octet ∷ others) r (reading_received own a.exchange r)) all in
    let P : Fed → Type 0 = λ o. IsSame own o (piece_received own a (octet ∷ others)) in
    let Q : Fed → Type 0 = λ p. IsSame own first p in
    subst P (sym o) (subst Q (sym p) (record {
      indications = refl;
      answers = refl;
      exchange = refl;
      kept = kept-onward side a.stream (octet ∷ []) ∙ ap (λ (r : Reading). r.kept) (sym all) ∙ sym (kept-onward side a.stream (octet ∷ others));
    }))

same-by : (own : TokenSide) (a : Association) (octet next : ℕ) (others : List ℕ) (b : Bool) → is_ended a.exchange.ending ≡ b
    → Cut (kept_of own a) (octet ∷ []) (next ∷ others)
    → (IsStill (onward (kept_of own a) (octet ∷ [])) → IsSame own (octets_received own (moved a (octet ∷ [])) (next ∷ others)) (piece_received own (moved a (octet ∷ [])) (next ∷ others)))
    → IsSame own (octets_received own a (octet ∷ next ∷ others)) (piece_received own a (octet ∷ next ∷ others))
same-by own a octet next others true e cut rest = same-ended own a (octet ∷ next ∷ others) e
same-by own a octet next others false e (inl still) rest = same-still own a octet (next ∷ others) e still (rest still)
same-by own a octet next others false e (inr (inl none)) rest = cc
same-by own a octet next others false e (inr (inr faulty)) rest = same-fault own a octet (next ∷ others) faulty.0 e faulty.1

pub same-octets : (own : TokenSide) (octets : List ℕ) (a : Association) (octet : ℕ) → Cuts (kept_of own a) (octet ∷ octets) → IsSame own (octets_received own a (octet ∷ octets)) (piece_received own a (octet ∷ octets))
same-octets own [] a octet cuts = same-one own a octet
same-octets own (next ∷ others) a octet cuts =
    same-by own a octet next others (is_ended a.exchange.ending) refl (cuts (octet ∷ []) (next ∷ others) refl)
    (λ still. same-octets own others (moved a (octet ∷ [])) next (cuts-moved own a octet (next ∷ others) still cuts))

-- ---- as few as transport wants

pub cuts-few : (k : TransportKept) (most : ℕ) (octets : List ℕ) → TellsOnce k most → length octets ≤ most → Cuts k octets
cuts-few k most octets once few first second e =
    let L : List ℕ → Type 0 = λ o. length o ≤ most in
    once first second (subst L (sym e) few)

-- ---- what is wanted

silent-piece : (own : TokenSide) (a : Association) (octets : List ℕ) (b : Bool) → is_ended a.exchange.ending ≡ b → IsStill (onward (kept_of own a) octets) → IsSilent (piece_received own a octets)
silent-piece own a octets true e s = subst IsSilent (sym (piece-ended own a octets e)) (record { indications = refl; answers = refl })
silent-piece own a octets false e s = subst IsSilent (sym (still-piece own a octets e s)) (record { indications = refl; answers = refl })

pub fault-piece : (own : TokenSide) (a : Association) (octets : List ℕ) (fault : TpktError) (b : Bool) → is_ended a.exchange.ending ≡ b → (onward (kept_of own a) octets).kept.fault ≡ Some fault → is_ended (piece_received own a octets).association.exchange.ending ≡ true
fault-piece own a octets fault true e f = ap (λ (p : Fed). is_ended p.association.exchange.ending) (piece-ended own a octets e) ∙ e
fault-piece own a octets fault false e f = ap (λ (p : Fed). is_ended p.association.exchange.ending) (piece-open own a octets e) ∙ fault-ends own a.exchange (onward (kept_of own a) octets) fault f

once-by : (own : TokenSide) (a : Association) (octet : ℕ) (first second : List ℕ) → Cuts (kept_of own a) (octet ∷ first) → Cut (kept_of own a) (octet ∷ first) second → TellOnce own a (octet ∷ first) second
once-by own a octet first second cuts (inl still) =
    let same = same-octets own first a octet cuts in
    let s = silent-piece own a (octet ∷ first) (is_ended a.exchange.ending) refl still in
    inl (record { indications = same.indications ∙ s.indications; answers = same.answers ∙ s.answers })
once-by own a octet first second cuts (inr (inl none)) =
    let f = octets_received own a (octet ∷ first) in
    let P : List ℕ → Type 0 = λ octets. IsSilent (octets_received own f.association octets) in
    inr (subst P (sym none) (record { indications = refl; answers = refl }))
once-by own a octet first second cuts (inr (inr faulty)) =
    let same = same-octets own first a octet cuts in
    let f = octets_received own a (octet ∷ first) in
    let ended : is_ended f.association.exchange.ending ≡ true =
    ap (λ (x : Exchange). is_ended x.ending) same.exchange ∙ fault-piece own a (octet ∷ first) faulty.0 (is_ended a.exchange.ending) refl faulty.1 in
    inr (subst IsSilent (sym (octets-ended own f.association second ended)) (record { indications = refl; answers = refl }))

prefix-few : (first second : List ℕ) (most : ℕ) → length (first ++ second) ≤ most → length first ≤ most
prefix-few first second most few = let l = length-append first second in omega arith

pub tells-once : (own : TokenSide) (a : Association) (most : ℕ) (first second : List ℕ) → TellsOnce (kept_of own a) most → length (first ++ second) ≤ most → TellOnce own a first second
tells-once own a most [] second once few = inl (record { indications = refl; answers = refl })
tells-once own a most (octet ∷ first) second once few =
    once-by own a octet first second (cuts-few (kept_of own a) most (octet ∷ first) once (prefix-few (octet ∷ first) second most few)) (once (octet ∷ first) second few)
