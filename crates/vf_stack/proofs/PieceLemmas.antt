-- A stream in pieces.
use Rattle.std.proofs.Common.{◌≡◌, ℕ, Bool, true, false, List, [], ◌∷◌, ◌++◌, refl, ap, sym, subst, ◌∙◌, append_assoc, append-nil, Option, None, Some}
use Rattle.vf_session.specs.declared.units.TokenSide.{TokenSide}
use Rattle.vf_stack.specs.Association.{Association, Exchange, end_of, is_ended}
use Rattle.vf_stack.specs.Faults.{of_transport}
use Rattle.vf_stack.specs.Pieces.{AreCut, TellsInPieces, TellsByOctets}
use Rattle.vf_stack.specs.Receiving.{Fed, Received, nothing, refused, preceded, each, followed, received_next, stopped_by, reading_received, nothing_fed, fed_by, piece_received, octets_received}
use Rattle.vf_stack.specs.declared.indication.Indication.{Indication}
use Rattle.vf_tpkt.specs.Receiving.{Kept as TransportKept, Reading, beginning, onward, onward_from, preceded as joined}
use Rattle.vf_tpkt.specs.Stream.{reading as stream_reading}
use Rattle.vf_tpkt.specs.declared.error.TpktError.{TpktError}
use Rattle.vf_tpkt.specs.declared.phase.Side.{Side}
use Rattle.vf_tpkt.specs.declared.unit.Unit.{Unit as TransportUnit}
use Rattle.vf_tpkt.proofs.ReceivingLemmas.{pieces}
use Rattle.vf_tpkt.proofs.RoundTrip.{onward-pieces}
use Rattle.vf_tpkt.proofs.StreamLemmas.{receives-reads}

preceded-twice : (a b : List Indication) (r : Received) → preceded a (preceded b r) ≡ preceded (a ++ b) r
preceded-twice a b r = rw (append_assoc a b r.indications) refl

-- what is kept of a stream with one more piece
pub kept-onward : (side : Side) (stream piece : List ℕ) → (stream_reading side (stream ++ piece)).kept ≡ (onward (stream_reading side stream).kept piece).kept
kept-onward side stream piece =
    ap (λ (r : Reading). r.kept) (sym (receives-reads side (stream ++ piece)) ∙ pieces (beginning side) stream piece)
    ∙ ap (λ (r : Reading). (onward r.kept piece).kept) (receives-reads side stream)

-- ---- folds

pub each-append : {A : Type 0} (receive : Exchange → A → Received) (x : Exchange) (us vs : List A) → each receive x (us ++ vs) ≡ preceded (each receive x us).indications (each receive (each receive x us).exchange vs)
each-append receive x [] vs = refl
each-append receive x (u ∷ us) vs =
    let r = receive x u in
    ap (λ (received : Received). preceded r.indications received) (each-append receive r.exchange us vs)
    ∙ preceded-twice r.indications (each receive r.exchange us).indications (each receive (each receive r.exchange us).exchange vs)

-- an exchange that is ended receives nothing
pub each-ended : {A : Type 0} (receive : Exchange → A → Received) (x : Exchange) (us : List A) → ((u : A) → receive x u ≡ nothing x) → each receive x us ≡ nothing x
each-ended receive x [] same = refl
each-ended receive x (u ∷ us) same = rw (same u) (each-ended receive x us same)

next-ended : (own : TokenSide) (x : Exchange) (unit : TransportUnit) → is_ended x.ending ≡ true → received_next own x unit ≡ nothing x
next-ended own x unit e = rw e refl

stopped-ended : (x : Exchange) (fault : Option TpktError) → is_ended x.ending ≡ true → stopped_by x fault ≡ nothing x
stopped-ended x None e = refl
stopped-ended x (Some fault) e = rw e refl

pub reading-ended : (own : TokenSide) (x : Exchange) (r : Reading) → is_ended x.ending ≡ true → reading_received own x r ≡ nothing x
reading-ended own x r e =
    rw (each-ended (received_next own) x r.units (λ u. next-ended own x u e)) (stopped-ended x r.kept.fault e)

-- a fault of transport ends the exchange
stopped-ends : (x : Exchange) (fault : TpktError) (b : Bool) → is_ended x.ending ≡ b → is_ended (stopped_by x (Some fault)).exchange.ending ≡ true
stopped-ends x fault true e = ap (λ (r : Received). is_ended r.exchange.ending) (stopped-ended x (Some fault) e) ∙ e
stopped-ends x fault false e =
    let s : stopped_by x (Some fault) ≡ refused x (of_transport fault) = rw e refl in
    ap (λ (r : Received). is_ended r.exchange.ending) s

pub fault-ends : (own : TokenSide) (x : Exchange) (r : Reading) (fault : TpktError) → r.kept.fault ≡ Some fault → is_ended (reading_received own x r).exchange.ending ≡ true
fault-ends own x r fault e =
    let y = (each (received_next own) x r.units).exchange in
    ap (λ (f : Option TpktError). is_ended (stopped_by y f).exchange.ending) e ∙ stopped-ends y fault (is_ended y.ending) refl

-- after a fault of transport there is nothing, and it is told once
refused-once : (own : TokenSide) (x : Exchange) (r : Reading) (fault : TpktError) (b : Bool) → is_ended x.ending ≡ b → r.units ≡ [] → r.kept.fault ≡ Some fault
    → reading_received own x r ≡ preceded (stopped_by x (Some fault)).indications (reading_received own (stopped_by x (Some fault)).exchange r)
refused-once own x r fault true e u f =
    let s : stopped_by x (Some fault) ≡ nothing x = stopped-ended x (Some fault) e in
    rw s refl
refused-once own x r fault false e u f =
    let s : stopped_by x (Some fault) ≡ refused x (of_transport fault) = rw e refl in
    let whole : reading_received own x r ≡ refused x (of_transport fault) = rw (u, f) s in
    let y = (refused x (of_transport fault)).exchange in
    let rest : reading_received own y r ≡ nothing y = reading-ended own y r refl in
    let R : Received → Received = λ received. preceded received.indications (reading_received own received.exchange r) in
    whole ∙ sym (ap R s ∙ ap (λ (received : Received). preceded (refused x (of_transport fault)).indications received) rest)

stopped-then : (own : TokenSide) (x : Exchange) (r : Reading) (fault : Option TpktError) → ((f : TpktError) → fault ≡ Some f → (r.units ≡ []) × (r.kept.fault ≡ Some f))
    → reading_received own x r ≡ preceded (stopped_by x fault).indications (reading_received own (stopped_by x fault).exchange r)
stopped-then own x r None silent = refl
stopped-then own x r (Some fault) silent =
    let s = silent fault refl in
    refused-once own x r fault (is_ended x.ending) refl s.0 s.1

reading-pieces : (own : TokenSide) (x : Exchange) (r s : Reading) → ((f : TpktError) → r.kept.fault ≡ Some f → (s.units ≡ []) × (s.kept.fault ≡ Some f))
    → reading_received own x (joined r.units r.answers s) ≡ preceded (reading_received own x r).indications (reading_received own (reading_received own x r).exchange s)
reading-pieces own x r s silent =
    let T = received_next own in
    let first = each T x r.units in
    let y = first.exchange in
    let stop = stopped_by y r.kept.fault in
    let second = each T y s.units in
    let cut : reading_received own x (joined r.units r.answers s) ≡ preceded first.indications (reading_received own y s) =
    ap (λ (received : Received). followed received (λ x. stopped_by x s.kept.fault)) (each-append T x r.units s.units)
    ∙ sym (preceded-twice first.indications second.indications (stopped_by second.exchange s.kept.fault)) in
    cut ∙ ap (λ (received : Received). preceded first.indications received) (stopped-then own y s r.kept.fault silent)
    ∙ preceded-twice first.indications stop.indications (reading_received own stop.exchange s)

-- ---- pieces

-- what a piece tells, whether or not the exchange has ended
record IsTold (f : Fed) (received : Received) : Type 0 where
  pub indications : f.indications ≡ received.indications
  pub exchange : f.association.exchange ≡ received.exchange

told-by : (own : TokenSide) (a : Association) (piece : List ℕ) (b : Bool) → is_ended a.exchange.ending ≡ b → IsTold (piece_received own a piece) (reading_received own a.exchange (onward (stream_reading (end_of own) a.stream).kept piece))
told-by own a piece true e =
    let r = onward (stream_reading (end_of own) a.stream).kept piece in
    let none = reading-ended own a.exchange r e in
    let f : piece_received own a piece ≡ nothing_fed a = rw e refl in
    let P : Fed → Type 0 = λ f. IsTold f (reading_received own a.exchange r) in
    subst P (sym f) (record { indications = sym (ap (λ (received : Received). received.indications) none); exchange = sym (ap (λ (received : Received). received.exchange) none) })
told-by own a piece false e =
    let r = onward (stream_reading (end_of own) a.stream).kept piece in
    let f : piece_received own a piece ≡ fed_by a piece r (reading_received own a.exchange r) = rw e refl in
    let P : Fed → Type 0 = λ f. IsTold f (reading_received own a.exchange r) in
    subst P (sym f) (record { indications = refl; exchange = refl })

told : (own : TokenSide) (a : Association) (piece : List ℕ) → IsTold (piece_received own a piece) (reading_received own a.exchange (onward (stream_reading (end_of own) a.stream).kept piece))
told own a piece = told-by own a piece (is_ended a.exchange.ending) refl

pub silent-after : (kept : TransportKept) (piece : List ℕ) (f : TpktError) → kept.fault ≡ Some f → onward kept piece ≡ record { units = []; answers = []; kept = kept }
silent-after kept piece f e = ap (λ (g : Option TpktError). onward_from kept piece g) e

silent-fault : (kept : TransportKept) (piece : List ℕ) (f : TpktError) → kept.fault ≡ Some f → ((onward kept piece).units ≡ []) × ((onward kept piece).kept.fault ≡ Some f)
silent-fault kept piece f e =
    let n = silent-after kept piece f e in
    (ap (λ (r : Reading). r.units) n, ap (λ (r : Reading). r.kept.fault) n ∙ e)

pub piece-ended : (own : TokenSide) (a : Association) (piece : List ℕ) → is_ended a.exchange.ending ≡ true → piece_received own a piece ≡ nothing_fed a
piece-ended own a piece e = rw e refl

pub piece-open : (own : TokenSide) (a : Association) (piece : List ℕ) → is_ended a.exchange.ending ≡ false
    → piece_received own a piece ≡ (let r = onward (stream_reading (end_of own) a.stream).kept piece in fed_by a piece r (reading_received own a.exchange r))
piece-open own a piece e = rw e refl

pieces-open : (own : TokenSide) (a : Association) (first second : List ℕ) → is_ended a.exchange.ending ≡ false → TellsInPieces own a first second
pieces-open own a first second e =
    let k = (stream_reading (end_of own) a.stream).kept in
    let r = onward k first in
    let s = onward r.kept second in
    let f = piece_received own a first in
    let whole = told own a (first ++ second) in
    let one = told own a first in
    let two = told own f.association second in
    let stream : f.association.stream ≡ a.stream ++ first = ap (λ (f : Fed). f.association.stream) (piece-open own a first e) in
    let kept : (stream_reading (end_of own) f.association.stream).kept ≡ r.kept =
    ap (λ (o : List ℕ). (stream_reading (end_of own) o).kept) stream ∙ kept-onward (end_of own) a.stream first in
    let x1 = (reading_received own a.exchange r).exchange in
    let same : reading_received own f.association.exchange (onward (stream_reading (end_of own) f.association.stream).kept second) ≡ reading_received own x1 s =
    ap (λ (x : Exchange). reading_received own x (onward (stream_reading (end_of own) f.association.stream).kept second)) one.exchange
    ∙ ap (λ (t : TransportKept). reading_received own x1 (onward t second)) kept in
    let all : reading_received own a.exchange (onward k (first ++ second)) ≡ preceded (reading_received own a.exchange r).indications (reading_received own x1 s) =
    ap (λ (x : Reading). reading_received own a.exchange x) (onward-pieces k first second) ∙ reading-pieces own a.exchange r s (silent-fault r.kept second) in
    record {
      indications = whole.indications ∙ ap (λ (received : Received). received.indications) all
          ∙ ap (λ (told : List Indication). told ++ (reading_received own x1 s).indications) (sym one.indications)
          ∙ ap (λ (told : List Indication). f.indications ++ told) (sym (two.indications ∙ ap (λ (received : Received). received.indications) same));
      exchange = whole.exchange ∙ ap (λ (received : Received). received.exchange) all ∙ sym (two.exchange ∙ ap (λ (received : Received). received.exchange) same);
    }

pieces-ended : (own : TokenSide) (a : Association) (first second : List ℕ) → is_ended a.exchange.ending ≡ true → TellsInPieces own a first second
pieces-ended own a first second e =
    let one = piece-ended own a first e in
    let two : piece_received own (piece_received own a first).association second ≡ nothing_fed a =
    ap (λ (f : Fed). piece_received own f.association second) one ∙ piece-ended own a second e in
    let whole = piece-ended own a (first ++ second) e in
    record {
      indications = ap (λ (f : Fed). f.indications) whole
          ∙ sym (ap (λ (f : Fed). f.indications ++ (piece_received own (piece_received own a first).association second).indications) one ∙ ap (λ (f : Fed). f.indications) two);
      exchange = ap (λ (f : Fed). f.association.exchange) whole ∙ sym (ap (λ (f : Fed). f.association.exchange) two);
    }

pieces-by : (own : TokenSide) (a : Association) (first second : List ℕ) (b : Bool) → is_ended a.exchange.ending ≡ b → TellsInPieces own a first second
pieces-by own a first second true e = pieces-ended own a first second e
pieces-by own a first second false e = pieces-open own a first second e

pub in-pieces : (own : TokenSide) (a : Association) (first second : List ℕ) → TellsInPieces own a first second
in-pieces own a first second = pieces-by own a first second (is_ended a.exchange.ending) refl

-- ---- octets one by one

pub by-octets : (own : TokenSide) (a : Association) (octet : ℕ) (octets : List ℕ) → TellsByOctets own a octet octets
by-octets own a octet [] = record { indications = append-nil (piece_received own a (octet ∷ [])).indications; exchange = refl }
by-octets own a octet (next ∷ octets) =
    let first = piece_received own a (octet ∷ []) in
    let others = by-octets own first.association next octets in
    let whole = in-pieces own a (octet ∷ []) (next ∷ octets) in
    record {
      indications = ap (λ (told : List Indication). first.indications ++ told) others.indications ∙ sym whole.indications;
      exchange = others.exchange ∙ sym whole.exchange;
    }

abbrev pub as_fed : List Indication → List ℕ → Association → Fed
as_fed indications answers a = record { indications = indications; answers = answers; association = a }

pub octets-cut : (own : TokenSide) (a : Association) (first second : List ℕ) → AreCut own a first second
octets-cut own a [] second = refl
octets-cut own a (octet ∷ first) second =
    let o = piece_received own a (octet ∷ []) in
    let f = octets_received own o.association first in
    let s = octets_received own f.association second in
    ap (λ (others : Fed). as_fed (o.indications ++ others.indications) (o.answers ++ others.answers) others.association) (octets-cut own o.association first second)
    ∙ rw (append_assoc o.indications f.indications s.indications, append_assoc o.answers f.answers s.answers) refl
