-- A piece of the stream.
use Rattle.std.proofs.Common.{◌≡◌, ℕ, true, false, List, [], ◌++◌, refl, ap, sym, subst, ◌∙◌, append-nil, Option}
use Rattle.vf_session.specs.declared.units.TokenSide.{TokenSide}
use Rattle.vf_stack.specs.Association.{Association, end_of, is_ended}
use Rattle.vf_stack.specs.Receiving.{Fed, each, fed_by, piece_received, reading_received, received_next, stopped_by}
use Rattle.vf_stack.specs.Represents.{Feeds, Kept, Listens, Receives, Represents, side_of}
use Rattle.vf_stack.specs.declared.exchange.KeptExchange.{KeptExchange}
use Rattle.vf_stack.specs.declared.indication.Indication.{Indication}
use Rattle.vf_tpkt.specs.Receiving.{Kept as TransportKept, Reading, onward}
use Rattle.vf_tpkt.specs.Stream.{HasReceived, reading as stream_reading}
use Rattle.vf_tpkt.specs.declared.error.TpktError.{TpktError}
use Rattle.vf_tpkt.specs.declared.unit.Unit.{Unit as TransportUnit}
use Rattle.vf_stack.proofs.FoldLemmas.{receives-then}
use Rattle.vf_stack.proofs.PieceLemmas.{kept-onward, piece-ended, piece-open}

-- an end that is ended takes nothing
pub feeds-ended : (kept : Kept) (a : Association) (piece : List ℕ) (out : List Indication) (answers : List ℕ)
    → Represents kept a → is_ended kept.exchange.ending ≡ true → Feeds (piece_received (side_of kept) a piece) out answers kept out answers
feeds-ended kept a piece out answers rep e =
    let ended : is_ended a.exchange.ending ≡ true = sym (ap is_ended rep.stands.ending_is) ∙ e in
    let P : Fed → Type 0 = λ f. Feeds f out answers kept out answers in
    subst P (sym (piece-ended (side_of kept) a piece ended)) (record { indications = sym (append-nil out); answered = sym (append-nil answers); represents = rep })

-- What transport reads of the piece is received.
feeds-reading : (kept kept' : Kept) (a : Association) (piece : List ℕ) (out out' : List Indication) (answers : List ℕ)
    → Represents kept a → is_ended kept.exchange.ending ≡ false
    → kept'.transport ≡ (onward kept.transport piece).kept
    → Receives kept.exchange out (λ own x. reading_received own x (onward kept.transport piece)) kept'.exchange out'
    → Feeds (piece_received (side_of kept) a piece) out answers kept' out' (answers ++ (onward kept.transport piece).answers)
feeds-reading kept kept' a piece out out' answers rep e transport received =
    let own = side_of kept in
    let r0 = onward kept.transport piece in
    let r = onward (stream_reading (end_of own) a.stream).kept piece in
    let same : r0 ≡ r = ap (λ (t : TransportKept). onward t piece) rep.stream_is in
    let goes : is_ended a.exchange.ending ≡ false = sym (ap is_ended rep.stands.ending_is) ∙ e in
    let t = received.1 a.exchange rep.stands in
    let stream : kept'.transport ≡ (stream_reading (end_of own) (a.stream ++ piece)).kept =
    transport ∙ ap (λ (x : Reading). x.kept) same ∙ sym (kept-onward (end_of own) a.stream piece) in
    let Q : TokenSide → Type 0 = λ s. HasReceived kept'.transport (end_of s) (a.stream ++ piece) in
    let done : Feeds (fed_by a piece r0 (reading_received own a.exchange r0)) out answers kept' out' (answers ++ r0.answers) =
    record { indications = t.0; answered = refl; represents = record { stream_is = subst Q (sym received.0.0) stream; stands = t.1 } } in
    let F : Fed → Type 0 = λ f. Feeds f out answers kept' out' (answers ++ r0.answers) in
    let told : piece_received own a piece ≡ fed_by a piece r0 (reading_received own a.exchange r0) =
    piece-open own a piece goes ∙ ap (λ (x : Reading). fed_by a piece x (reading_received own a.exchange x)) (sym same) in
    subst F (sym told) done

-- The parts of receiving a piece, by what transport told.
pub feeds-all : (kept kept1 kept' : Kept) (x2 : KeptExchange) (a : Association) (piece : List ℕ) (out out2 out' : List Indication) (answers answers' : List ℕ) (units : List TransportUnit) (fault : Option TpktError)
    → Represents kept a → is_ended kept.exchange.ending ≡ false
    → Listens kept (onward kept.transport piece) [] answers kept1 units answers' fault
    → Receives kept1.exchange out (λ own x. each (received_next own) x units) x2 out2
    → kept'.transport ≡ kept1.transport
    → Receives x2 out2 (λ own x. stopped_by x fault) kept'.exchange out'
    → Feeds (piece_received (side_of kept) a piece) out answers kept' out' answers'
feeds-all kept kept1 kept' x2 a piece out out2 out' answers answers' units fault rep e listens all same stop =
    let r = onward kept.transport piece in
    let K : KeptExchange → Type 0 = λ k. Receives k out (λ own x. each (received_next own) x units) x2 out2 in
    let all1 : K kept.exchange = subst K (ap (λ (k : Kept). k.exchange) listens.kept_is) all in
    let U : List TransportUnit → Type 0 = λ us. Receives kept.exchange out (λ own x. each (received_next own) x us) x2 out2 in
    let all2 : U r.units = subst U listens.units_are all1 in
    let S : Option TpktError → Type 0 = λ f. Receives x2 out2 (λ own x. stopped_by x f) kept'.exchange out' in
    let stop1 : S r.kept.fault = subst S (sym listens.fault_is) stop in
    let whole = receives-then kept.exchange x2 kept'.exchange out out2 out' (λ own x. each (received_next own) x r.units) (λ own x. stopped_by x r.kept.fault) all2 stop1 in
    let A : List ℕ → Type 0 = λ given. Feeds (piece_received (side_of kept) a piece) out answers kept' out' given in
    subst A (sym listens.answers_are) (feeds-reading kept kept' a piece out out' answers rep e (same ∙ ap (λ (k : Kept). k.transport) listens.kept_is) whole)
