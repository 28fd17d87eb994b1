-- A request that one stack sends the other receives.
use Rattle.std.proofs.Common.{◌≡◌, ◌≤◌, Bool, true, List, nat_le, subst}
use Rattle.std.proofs.lemmas.Bool.{and_parts, leb-true}
use Rattle.vf_session.specs.Trace.{state}
use Rattle.vf_session.specs.declared.units.TokenSide.{TokenSide}
use Rattle.vf_stack.specs.Association.{Association, end_of}
use Rattle.vf_stack.specs.Mutual.{IsRequestReceived}
use Rattle.vf_stack.specs.Sending.{permits, unit_sent}
use Rattle.vf_stack.specs.declared.ending.Ending.{Ending}
use Rattle.vf_stack.specs.declared.indication.Indication.{Indication}
use Rattle.vf_stack.specs.declared.request.Request.{Request}
use Rattle.vf_stack.proofs.ReceivedLemmas.{is-received}
use Rattle.vf_tpkt.specs.Sending.{is_open, is_received, most_of}
use Rattle.vf_tpkt.specs.Steps.{has_room}
use Rattle.vf_tpkt.specs.Stream.{reading as stream_reading}
use Rattle.vf_tpkt.specs.declared.phase.Phase.{Phase}
use Rattle.vf_tpkt.specs.declared.phase.Phase.TheVariants as phases

sized : (phase : Phase) → is_open phase ≡ true → has_room phase ≡ true → (1 ≤ most_of phase) × (most_of phase ≤ 65528)
sized phases.First o r = cc
sized (phases.Open most) o r =
    let both = and_parts (nat_le 1 most) (nat_le most 65528) r in
    (leb-true 1 most both.0, leb-true most 65528 both.1)
sized phases.Over o r = cc

pub request-received : (own : TokenSide) (offer far_offer : Bool) (a far : Association) (request : Request) (told : List Indication) → IsRequestReceived own offer far_offer a far request told
request-received own offer far_offer a far request told together goes may room tells =
    let kept = (stream_reading (end_of own) a.stream).kept in
    let P : Ending → Type 0 = λ ending. permits own offer (state own a.exchange.trace) (unit_sent own a request) ending ≡ true in
    let size = sized kept.connection.phase (and_parts (is_open kept.connection.phase) (is_received kept.fault) may.connected).0 room in
    is-received own offer far_offer a far (most_of kept.connection.phase) (unit_sent own a request) told together (subst P goes may.permitted) size.0 size.1 may.sendable.fits tells
