use Rattle.std.proofs.Common.{refl, subst, ◌∙◌, arith, Bool}
use Rattle.vf_initiator.proofs.Sent.{sends_all, sends_next, sends_none}
use Rattle.vf_initiator.specs.Owed.{Sends}
use Rattle.vf_initiator.specs.Talking.{IsSent}
use Rattle.vf_stack.specs.Represents.{offer_of}
use Rattle.vf_initiator.proofs.initiator.send_each.Goals as goal

pub loop-request-init : goal.loop-request-init
loop-request-init c = ((refl, refl), λ a stands is. sends_none (offer_of c.args.stack.now) a c.args.requests.now c.args.out.now.items c.args.stack.now stands)

pub loop-request-preserved : goal.loop-request-preserved
loop-request-preserved c =
    let before = c.loop-request.invariant in
    let end = c.send_one.ensures.end in (
      (end.0 ∙ before.0.0, end.1 ∙ before.0.1),
      λ a stands is.
          sends_next (offer_of c.args.stack.now) a c.args.requests.now c.args.out.now.items c.loop-request.stack c.loop-request.out.items c.send_one.new.stack c.send_one.new.out.items c.request-item.result c.loop-request.request-index (omega arith) c.request-item.is (before.1 a stands is)
          (λ b now.
          subst (λ (offer : Bool). Sends (IsSent offer b c.request-item.result) c.loop-request.out.items c.send_one.new.stack c.send_one.new.out.items) before.0.1
          (c.in_ok-send_one.ensures.sent b now (before.0.0 ∙ is))),
    )

pub returns-clause-sent : goal.returns-clause-sent
returns-clause-sent c = λ a stands is.
    sends_all (offer_of c.args.stack.now) a c.args.requests.now c.args.out.now.items c.loop-request.stack c.loop-request.out.items c.loop-request.request-index (omega arith) (c.loop-request.invariant.1 a stands is)
