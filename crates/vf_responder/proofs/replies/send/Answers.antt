use Rattle.std.proofs.Common.{sym, subst}
use Rattle.std.specs.Prelude.{IsTrue, ◌↔◌}
use Rattle.vf_stack.specs.Represents.{offer_of, side_of}
use Rattle.vf_stack.specs.Sending.{May}
use Rattle.vf_stack.specs.declared.request.Request.{Request}
use Rattle.vf_responder.specs.Replies.{sending}
use Rattle.vf_responder.specs.Steps.{Sends}
use Rattle.vf_responder.proofs.SendingLemmas.{was-left, was-sent}
use Rattle.vf_responder.proofs.replies.send.Goals as goal

pub returns-then-may : goal.returns-then-may
returns-then-may c = λ association called.
    was-sent c.args.stack.now c.send.new.stack association c.args.request.now c.may.result c.args.out.now c.send.new.self called c.if-may.true
    (c.may.ensures.association association called.represents) c.send.ensures.end (c.in_ok-send.ensures.sent association called.represents)

pub returns-in-Check : goal.returns-in-Check
returns-in-Check c = λ association called.
    let P : Request → Type 0 = λ request. Sends (sending association request) c.args.out.now c.args.stack.now c.args.out.now in
    let Q : Request → Type 0 = λ request. IsTrue c.may.result ↔ May (side_of c.args.stack.now) (offer_of c.args.stack.now) association request in
    subst P (sym c.in-Check.is)
    (was-left c.args.stack.now association c.in-Check.serial c.may.result c.args.out.now called c.if-may.false
    (subst Q c.in-Check.is (c.may.ensures.association association called.represents)))
