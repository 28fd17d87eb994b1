use Rattle.std.proofs.lemmas.Result.{IfOk-weaker}
use Rattle.vf_initiator.proofs.Sent.{one_left_out, one_sent}
use Rattle.vf_stack.specs.Represents.{offer_of, side_of}
use Rattle.vf_initiator.proofs.initiator.send_one.Goals as goal

pub returns-then-not-may-clause-sent : goal.returns-then-not-may-clause-sent
returns-then-not-may-clause-sent c = λ a stands is.
    let stack = c.args.stack.now in
    one_left_out (side_of stack) (offer_of stack) a c.args.request.now c.args.out.now.items stack c.may.result is c.if-not-may.true (c.may.ensures.association a stands).1 stands

pub returns-clause-sent : goal.returns-clause-sent
returns-clause-sent c = λ a stands is.
    let stack = c.args.stack.now in
    IfOk-weaker c.send.result _ _
    (λ done sends. one_sent (side_of stack) (offer_of stack) a c.args.request.now c.args.out.now.items c.send.new.out.items c.send.new.self is ((c.may.ensures.association a stands).0 c.if-not-may.false) sends)
    (c.send.ensures.sent a stands)
