use Rattle.std.proofs.Common.{ℕ, List, subst, sym}
use Rattle.vf_stack.specs.Sends.{Sends}
use Rattle.vf_stack.specs.Represents.{side_of}
use Rattle.vf_responder.proofs.SpokenLemmas.{sent-after, whole-after}
use Rattle.vf_responder.proofs.spoken.Spoken.send.Goals as goal

pub returns-in_ok-put-in-Some-clause-sent : goal.returns-in_ok-put-in-Some-clause-sent
returns-in_ok-put-in-Some-clause-sent c = λ a rep.
    let sent = rw c.in-Some.is at (c.in_ok-string.ensures.front a rep) in
    sent-after (side_of c.args.stack.now) a c.args.request.now c.send_front.new.self c.self.inside.parts.items c.reserve.new.self.items c.args.self.now c.send_front.new.out.items c.in-Some.string.now _
    (rw c.in_ok-reserve.ensures.items c.self.view_is) sent c.in_ok-put-in-Some.ensures

pub returns-in_ok-close_long-in-None-clause-sent : goal.returns-in_ok-close_long-in-None-clause-sent
returns-in_ok-close_long-in-None-clause-sent c = λ a rep.
    let sent = rw c.in-None.is at (c.in_ok-string.ensures.whole a rep) in
    subst (λ (o : List ℕ). Sends (side_of c.args.stack.now) a c.args.request.now c.args.self.now c.send_front.new.self o) (sym c.in_ok-close_long-in-None.ensures)
    (whole-after (side_of c.args.stack.now) a c.args.request.now c.send_front.new.self c.self.inside.parts.items c.reserve.new.self.items c.args.self.now c.send_front.new.out.items
    (rw c.in_ok-reserve.ensures.items c.self.view_is) sent)
