use Rattle.std.proofs.Common.{List, ℕ, OnOk, subst}
use Rattle.vf_initiator.specs.Owed.{Sends}
use Rattle.vf_initiator.specs.Talking.{AreSent}
use Rattle.vf_stack.specs.Represents.{offer_of}
use Rattle.vf_initiator.proofs.initiator.send_all.Goals as goal

pub returns-clause-sent : goal.returns-clause-sent
returns-clause-sent c = λ a stands is.
    subst (λ (out : List ℕ). OnOk c.send_each.result (Sends (AreSent (offer_of c.args.stack.now) a c.args.requests.now) out c.send_each.new.stack c.send_each.new.out.items)) c.make_room.ensures
    (c.send_each.ensures.sent a stands is)
