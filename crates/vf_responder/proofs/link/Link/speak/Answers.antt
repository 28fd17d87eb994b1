use Rattle.std.proofs.Common.{◌≡◌, ℕ, List, ◌++◌, ◌∙◌, ap}
use Rattle.vf_responder.specs.Answers.{speaking}
use Rattle.vf_responder.specs.Replies.{sending_all}
use Rattle.vf_responder.proofs.link.Link.speak.Goals as goal

pub returns-clause-said : goal.returns-clause-said
returns-clause-said c = λ association indication called asked.
    let sent = c.in_ok-send_all.ensures association indication called asked in
    let octets : c.send_all.new.out ≡ (sending_all indication association c.args.said.items).octets =
    sent.octets ∙ ap (λ (l : List ℕ). l ++ (sending_all indication association c.args.said.items).octets) c.new-out.ensures in
    record {
      spoken = c.in_ok-speak.ensures.said ∙ ap (λ (o : List ℕ). c.args.replies.now.items ++ speaking c.args.self.now.number o c.args.shut) octets;
      called = sent.called;
    }
