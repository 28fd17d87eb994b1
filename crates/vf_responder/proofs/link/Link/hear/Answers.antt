use Rattle.std.proofs.Common.{ℕ, List, ◌++◌, ◌∙◌, ap, false}
use Rattle.vf_responder.specs.Answers.{speaking}
use Rattle.vf_responder.proofs.HearLemmas.{fed}
use Rattle.vf_responder.proofs.link.Link.hear.Goals as goal

pub returns-clause-heard : goal.returns-clause-heard
returns-clause-heard c =
    fed c.args.self.now.number c.args.octets.now c.args.self.now.stack c.feed.new.self c.new-told.result.items c.feed.new.out.items c.new-answers.result.items c.feed.new.answers.items
    c.args.replies.now.items c.speak.new.replies.items c.new-told.ensures.items c.new-answers.ensures.items c.in_ok-feed.ensures.received c.in_ok-feed.ensures.end.0
    (c.in_ok-speak.ensures.said ∙ ap (λ (o : List ℕ). c.args.replies.now.items ++ speaking c.args.self.now.number o false) c.of.ensures)
