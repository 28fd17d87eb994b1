use Rattle.std.proofs.Common.{List, subst, refl, arith, ◌∙◌}
use Rattle.vf_initiator.proofs.Took.{took_few}
use Rattle.vf_stack.specs.Receiving.{octets_received}
use Rattle.vf_stack.specs.Represents.{Feeds, side_of}
use Rattle.vf_stack.specs.declared.indication.Indication.{Indication}
use Rattle.vf_initiator.proofs.initiator.Initiator.take_few.Goals as goal

pub returns : goal.returns
returns c = λ talk is goes.
    let i = c.args.self.now in
    let fed = octets_received (side_of i.stack) talk.association c.args.piece.now in
    let feeds = subst (λ (none : List Indication). Feeds fed none c.args.out.now.items c.feed.new.self c.feed.new.out.items c.feed.new.answers.items) c.new-told.ensures.items (c.in_ok-feed.ensures.received talk.association is.holds.association) in
    took_few i _ c.greet.new.self c.hear_all.new.self c.look.new.self talk c.args.piece.now c.feed.new.out.items c.args.out.now.items c.feed.new.answers.items c.greet.new.out.items c.hear_all.new.out.items is goes
    c.requires.some c.requires.few (c.few_octets_tell_last.ensures i.stack talk.association c.args.piece.now) feeds c.in_ok-feed.ensures.end refl refl refl (omega arith) c.in_ok-greet.ensures.greets (λ t holds. c.in_ok-hear_all.ensures t holds (c.in_ok-greet.ensures.waits ∙ is.waits)) c.look.ensures
