use Rattle.std.proofs.Common.{refl}
use Rattle.vf_session.specs.declared.units.TokenSide.TheVariants.{Initiator}
use Rattle.vf_cli_calling.proofs.Hearing.{heard_few}
use Rattle.vf_cli_calling.proofs.caller.Caller.hear_few.Goals as goal

pub returns : goal.returns
returns c = λ calling is.
    heard_few c.args.link c.args.self.now _ c.tell_all.new.self calling c.args.octets.now c.new-told.result.items c.feed.new.out.items c.as_slice.result.now c.new-answers.result.items c.feed.new.answers.items c.args.text.now.items c.tell_all.new.text.items is c.requires
    (c.few_octets_tell_last.ensures c.args.self.now.stack calling.association c.args.octets.now) (c.told_was_read.ensures Initiator calling.association c.args.octets.now) c.new-told.ensures.items
    (c.in_ok-feed.ensures.received calling.association is.association) c.in_ok-feed.ensures.end refl refl c.as_slice.ensures.value c.in_ok-tell_all.ensures
