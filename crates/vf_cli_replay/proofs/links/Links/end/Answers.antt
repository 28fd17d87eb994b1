use Rattle.std.proofs.Common.{List, subst}
use Rattle.vf_base.specs.declared.events.ScriptEvent.TheVariants.{Ended}
use Rattle.vf_responder.specs.Represents.{Answers}
use Rattle.vf_responder.specs.Run.{trail}
use Rattle.vf_responder.specs.declared.event.Reply.{Reply}
use Rattle.vf_cli_replay.specs.Hearing.{HasHeard}
use Rattle.vf_cli_replay.specs.Running.{heard_all, joined}
use Rattle.vf_cli_replay.specs.declared.links.Links.{Links}
use Rattle.vf_cli_replay.proofs.Delivering.{comes_to_halt, comes_well}
use Rattle.vf_cli_replay.proofs.links.Links.end.Goals as goal

pub returns-in-Ok-clause-comes : goal.returns-in-Ok-clause-comes
returns-in-Ok-clause-comes c = λ running stands.
    let event = Ended c.args.link in
    let links : Links = record { responder = c.deliver.new.self; callers = c.hear_all.new.callers } in
    let text = c.args.text.now.items in
    let told = c.deliver.new.replies.items in
    let answers = subst (λ (old : List Reply). Answers (trail event running.serving) running.serving old links.responder told) c.new-replies.ensures.items
    (c.in-Ok.ensures.answers running.serving stands.responder) in
    let heard = c.in_ok-hear_all-in-Ok.ensures running.ends stands.callers in
    comes_well running event text c.hear_all.new.text.items c.args.self.now.responder.store links told answers
    (c.in-Ok.ensures.represented running.serving stands.responder stands.stored)
    (subst (λ (replies : List Reply). HasHeard (heard_all (joined replies) running.ends) text links.callers.entries c.hear_all.new.text.items) c.as_slice.ensures.value heard)
    (c.in-Ok.ensures.commits running.serving stands.responder)

pub returns-clause-comes : goal.returns-clause-comes
returns-clause-comes c = λ running stands.
    let event = Ended c.args.link in
    let links : Links = record { responder = c.deliver.new.self; callers = c.args.self.now.callers } in
    comes_to_halt running event c.args.text.now.items c.args.self.now.responder.store c.in-Err.error c.in_ok-halt-in-Err.halt links c.in_ok-halt-in-Err.ensures
    (c.in-Err.ensures.any_moment running.serving stands.responder stands.stored) (c.in-Err.ensures.commits running.serving stands.responder)
