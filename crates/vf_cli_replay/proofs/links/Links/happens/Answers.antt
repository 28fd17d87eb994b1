use Rattle.std.proofs.Common.{List, ℕ, IfOk, ap, refl, subst, sym}
use Rattle.vf_base.specs.declared.events.ScriptEvent.TheVariants.{Ended, Octets}
use Rattle.vf_cli_script.specs.declared.line.Act.TheVariants as acts
use Rattle.vf_cli_replay.proofs.Going.{line_comes, line_happens, line_says}
use Rattle.vf_cli_replay.specs.Running.{moment_of}
use Rattle.vf_cli_replay.specs.Standing.{HasCome}
use Rattle.vf_cli_replay.proofs.links.Links.happens.Goals as goal

pub returns-in-Arrive-clause-happens : goal.returns-in-Arrive-clause-happens
returns-in-Arrive-clause-happens c = λ running stands.
    let line = c.args.line.now in
    line_happens running line.link c.args.text.now.items c.args.self.now.responder.store c.arrive.new.self c.arrive.new.text.items c.arrive.result line.act (acts.Arrive c.in-Arrive.kind)
    c.in-Arrive.is (c.arrive.ensures.happens running stands)

pub returns-in-End-clause-happens : goal.returns-in-End-clause-happens
returns-in-End-clause-happens c = λ running stands.
    let line = c.args.line.now in
    let store = c.args.self.now.responder.store in
    line_happens running line.link c.args.text.now.items store c.end.new.self c.end.new.text.items c.end.result line.act acts.End c.in-End.is
    (line_comes running line.link c.args.text.now.items store c.end.new.self c.end.new.text.items c.end.result (Ended line.link) (c.end.ensures.comes running stands))

pub returns-in-Said-clause-happens : goal.returns-in-Said-clause-happens
returns-in-Said-clause-happens c = λ running stands.
    let line = c.args.line.now in
    let act = acts.Said c.in-Said.moment c.in-Said.messages in
    line_says running line.link c.args.text.now.items c.args.self.now.responder.store c.says.new.self c.says.new.text.items c.says.result line.act act
    c.in-Said.is refl (c.says.ensures.happens running stands (sym (ap moment_of c.in-Said.is)))

pub returns-in-Octets-clause-happens : goal.returns-in-Octets-clause-happens
returns-in-Octets-clause-happens c = λ running stands.
    let line = c.args.line.now in
    let store = c.args.self.now.responder.store in
    let text = c.args.text.now.items in
    line_happens running line.link text store c.come.new.self c.come.new.text.items c.come.result line.act (acts.Octets c.in-Octets.moment c.in-Octets.octets) c.in-Octets.is
    (line_comes running line.link text store c.come.new.self c.come.new.text.items c.come.result (Octets line.link c.in-Octets.moment c.in-Octets.octets)
    (subst (λ (o : List ℕ). IfOk c.come.result (HasCome running (Octets line.link c.in-Octets.moment o) text store c.come.new.self c.come.new.text.items)) c.as_slice.ensures (c.come.ensures.comes running stands)))

pub returns-in-Check-clause-happens : goal.returns-in-Check-clause-happens
returns-in-Check-clause-happens c = λ running stands.
    let line = c.args.line.now in
    line_says running line.link c.args.text.now.items c.args.self.now.responder.store c.says-in-Check.new.self c.says-in-Check.new.text.items c.says-in-Check.result line.act (acts.Check c.in-Check.moment)
    c.in-Check.is refl (c.says-in-Check.ensures.happens running stands (sym (ap moment_of c.in-Check.is)))

pub returns-in-Acknowledge-clause-happens : goal.returns-in-Acknowledge-clause-happens
returns-in-Acknowledge-clause-happens c = λ running stands.
    let line = c.args.line.now in
    line_says running line.link c.args.text.now.items c.args.self.now.responder.store c.says-in-Acknowledge.new.self c.says-in-Acknowledge.new.text.items c.says-in-Acknowledge.result line.act (acts.Acknowledge c.in-Acknowledge.moment c.in-Acknowledge.point)
    c.in-Acknowledge.is refl (c.says-in-Acknowledge.ensures.happens running stands (sym (ap moment_of c.in-Acknowledge.is)))

pub returns-in-Restart-clause-happens : goal.returns-in-Restart-clause-happens
returns-in-Restart-clause-happens c = λ running stands.
    let line = c.args.line.now in
    line_says running line.link c.args.text.now.items c.args.self.now.responder.store c.says-in-Restart.new.self c.says-in-Restart.new.text.items c.says-in-Restart.result line.act (acts.Restart c.in-Restart.moment c.in-Restart.point)
    c.in-Restart.is refl (c.says-in-Restart.ensures.happens running stands (sym (ap moment_of c.in-Restart.is)))

pub returns-in-Pass-clause-happens : goal.returns-in-Pass-clause-happens
returns-in-Pass-clause-happens c = λ running stands.
    let line = c.args.line.now in
    line_says running line.link c.args.text.now.items c.args.self.now.responder.store c.says-in-Pass.new.self c.says-in-Pass.new.text.items c.says-in-Pass.result line.act (acts.Pass c.in-Pass.moment)
    c.in-Pass.is refl (c.says-in-Pass.ensures.happens running stands (sym (ap moment_of c.in-Pass.is)))
