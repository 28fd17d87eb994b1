use Rattle.std.proofs.Common.{[], ◌∷◌, IfOk, refl, subst, sym}
use Rattle.vf_base.specs.declared.events.ScriptEvent.TheVariants.{Arrived}
use Rattle.vf_cli_script.specs.declared.line.LinkKind.{LinkKind}
use Rattle.vf_cli_replay.specs.Running.{Comes, arrival_of}
use Rattle.vf_cli_replay.specs.Standing.{HasHappened}
use Rattle.vf_cli_replay.proofs.Delivering.{if_ok}
use Rattle.vf_cli_replay.proofs.Going.{event_comes}
use Rattle.vf_cli_replay.proofs.links.Links.arrive.Goals as goal

pub returns-in-Raw-clause-happens : goal.returns-in-Raw-clause-happens
returns-in-Raw-clause-happens c = λ running stands.
    let store = c.args.self.now.responder.store in
    let text = c.args.text.now.items in
    let arrival = Comes (Arrived c.args.link) in
    subst (λ (kind : LinkKind). IfOk c.arrived.result (HasHappened running (arrival_of c.args.link kind) text store c.arrived.new.self c.arrived.new.text.items)) (sym c.in-Raw.is)
    (if_ok c.arrived.result _ (HasHappened running (arrival ∷ []) text store c.arrived.new.self c.arrived.new.text.items)
    (λ halt come. event_comes running running arrival (Arrived c.args.link) text store c.arrived.new.self c.arrived.new.text.items halt (refl, refl) come)
    (c.arrived.ensures.comes running stands))
