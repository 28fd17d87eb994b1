use Rattle.std.proofs.Common.{[], ◌∷◌, Option, None, Some, refl, subst}
use Rattle.vf_base.specs.declared.events.ScriptEvent.TheVariants.{Arrived}
use Rattle.vf_cli_replay.specs.Running.{Begins, Comes, Event}
use Rattle.vf_cli_replay.specs.Standing.{HasCome, HasGone, HasHappened}
use Rattle.vf_cli_replay.specs.declared.halt.Halt.{Halt}
use Rattle.vf_cli_replay.proofs.Delivering.{if_ok}
use Rattle.vf_cli_replay.proofs.Going.{ended_before, event_comes, happens_then}
use Rattle.vf_cli_replay.proofs.links.Links.call.Goals as goal

pub returns-in-None-clause-happens : goal.returns-in-None-clause-happens
returns-in-None-clause-happens c = λ running stands.
    let link = c.args.link in
    let store = c.args.self.now.responder.store in
    let text = c.args.text.now.items in
    let arrival : Event = Comes (Arrived link) in
    let gone : HasGone running (arrival ∷ []) text store c.arrived.new.self c.arrived.new.text.items =
    event_comes running running arrival (Arrived link) text store c.arrived.new.self c.arrived.new.text.items None (refl, refl)
    (subst (λ (h : Option Halt). HasCome running (Arrived link) text store c.arrived.new.self c.arrived.new.text.items h) c.in-None.is (c.in_ok-halted.ensures.comes running stands)) in
    if_ok c.begin.result _ (HasHappened running (arrival ∷ Begins link c.args.sync ∷ []) text store c.begin.new.self c.begin.new.text.items)
    (λ halt happens.
    happens_then running (arrival ∷ []) (Begins link c.args.sync ∷ []) text store c.arrived.new.self c.begin.new.self c.arrived.new.text.items c.begin.new.text.items halt gone happens)
    (c.begin.ensures.happens gone.course.after gone.stands)

pub returns-in-Some-clause-happens : goal.returns-in-Some-clause-happens
returns-in-Some-clause-happens c = λ running stands.
    let link = c.args.link in
    let store = c.args.self.now.responder.store in
    let text = c.args.text.now.items in
    let arrival : Event = Comes (Arrived link) in
    ended_before running (arrival ∷ []) (Begins link c.args.sync ∷ []) text store c.in-Some.halt c.arrived.new.self.responder.store c.arrived.new.text.items
    (event_comes running running arrival (Arrived link) text store c.arrived.new.self c.arrived.new.text.items (Some c.in-Some.halt) (refl, refl)
    (subst (λ (h : Option Halt). HasCome running (Arrived link) text store c.arrived.new.self c.arrived.new.text.items h) c.in-Some.is (c.in_ok-halted.ensures.comes running stands)))
