use Rattle.std.proofs.Common.{◌≡◌, ◌∙◌, ℕ, List, [], ◌∷◌, ◌++◌, ap, refl, subst}
use Rattle.vf_base.specs.declared.events.ScriptEvent.{ScriptEvent}
use Rattle.vf_base.specs.declared.events.ScriptEvent.TheVariants.{Octets}
use Rattle.vf_tpkt.specs.Tpdu.{packet, request}
use Rattle.vf_cli_calling.specs.Calling.{begun}
use Rattle.vf_cli_replay.specs.Running.{Begins, Running, with_end}
use Rattle.vf_cli_replay.specs.Standing.{HasCome, HasHappened, Stands}
use Rattle.vf_cli_replay.proofs.Delivering.{all_but, if_ok}
use Rattle.vf_cli_replay.proofs.Going.{event_comes}
use Rattle.vf_cli_replay.proofs.links.Links.begin.Goals as goal

pub returns-clause-happens : goal.returns-clause-happens
returns-clause-happens c = λ running stands.
    let link = c.args.link in
    let sync = c.args.sync in
    let old = c.args.self.now in
    let now : Running = record { serving = running.serving; ends = with_end link (begun sync) running.ends } in
    let store = old.responder.store in
    let text = c.args.text.now.items in
    let are = c.in_ok-put.ensures running.ends (begun sync) (all_but link old.callers.entries running.ends stands.callers) c.in_ok-caller.ensures.caller in
    let standing : Stands (record { responder = old.responder; callers = c.put.new.callers }) now = record { responder = stands.responder; stored = stands.stored; callers = are } in
    let octets : c.as_slice.result.now ≡ packet request =
    c.as_slice.ensures.value ∙ c.in_ok-caller.ensures.ok ∙ ap (λ (l : List ℕ). l ++ packet request) c.new-octets.ensures.items in
    let event : Octets link c.first_moment.result c.as_slice.result.now ≡ Octets link 0 (packet request) = λ i. Octets link (c.first_moment.ensures i) (octets i) in
    if_ok c.come.result _ (HasHappened running (Begins link sync ∷ []) text store c.come.new.self c.come.new.text.items)
    (λ halt come.
    event_comes running now (Begins link sync) (Octets link 0 (packet request)) text store c.come.new.self c.come.new.text.items halt (refl, refl)
    (subst (λ (e : ScriptEvent). HasCome now e text store c.come.new.self c.come.new.text.items halt) event come))
    (c.come.ensures.comes now standing)
