use Rattle.std.proofs.Common.{◌≡◌, [], ◌∷◌, ap, subst}
use Rattle.std.specs.Option.{option_map}
use Rattle.vf_base.specs.declared.events.ScriptEvent.{ScriptEvent}
use Rattle.vf_base.specs.declared.events.ScriptEvent.TheVariants.{Octets}
use Rattle.vf_disk.specs.Memory.{Memory}
use Rattle.vf_store.specs.StoreState.{StoreState}
use Rattle.vf_cli_replay.proofs.Delivering.{comes_of, if_ok, none_of}
use Rattle.vf_cli_replay.proofs.Going.{event_comes, nothing_comes}
use Rattle.vf_cli_replay.specs.Running.{Speaks, end_on, moment_of}
use Rattle.vf_cli_replay.specs.Standing.{HasCome, HasHappened, HasSpoken}
use Rattle.vf_cli_replay.proofs.links.Links.says.Goals as goal

pub returns-in_default-clause-happens : goal.returns-in_default-clause-happens
returns-in_default-clause-happens c = λ running stands is.
    let link = c.args.link in
    let act = c.args.act.now in
    let spoken = c.in_ok-spoken.ensures.spoken running stands in
    let none = none_of running link act (end_on link running.ends) c.speak.new.self
    (subst (λ o. HasSpoken running link act (option_map (λ v. v.items) o) c.speak.new.self) c.in_default.is spoken) in
    nothing_comes running (Speaks link act) c.args.text.now.items c.args.self.now.responder.store c.speak.new.self none.0 none.1 (ap (λ r. r.store) c.speak.ensures.responder)

pub returns-clause-happens : goal.returns-clause-happens
returns-clause-happens c = λ running stands is.
    let link = c.args.link in
    let act = c.args.act.now in
    let text = c.args.text.now.items in
    let store = c.args.self.now.responder.store in
    let spoken = c.in_ok-spoken.ensures.spoken running stands in
    let octets = c.in-Some.octets.items in
    let comes = comes_of running link act (end_on link running.ends) octets c.speak.new.self
    (subst (λ o. HasSpoken running link act (option_map (λ v. v.items) o) c.speak.new.self) c.in-Some.is spoken) in
    let event : Octets link c.args.moment c.as_slice.result.now ≡ Octets link (moment_of act) octets = λ i. Octets link (is i) (c.as_slice.ensures.value i) in
    let same : c.speak.new.self.responder.store ≡ store = ap (λ r. r.store) c.speak.ensures.responder in
    if_ok c.come.result _ (HasHappened running (Speaks link act ∷ []) text store c.come.new.self c.come.new.text.items)
    (λ halt come.
    event_comes running comes.now (Speaks link act) (Octets link (moment_of act) octets) text store c.come.new.self c.come.new.text.items halt comes.spoken
    (subst (λ (s : StoreState Memory). HasCome comes.now (Octets link (moment_of act) octets) text s c.come.new.self c.come.new.text.items halt) same
    (subst (λ (e : ScriptEvent). HasCome comes.now e text c.speak.new.self.responder.store c.come.new.self c.come.new.text.items halt) event come)))
    (c.come.ensures.comes comes.now comes.stands)
