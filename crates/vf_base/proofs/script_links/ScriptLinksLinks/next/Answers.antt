use Rattle.std.proofs.Common.{◌≡◌, ap, ◌∙◌, rules}
use Rattle.vf_base.specs.Script.{octets_of}
use Rattle.vf_base.specs.declared.events.ScriptEvent.TheVariants as script
use Rattle.vf_base.proofs.LinkLemmas.{hands_out}
use Rattle.vf_base.proofs.script_links.ScriptLinksLinks.next.Goals as goal

pub returns-in-Arrived-clause-traffic : goal.returns-in-Arrived-clause-traffic
returns-in-Arrived-clause-traffic c =
    let links = c.self.inside in
    rw (← c.self.view_is) (hands_out links.events.items c.deref.result.now links.place c.in-Some.event.now (script.Arrived c.in-Arrived.link) (λ link. octets_of link links.pieces.items) links.shut.items links.failed.items c.deref.ensures.value c.in-Some.ensures.lookup.0 c.in-Some.ensures.lookup.1 c.in-Arrived.is)

pub returns-in-Ended-clause-traffic : goal.returns-in-Ended-clause-traffic
returns-in-Ended-clause-traffic c =
    let links = c.self.inside in
    rw (← c.self.view_is) (hands_out links.events.items c.deref.result.now links.place c.in-Some.event.now (script.Ended c.in-Ended.link) (λ link. octets_of link links.pieces.items) links.shut.items links.failed.items c.deref.ensures.value c.in-Some.ensures.lookup.0 c.in-Some.ensures.lookup.1 c.in-Ended.is)

pub returns-else-is_err-clause-traffic : goal.returns-else-is_err-clause-traffic
returns-else-is_err-clause-traffic c =
    let links = c.self.inside in
    let filled : c.in-Octets.octets ≡ c.extend_from_slice.new.self.items = search rules in
    rw (← c.self.view_is) (hands_out links.events.items c.deref.result.now links.place c.in-Some.event.now (script.Octets c.in-Octets.link c.in-Octets.moment c.extend_from_slice.new.self.items) (λ link. octets_of link links.pieces.items) links.shut.items links.failed.items c.deref.ensures.value c.in-Some.ensures.lookup.0 c.in-Some.ensures.lookup.1 (c.in-Octets.is ∙ ap (λ octets. script.Octets c.in-Octets.link c.in-Octets.moment octets) filled))
