use Rattle.std.proofs.Common.{◌≡◌, ap, ◌∙◌, sym, refl, rules, [], Some}
use Rattle.vf_base.specs.Links.{after_fault, after_octets}
use Rattle.vf_base.specs.Script.{traffic_of}
use Rattle.vf_base.proofs.LinkLemmas.{traffic_none}
use Rattle.vf_base.proofs.script_links.ScriptLinksLinks.send.Goals as goal

pub returns-then-is_err-clause-traffic : goal.returns-then-is_err-clause-traffic
returns-then-is_err-clause-traffic c =
    let same : traffic_of c.take.new.self ≡ traffic_of c.args.self.now = search rules in
    ([], c.args.octets.now, refl, ap (λ traffic. Some traffic) (c.fail.ensures.traffic ∙ ap (after_fault c.args.link) (same ∙ sym (traffic_none (traffic_of c.args.self.now) c.args.link))))

pub returns-then-fails-clause-traffic : goal.returns-then-fails-clause-traffic
returns-then-fails-clause-traffic c =
    let more : traffic_of c.take.new.self ≡ after_octets c.args.link c.planned.result.now (traffic_of c.args.self.now) = search rules in
    let prefix = c.planned.ensures.prefix in
    (c.planned.result.now, prefix.0, prefix.1, ap (λ traffic. Some traffic) (c.fail-then-fails.ensures.traffic ∙ ap (after_fault c.args.link) more))

pub returns-clause-traffic : goal.returns-clause-traffic
returns-clause-traffic c =
    let more : traffic_of c.take.new.self ≡ after_octets c.args.link c.planned.result.now (traffic_of c.args.self.now) = search rules in
    ap (λ traffic. Some traffic) (rw (c.planned.ensures.whole c.if-fails.false) at more)
