use Rattle.vf_base.specs.contracts.script_links.ScriptLinks.{the_view}
use Rattle.vf_base.proofs.LinkLemmas.{traffic_more}
use Rattle.vf_base.proofs.script_links.ScriptLinks.take.Goals as goal

pub returns-clause-ok : goal.returns-clause-ok
returns-clause-ok c =
    rw (← c.self.view_is, c.in_ok-push.ensures.items, c.in_ok-octets.ensures) (traffic_more (the_view c.self.inside) c.args.link c.args.octets.now)
