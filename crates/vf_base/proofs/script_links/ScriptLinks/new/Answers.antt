use Rattle.std.proofs.Common.{arith, [], rules}
use Rattle.vf_base.proofs.LinkLemmas.{once_none}
use Rattle.vf_base.proofs.script_links.ScriptLinks.new.Goals as goal

pub invariant_of-result : goal.invariant_of-result
invariant_of-result c = record {
  inside = omega arith;
  script = c.requires;
  shut_once = once_none [] c.in_ok-shut.shut.items c.in_ok-shut.ensures.items;
  shut_room = search rules;
  failed_once = once_none [] c.in_ok-failed.failed.items c.in_ok-failed.ensures.items;
  failed_room = search rules;
}
